-- Reading XDR values from the front of octets, RFC 4506, with the first fault that is met.
use Rattle.std.specs.Prelude.{◌≡◌, ◌≢◌, ℕ, zero, suc, ◌-◌, ◌==◌, nat_lt, if◌then◌else◌, List, []}
use Rattle.std.specs.Prelude.{◌∷◌, length, take, drop, Result, Ok, Err}
use Rattle.std.specs.Int.{w32, from_be_bytes}
use Rattle.rpc_msgs.specs.Words.{padding_length}
use Rattle.rpc_msgs.specs.declared.xdr_reader.XdrRefusal.{XdrRefusal}
use Rattle.rpc_msgs.specs.declared.xdr_reader.XdrWhy.{XdrWhy}
use Rattle.rpc_msgs.specs.declared.xdr_reader.XdrWhy.TheVariants.{Short, TooLong, Padding, NoMemory}

-- the octets that are left, and the place behind the last of them
pub record Input : Type 0 where
  pub octets : List ℕ
  pub end : ℕ

-- octets from their first on
abbrev pub whole : List ℕ → Input
whole octets = record { octets = octets; end = length octets }

-- the place of the next octet
abbrev pub place : Input → ℕ
place i = i.end - length i.octets

-- what stands behind so many octets
abbrev pub behind : ℕ → Input → Input
behind size i = record { octets = drop size i.octets; end = i.end }

-- the refusal for a reason at a place
abbrev pub refusal : XdrWhy → ℕ → XdrRefusal
refusal why at = record { at = at; why = why }

-- the rest of a reading, unless the part before was refused
infixl 10 ◌>>=◌
-- the first part that is refused decides
abbrev pub ◌>>=◌ : {A B E : Type 0} → Result A E → (A → Result B E) → Result B E
(Ok x) >>= next = next x
(Err e) >>= next = Err e

-- so many octets as they are
unfoldable pub octets_at : ℕ → Input → Result (List ℕ × Input) XdrRefusal
octets_at size i = if nat_lt (length i.octets) size then Err (refusal Short i.end)
    else Ok (take size i.octets, behind size i)

-- an unsigned number of 32 bits (RFC 4506 section 4.2)
unfoldable pub word_at : Input → Result (ℕ × Input) XdrRefusal
word_at i = do
  octets ← octets_at 4 i
  Ok (from_be_bytes w32 octets.0, octets.1)

-- so many zeros
unfoldable pub zeros_in : ℕ → List ℕ → ℕ → Result Input XdrRefusal
zeros_in zero octets end = Ok (record { octets = octets; end = end })
zeros_in (suc count) [] end = Err (refusal Short end)
zeros_in (suc count) (octet ∷ octets) end = if octet == 0 then zeros_in count octets end
    else Err (refusal Padding (end - length (octet ∷ octets)))

-- octets of variable length within a limit (RFC 4506 section 4.10): the length is judged against
-- the limit first, then against the octets that are there, and then the padding is judged
unfoldable pub opaque_at : ℕ → Input → Result (List ℕ × Input) XdrRefusal
opaque_at limit i = do
  size ← word_at i
  if nat_lt limit size.0 then Err (refusal TooLong (place i)) else (do
    octets ← octets_at size.0 size.1
    rest ← zeros_in (padding_length size.0) octets.1.octets octets.1.end
    Ok (octets.0, rest))

-- nothing is left: an octet that is left is one too many
unfoldable pub end_at : Input → Result (Unit {0}) XdrRefusal
end_at i = if length i.octets == 0 then Ok tt else Err (refusal TooLong (place i))

-- the answer of a reading
abbrev pub Answers : {A B E : Type 0} → (A → B) → Result A E → Result B E → Type 0
Answers view (Ok x) answer = answer ≡ Ok (view x)
Answers view (Err e) answer = answer ≡ Err e

-- the answer of a reading at the front, and what it leaves
abbrev pub Reads : {A B E : Type 0} → (A → B) → Input → Result A E → Result (B × Input) E → Type 0
Reads view left (Ok x) answer = answer ≡ Ok (view x, left)
Reads view left (Err e) answer = answer ≡ Err e

-- this value was read, and this is left behind it
abbrev pub IsRead : {A B E : Type 0} → (A → B) → Input → Input → Result A E → B → List ℕ → Type 0
IsRead view old new (Ok x) value back = (view x ≡ value)
    × (new ≡ record { octets = back; end = old.end })
IsRead view old new (Err e) value back = ⊥

-- the answer of a reading that takes memory: want of it may come instead
abbrev pub MayAnswer : {A B : Type 0} → (A → B) → Result A XdrRefusal → Result B XdrRefusal → Type 0
MayAnswer view (Ok x) answer = answer ≡ Ok (view x)
MayAnswer view (Err e) answer = e.why ≢ NoMemory → answer ≡ Err e
