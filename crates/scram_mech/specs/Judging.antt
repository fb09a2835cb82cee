-- What is judged at several steps.
use Rattle.std.specs.Prelude.{ℕ, ◌-◌, Bool, true, false, nat_eq, nat_lt, nat_le, ◌&&◌, List}
use Rattle.std.specs.Prelude.{[], ◌∷◌, length, take, Result, Ok, Err}
use Rattle.std.specs.Prelude.{if◌then◌else◌}
use lib.Pointwise.{pointwise}
use Rattle.gss_base.specs.Mech.{is_oid_of}
use Rattle.gss_base.specs.declared.mech.MechKind.TheVariants.{Scram}
use Rattle.der_core.specs.declared.refusal.DerRefusal.{DerRefusal}
use Rattle.der_core.specs.Format.{all_of}
use Rattle.der_core.specs.Frame.{framed}
use Rattle.scram_mech.specs.declared.run.Class.{Class}
use Rattle.scram_mech.specs.declared.refusal.ScramRefusal.{ScramRefusal}
use Rattle.scram_mech.specs.declared.refusal.ScramRefusal.TheVariants.{Text}
use Rattle.scram_mech.specs.Reading.{◌>>=◌, in_text}
use Rattle.scram_mech.specs.State.{some}
use Rattle.scram_mech.specs.Formats.{Value, End, pieces_of}

-- refused unless it holds
abbrev pub demand : {E : Type 0} → Bool → E → Result (Unit {0}) E
demand true refusal = Ok tt
demand false refusal = Err refusal

-- a user or a password that was given: octets of a class, one at least and so many at most
unfoldable pub judged : Class → ℕ → List ℕ → Result (Unit {0}) ScramRefusal
judged class most octets = do
  values ← in_text octets (pieces_of (Value (some class most) ∷ End ∷ []) octets)
  Ok tt

-- the same octets
abbrev pub same : List ℕ → List ℕ → Bool
same a b = pointwise nat_eq a b

-- a nonce that begins with another one and adds to it
abbrev pub is_extended : List ℕ → List ℕ → Bool
is_extended own nonce = nat_lt (length own) (length nonce) && same (take (length own) nonce) own

-- rounds within the limits
abbrev pub are_rounds : ℕ → Bool
are_rounds rounds = nat_le 4096 rounds && nat_le rounds 200000

-- what a frame holds, RFC 2743 section 3.1; one of another mechanism is refused at the content of
-- its identifier
abbrev pub held : List ℕ → Result (List ℕ × List ℕ) DerRefusal → Result (List ℕ) ScramRefusal
held token (Err refusal) = Err (Text refusal.at)
held token (Ok frame) = if is_oid_of Scram frame.0 then Ok frame.1
    else Err (Text (length token - length frame.1 - length frame.0))

-- the first text that a whole token holds in its frame
unfoldable pub unframed : List ℕ → Result (List ℕ) ScramRefusal
unframed token = held token (framed.read (all_of token))
