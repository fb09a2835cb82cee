-- Messages of a stream, each with its length in front (RFC 4752 section 3, RFC 4422 section 3.7).
use Rattle.std.specs.Prelude.{◌≡◌, ◌⊎◌, ℕ, ◌+◌, ◌<◌, ◌^◌, min, List, [], ◌∷◌, ◌++◌, length}
use Rattle.std.specs.Prelude.{Result, Ok, Err}
use Rattle.std.specs.Int.{w32, to_be_bytes}
use Rattle.sec_base.specs.Link.{Wire}
use Rattle.sec_base.specs.Streams.{Took}
use Rattle.sasl_frames.specs.declared.message.ReadEnd.{ReadEnd}
use Rattle.sasl_frames.specs.declared.message.ReadEnd.TheVariants.{Ended, Torn, LinkFault, NoMemory}

-- a length as it stands in front: its last 32 bits, the most significant octet first
abbrev pub word : ℕ → List ℕ
word count = to_be_bytes w32 count

-- a message as it stands in a stream
abbrev pub framed : List ℕ → List ℕ
framed message = word (length message) ++ message

-- messages in a row
abbrev pub all_framed : List (List ℕ) → List ℕ
all_framed [] = []
all_framed (message ∷ messages) = framed message ++ all_framed messages

-- what is read of a message under a limit: all of it, or of one that has more octets than the limit
-- the first ones, one more than the limit
pub record IsNext (limit : ℕ) (octets message : List ℕ) : Type 0 where
  pub announced : ℕ
  pub bound : announced < 2 ^ 32
  pub size : length message ≡ min announced (limit + 1)
  pub spelled : octets ≡ word announced ++ message

-- a length, and some of what it announces, fewer than these
pub record IsBegun (most : ℕ → ℕ) (octets : List ℕ) : Type 0 where
  pub announced : ℕ
  pub content : List ℕ
  pub bound : announced < 2 ^ 32
  pub short : length content < most announced
  pub spelled : octets ≡ word announced ++ content

-- a front of what is read of a message under a limit, and not all of it: the first octets of the
-- length, or the length with some of the message
abbrev pub IsTorn : ℕ → List ℕ → Type 0
IsTorn limit octets = (length octets < 4) ⊎ IsBegun (λ announced. min announced (limit + 1)) octets

-- the same, of which all may be there
abbrev pub IsFront : ℕ → List ℕ → Type 0
IsFront limit octets =
    (length octets < 4) ⊎ IsBegun (λ announced. min announced (limit + 1) + 1) octets

-- these octets were taken, and they are such a front
abbrev pub TookFront : (List ℕ → Type 0) → Wire → Wire → Type 0
TookFront Is old new = (part : List ℕ) × Is part × Took old new part

-- the stream ended behind some octets, which are such a front
abbrev pub TookLast : (List ℕ → Type 0) → Wire → Wire → Type 0
TookLast Is old new =
    (part : List ℕ) × (0 < length part) × Is part × (new.coming ≡ []) × Took old new part

-- the length in front of a message was read; the end comes only before its first octet
abbrev pub HearsHeader : Wire → Wire → Result ℕ ReadEnd → Type 0
HearsHeader old new (Ok count) = (count < 2 ^ 32) × Took old new (word count)
HearsHeader old new (Err Ended) = (old.coming ≡ []) × Took old new []
HearsHeader old new (Err Torn) = TookLast (λ part. length part < 4) old new
HearsHeader old new (Err LinkFault) = TookFront (λ part. length part < 4) old new
HearsHeader old new (Err NoMemory) = ⊥

-- so many octets were read
abbrev pub HearsOctets : ℕ → Wire → Wire → Result (List ℕ) ReadEnd → Type 0
HearsOctets count old new (Ok octets) = (length octets ≡ count) × Took old new octets
HearsOctets count old new (Err Ended) = ⊥
HearsOctets count old new (Err Torn) =
    (part : List ℕ) × (length part < count) × (new.coming ≡ []) × Took old new part
HearsOctets count old new (Err LinkFault) =
    TookFront (λ part. length part < count + 1) old new
HearsOctets count old new (Err NoMemory) =
    TookFront (λ part. length part < count + 1) old new

-- the next message of a stream under a limit, or why none was read
abbrev pub Hears : ℕ → Wire → Wire → Result (List ℕ) ReadEnd → Type 0
Hears limit old new (Ok message) =
    (octets : List ℕ) × IsNext limit octets message × Took old new octets
Hears limit old new (Err Ended) = (old.coming ≡ []) × Took old new []
Hears limit old new (Err Torn) = TookLast (IsTorn limit) old new
Hears limit old new (Err LinkFault) = TookFront (IsFront limit) old new
Hears limit old new (Err NoMemory) = TookFront (IsFront limit) old new
