-- The parts of XDR that a message is made of, RFC 4506.
use Rattle.std.specs.Prelude.{ℕ, ◌-◌, ◌%◌, List, ◌++◌, length, replicate}
use Rattle.std.specs.Int.{w32, to_be_bytes}

-- an unsigned number of 32 bits, most significant octet first (RFC 4506 section 4.2)
unfoldable pub word : ℕ → List ℕ
word number = to_be_bytes w32 number

-- how many octets fill these up to a multiple of four
abbrev pub padding_length : ℕ → ℕ
padding_length count = (4 - count % 4) % 4

-- octets of variable length: how many, the octets, and zeros up to a multiple of four (RFC 4506
-- section 4.10)
unfoldable pub opaque : List ℕ → List ℕ
opaque octets = word (length octets) ++ (octets ++ replicate (padding_length (length octets)) 0)
