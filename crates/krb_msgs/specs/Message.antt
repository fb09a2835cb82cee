-- A message: its fields, the SEQUENCE round them, the application's tag round that.
use Rattle.std.specs.Prelude.{◌≡◌, ℕ, ◌<◌, ◌^◌, List, ◌++◌, length}
use Rattle.der_core.specs.Header.{tlv}
use Rattle.der_core.specs.Format.{Format, Content}
use Rattle.der_core.specs.Element.{element, explicit}

-- messages with this tag and such fields
abbrev pub message : {A : Type 0} → ℕ → Content A → Format A
message tag content = explicit tag (element 0x30 content)

-- the octets of a message with these fields
pub record IsMessage (tag : ℕ) (fields octets : List ℕ) : Type 0 where
  pub spells : octets ≡ tlv tag (tlv 0x30 fields)
  pub few_fields : length fields < 2 ^ 32
  pub few : length (tlv 0x30 fields) < 2 ^ 32

-- the SEQUENCE of these fields was added
pub record PutsSequence (fields old new : List ℕ) : Type 0 where
  pub spells : new ≡ old ++ tlv 0x30 fields
  pub few_fields : length fields < 2 ^ 32
