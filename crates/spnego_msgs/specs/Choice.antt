-- A token's choice, and the SEQUENCE of its fields in it.
use Rattle.std.specs.Prelude.{◌≡◌, ℕ, ◌<◌, ◌^◌, List, ◌++◌, length}
use Rattle.std.specs.Prelude.{Result}
use Rattle.der_core.specs.declared.refusal.DerRefusal.{DerRefusal}
use Rattle.der_core.specs.Format.{Input, ◌>>=◌}
use Rattle.der_core.specs.Header.{tlv, end_at}

-- nothing is left in either, the inner judged first
abbrev pub both_end : Input → Input → Result (Unit {0}) DerRefusal
both_end inner outer = do
  nothing ← end_at inner
  end_at outer

-- the SEQUENCE of these fields was added under this tag
pub record PutsChoice (tag : ℕ) (fields old new : List ℕ) : Type 0 where
  pub spells : new ≡ old ++ tlv tag (tlv 0x30 fields)
  pub few_fields : length fields < 2 ^ 32
  pub few : length (tlv 0x30 fields) < 2 ^ 32
