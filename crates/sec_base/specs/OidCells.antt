use Rattle.std.specs.Prelude.{◌≡◌, ℕ, true, List, take}
use Rattle.sec_base.specs.Padded.{IsPadded}
use Rattle.sec_base.specs.Oid.{is_oid}

-- the content of an object identifier at the front of 32 octets, zeros behind it
pub record IsOidCells (cells : List ℕ) (count : ℕ) : Type 0 where
  pub padded : IsPadded 32 cells count
  pub grammar : is_oid (take count cells) ≡ true
