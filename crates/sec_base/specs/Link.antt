-- What a link has taken and written; and what is still to come, where the link tells its octets.
use Rattle.std.specs.Prelude.{◌≡◌, ℕ, ◌<◌, Bool, IsTrue, List, [], ◌++◌, length, take, Result}
use Rattle.std.specs.Prelude.{Ok, Err}

-- the octets that reads gave so far; those that reads will give, where the link tells its octets;
-- and those that writes took so far: each in order
pub record Wire : Type 0 where
  pub taken : List ℕ
  pub coming : List ℕ
  pub written : List ℕ

-- these octets were taken, and nothing was written; where the link tells its octets, they were the
-- first of those to come
pub record HasTaken (told : Bool) (old new : Wire) (octets : List ℕ) : Type 0 where
  pub taken : new.taken ≡ old.taken ++ octets
  pub coming : IsTrue told → old.coming ≡ octets ++ new.coming
  pub written : new.written ≡ old.written

-- these octets were written, and none was taken; where the link tells its octets, more may have
-- come meanwhile, behind those that were there
pub record HasWritten (told : Bool) (old new : Wire) (octets : List ℕ) : Type 0 where
  pub taken : new.taken ≡ old.taken
  pub coming : IsTrue told → (more : List ℕ) × (new.coming ≡ old.coming ++ more)
  pub written : new.written ≡ old.written ++ octets

-- where the link tells its octets, none are to come
abbrev pub IsOver : Bool → Wire → Type 0
IsOver told wire = IsTrue told → wire.coming ≡ []

-- a read gave the first `count` octets of the buffer: 0 octets only at the end of input, if there
-- was room for one; or it failed and took none
abbrev pub Reads : {E : Type 0} → Bool → Wire → Wire → Result ℕ E → List ℕ → Type 0
Reads told old new (Ok count) buffer = HasTaken told old new (take count buffer)
    × (0 < length buffer → count ≡ 0 → IsOver told old)
Reads told old new (Err e) buffer = new ≡ old

-- as many first octets of a piece were written as a write answers; or it failed after a front of
-- the piece, which may be empty
abbrev pub Writes : {E : Type 0} → Bool → Wire → Wire → Result ℕ E → List ℕ → Type 0
Writes told old new (Ok count) piece = HasWritten told old new (take count piece)
Writes told old new (Err e) piece = (count : ℕ) × HasWritten told old new (take count piece)
