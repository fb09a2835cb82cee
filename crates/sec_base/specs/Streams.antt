-- What several reads or writes in a row did to a link.
use Rattle.std.specs.Prelude.{◌≡◌, ℕ, ◌<◌, Bool, List, ◌++◌, length, take, Result, Ok, Err}
use Rattle.sec_base.specs.Link.{Wire, HasTaken, HasWritten, IsOver}

-- of a link that tells its octets: these were taken, and nothing was written
pub record Took (old new : Wire) (octets : List ℕ) : Type 0 where
  pub taken : new.taken ≡ old.taken ++ octets
  pub coming : old.coming ≡ octets ++ new.coming
  pub written : new.written ≡ old.written

-- of a link that tells its octets: these were written, and none was taken; more may have come
-- meanwhile, behind those that were there
pub record Put (old new : Wire) (octets : List ℕ) : Type 0 where
  pub taken : new.taken ≡ old.taken
  pub coming : (more : List ℕ) × (new.coming ≡ old.coming ++ more)
  pub written : new.written ≡ old.written ++ octets

-- a buffer was filled, or its front with all that was still to come; or the link failed after a
-- shorter front of it
abbrev pub Fills : {E : Type 0} → Bool → Wire → Wire → Result ℕ E → List ℕ → Type 0
Fills told old new (Ok count) buffer =
    HasTaken told old new (take count buffer) × (count < length buffer → IsOver told new)
Fills told old new (Err e) buffer =
    (count : ℕ) × (count < length buffer) × HasTaken told old new (take count buffer)

-- all of the octets were written, or the link failed after a front of them
abbrev pub Sends : {T E : Type 0} → Bool → Wire → Wire → Result T E → List ℕ → Type 0
Sends told old new (Ok _) octets = HasWritten told old new octets
Sends told old new (Err e) octets = (count : ℕ) × HasWritten told old new (take count octets)
