-- What a look leaves.
use Rattle.std.specs.Prelude.{◌≡◌, ℕ, max}
use Rattle.accept_core.specs.Replays.{Accepting}

-- a moment was seen, and nothing else changed but which marks are held
pub record IsLooked {N S : Type 0} (old : Accepting N S) (now : ℕ) (new : Accepting N S) : Type 0
  where
    pub history : new.history ≡ old.history
    pub limit : new.limit ≡ old.limit
    pub width : new.width ≡ old.width
    pub keeping : new.keeping ≡ old.keeping
    pub table : new.table ≡ old.table
    pub capacity : new.cache.capacity ≡ old.cache.capacity
    pub greatest : new.cache.greatest ≡ max old.cache.greatest now
