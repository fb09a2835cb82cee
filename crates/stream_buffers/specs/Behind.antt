-- Octets for a link that wait to be written.
use Rattle.std.specs.Prelude.{◌≡◌, ℕ, Bool, List, [], ◌++◌, take, Option, Some, None}
use Rattle.sec_base.specs.Answers.{Rose}
use Rattle.sec_base.specs.Link.{Wire, HasWritten}
use Rattle.stream_buffers.specs.declared.behind.Behind.{Behind}

-- those that wait, in order
abbrev pub unwritten : Behind → List ℕ
unwritten it = take it.count it.octets.items

-- those that wait where there is room for any
abbrev pub held : Option Behind → List ℕ
held (Some it) = unwritten it
held None = []

-- these octets came behind those that were written and those that waited, in this order; none was
-- taken
pub record Queues (old new : Wire) (before after octets : List ℕ) : Type 0 where
  pub taken : new.taken ≡ old.taken
  pub written : new.written ++ after ≡ (old.written ++ before) ++ octets

-- these octets were written before the end, all of them unless the count of faults rose, and then a
-- front of them
pub record LetGo (told : Bool) (old new : Wire) (faults faults' : ℕ) (octets : List ℕ) : Type 0
  where
    pub front : (count : ℕ) × HasWritten told old new (take count octets)
    pub whole : (Rose faults faults' → ⊥) → HasWritten told old new octets
