use Rattle.std.proofs.Common.{◌≡◌, ◌+◌, ◌-◌, ◌*◌, ◌++◌, ℕ, List, length}
use Rattle.replay_journal.specs.Files.{bodies, counted}
use Rattle.replay_journal.specs.Journals.{Filled}
use Rattle.replay_journal.proofs.opening.fill.Given as goal

abbrev pub invariant-loop-rest : goal.invariant-loop-rest
invariant-loop-rest l =
    (done : List (List ℕ)) × (counted l.file ≡ done ++ bodies (length l.file - l.number) l.rest) × (length l.rest + 8 + 45 * l.number ≡ length l.file) × Filled l.cache done × (l.cache.greatest ≡ l.greatest) × (l.cache.capacity ≡ l.initial.cache.capacity) × (length done ≡ l.number)

abbrev pub decreases-loop-rest : goal.decreases-loop-rest
decreases-loop-rest l = length l.rest
