use Rattle.std.proofs.Common.{◌≡◌, true, ◌≤◌, ◌+◌, ◌-◌, ◌*◌, ◌++◌, ℕ, List, length}
use Rattle.replay_journal.specs.Files.{bodies, counted, greatest_of, all_genuine}
use Rattle.replay_journal.specs.Journals.{AllNear}
use Rattle.replay_journal.proofs.opening.scan.Given as goal

abbrev pub invariant-loop-rest : goal.invariant-loop-rest
invariant-loop-rest l =
    (done : List (List ℕ)) × (counted l.file ≡ done ++ bodies (length l.file - l.count) l.rest) × (length l.rest + 8 + 45 * l.count ≡ length l.file) × AllNear l.greatest done × (length done ≡ l.count) × (l.fn.start ≤ l.greatest) × (l.greatest ≡ greatest_of l.fn.start done) × (all_genuine done ≡ true)

abbrev pub decreases-loop-rest : goal.decreases-loop-rest
decreases-loop-rest l = length l.rest
