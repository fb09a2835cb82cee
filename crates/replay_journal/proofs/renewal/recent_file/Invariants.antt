use Rattle.std.proofs.Common.{◌≡◌, ◌+◌, ◌-◌, ◌*◌, ◌≤◌, ◌<◌, ◌++◌, ℕ, List, length}
use Rattle.replay_journal.specs.Files.{bodies, counted, front, renewed}
use Rattle.replay_journal.proofs.renewal.recent_file.Given as goal

abbrev pub invariant-loop-rest : goal.invariant-loop-rest
invariant-loop-rest l =
    (done : List (List ℕ)) × (counted l.file ≡ done ++ bodies (length l.file - length done) l.rest) × (8 ≤ length l.file → length l.rest + 8 + 45 * length done ≡ length l.file) × (length l.file < 8 → length l.rest ≡ 0) × (l.octets.items ≡ front (renewed l.fn.greatest done)) × (l.count ≡ length (renewed l.fn.greatest done)) × (l.count ≤ length done + 1)

abbrev pub decreases-loop-rest : goal.decreases-loop-rest
decreases-loop-rest l = length l.rest
