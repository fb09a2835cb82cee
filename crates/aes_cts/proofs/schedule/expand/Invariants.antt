use Rattle.std.proofs.Common.{◌≡◌, ℕ, ◌<◌, ◌-◌, ◌*◌, get_or, take, length}
use Rattle.aes_cts.specs.State.{column_of, column_from}
use Rattle.aes_cts.specs.Schedule.{expanded}
use Rattle.aes_cts.proofs.Rounds.{Holds}
use Rattle.aes_cts.proofs.schedule.expand.Given as goal

abbrev pub invariant-own : goal.invariant-own
invariant-own l =
    (length l.words ≡ 60) × ((j : ℕ) → j < l.i → column_of (get_or l.words j 0) ≡ column_from l.key (4 * j))

abbrev pub invariant-further : goal.invariant-further
invariant-further l =
    (length l.words ≡ 60) × Holds l.words (expanded l.size (take (4 * l.size) l.key) (l.i - l.size)) l.i
