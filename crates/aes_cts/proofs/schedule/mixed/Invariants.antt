use Rattle.std.proofs.Common.{◌≡◌, ℕ, ◌<◌, ◌≤◌, get_or, length}
use Rattle.aes_cts.specs.State.{column_of, inverse_mix_column}
use Rattle.aes_cts.proofs.schedule.mixed.Given as goal

abbrev pub invariant-words : goal.invariant-words
invariant-words l =
    (length l.words ≡ 60) × ((j : ℕ) → 4 ≤ j → j < l.i → column_of (get_or l.words j 0) ≡ inverse_mix_column (column_of (get_or l.forward j 0)))
