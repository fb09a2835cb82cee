use Rattle.std.proofs.Common.{◌≡◌, ℕ, ◌+◌, ◌%◌, ◌<◌, ◌≤◌, get_or, length}
use Rattle.seq_window.proofs.window.move_on.Given as goal

abbrev pub invariant-loop-block : goal.invariant-loop-block
invariant-loop-block l = record {
  ring : length l.words ≡ 17;
  kept : (b : ℕ) → b ≤ l.last → l.next < b + 17 → get_or l.words (b % 17) 0 ≡ get_or l.initial.words (b % 17) 0;
  cleared : (b : ℕ) → l.last < b → b < l.block → l.next < b + 17 → get_or l.words (b % 17) 0 ≡ 0;
}
