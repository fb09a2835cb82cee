use Rattle.std.proofs.Common.{◌≡◌, ℕ, get_or, vec_len}
use Rattle.seq_window.proofs.window.Window.new.Given as goal

abbrev pub invariant-loop : goal.invariant-loop
invariant-loop l = record {
  clear : (k : ℕ) → get_or l.words.items k 0 ≡ 0;
  count : vec_len l.words ≡ l.counter;
}
