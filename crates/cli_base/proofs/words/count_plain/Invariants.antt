use Rattle.std.proofs.Common.{◌≡◌, ◌+◌, ◌≤◌, false, drop, length}
use Rattle.cli_base.specs.Words.{plain_from}
use Rattle.cli_base.proofs.words.count_plain.Given as goal

abbrev pub invariant-loop-word : goal.invariant-loop-word
invariant-loop-word l = record {
  count : l.count + length (plain_from l.behind (drop l.word-index l.words)) ≡ length (plain_from false l.fn.words);
  small : l.count ≤ l.word-index;
}
