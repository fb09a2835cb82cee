use Rattle.std.proofs.Common.{◌≡◌, drop}
use Rattle.cli_base.specs.Words.{are_words, texts}
use Rattle.cli_base.proofs.words.are_words.Given as goal

abbrev pub invariant-loop-at : goal.invariant-loop-at
invariant-loop-at l = are_words (texts l.names) (drop l.at l.words) ≡ are_words (texts l.fn.names) l.fn.words
