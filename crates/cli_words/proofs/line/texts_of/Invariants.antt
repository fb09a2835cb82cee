use Rattle.std.proofs.Common.{◌≡◌, ◌++◌, drop}
use Rattle.cli_base.specs.Words.{texts}
use Rattle.cli_words.proofs.line.texts_of.Given as goal

abbrev pub invariant-loop-word : goal.invariant-loop-word
invariant-loop-word l = texts l.lent.items ++ drop l.word-index l.words ≡ l.fn.words
