use Rattle.std.proofs.Common.{◌≡◌, drop}
use Rattle.cli_base.specs.Words.{is_one_of}
use Rattle.cli_base.proofs.words.is_one_of.Given as goal

abbrev pub invariant-loop-one : goal.invariant-loop-one
invariant-loop-one l = is_one_of l.word (drop l.one-index l.words) ≡ is_one_of l.fn.word l.fn.words
