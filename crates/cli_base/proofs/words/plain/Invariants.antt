use Rattle.std.proofs.Common.{◌≡◌, false, drop, slice_get}
use Rattle.cli_base.specs.Words.{plain_from}
use Rattle.cli_base.proofs.words.plain.Given as goal

abbrev pub invariant-loop-word : goal.invariant-loop-word
invariant-loop-word l = slice_get (plain_from l.behind (drop l.word-index l.words)) l.left ≡ slice_get (plain_from false l.fn.words) l.number
