use Rattle.std.proofs.Common.{◌≡◌, drop}
use Rattle.cli_base.specs.Words.{is_one_of, texts}
use Rattle.cli_base.proofs.words.is_name.Given as goal

abbrev pub invariant-loop-name : goal.invariant-loop-name
invariant-loop-name l = is_one_of l.word (texts (drop l.name-index l.names)) ≡ is_one_of l.fn.word (texts l.fn.names)
