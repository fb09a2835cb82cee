use Rattle.std.proofs.Common.{◌≡◌, drop}
use Rattle.scram_mech.specs.Reading.{word_at}
use Rattle.scram_mech.proofs.cursor.Cursor.word.Given as goal

abbrev pub invariant-loop-sign : goal.invariant-loop-sign
invariant-loop-sign l = word_at (drop l.sign-index l.word) l.self ≡ word_at l.fn.word l.fn.self
