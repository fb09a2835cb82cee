use Rattle.std.proofs.Common.{◌≡◌, ◌++◌, drop}
use Rattle.datagram_options.proofs.words.push_copies.Given as goal

abbrev pub invariant-loop-word : goal.invariant-loop-word
invariant-loop-word l = l.out.items ++ drop l.word-index l.words ≡ l.fn.out.items ++ l.fn.words
