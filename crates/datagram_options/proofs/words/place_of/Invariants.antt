use Rattle.std.proofs.Common.{◌≡◌, ◌+◌, drop}
use Rattle.datagram_options.specs.Words.{place_of}
use Rattle.datagram_options.proofs.words.place_of.Given as goal

abbrev pub invariant-loop-at : goal.invariant-loop-at
invariant-loop-at l = l.at + place_of l.fn.name (drop l.at l.words) ≡ place_of l.fn.name l.fn.words
