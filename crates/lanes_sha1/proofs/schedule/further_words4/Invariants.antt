use Rattle.std.proofs.Common.{◌≡◌, ℕ, List, length}
use Rattle.lanes_sha1.specs.Lanes.{EachLane, words_of}
use Rattle.lanes_sha1.specs.Stages.{Scheduled}
use Rattle.lanes_sha1.proofs.schedule.further_words4.Given as goal

abbrev pub invariant-further : goal.invariant-further
invariant-further l = (length l.words ≡ 80) × EachLane (λ j. (block : List ℕ) → Scheduled block (words_of j l.fn.words) l.first → Scheduled block (words_of j l.words) l.t)
