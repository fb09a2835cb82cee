use Rattle.std.proofs.Common.{◌≡◌, length}
use Rattle.lanes_sha1.specs.Lanes.{EachLane, words_of, read_lane}
use Rattle.lanes_sha1.specs.Stages.{Scheduled}
use Rattle.lanes_sha1.proofs.schedule.first_words4.Given as goal

abbrev pub invariant-given : goal.invariant-given
invariant-given l = (length l.words ≡ 80) × EachLane (λ j. Scheduled (read_lane j l.blocks) (words_of j l.words) l.t)

abbrev pub invariant-further : goal.invariant-further
invariant-further l = (length l.words ≡ 80) × EachLane (λ j. Scheduled (read_lane j l.blocks) (words_of j l.words) l.t)
