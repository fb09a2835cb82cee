use Rattle.std.proofs.Common.{◌≡◌, ℕ, ◌+◌, ◌*◌, List}
use Rattle.lanes_sha1.specs.Lanes.{EachLane, lane, words_of}
use Rattle.lanes_sha1.specs.Stages.{Scheduled, working_after}
use Rattle.lanes_sha1.proofs.rounds.last_stage4.Given as goal

abbrev pub invariant-fives : goal.invariant-fives
invariant-fives l = EachLane (λ j. (block h : List ℕ) → Scheduled block (words_of j l.words) 80 → lane j l.fn.start ≡ working_after block h 60
    → lane j l.working ≡ working_after block h (60 + 5 * l.five))
