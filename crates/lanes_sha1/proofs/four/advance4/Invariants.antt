use Rattle.std.proofs.Common.{◌≡◌, ℕ, ◌+◌, ◌*◌, List, ◌++◌, length, take}
use Rattle.sha1.specs.Sha1.{hash_after}
use Rattle.lanes_sha1.specs.Lanes.{EachLane, lane, read_lane}
use Rattle.lanes_sha1.proofs.four.advance4.Given as goal

abbrev pub invariant-whole : goal.invariant-whole
invariant-whole l = EachLane (λ j. (p : List ℕ) (n : ℕ) → length p ≡ 64 * n → lane j l.fn.states ≡ hash_after p n
    → lane j l.states ≡ hash_after (p ++ take (64 * l.i) (read_lane j l.messages)) (n + l.i))
