use Rattle.std.proofs.Common.{◌≡◌, ℕ, ◌*◌, List, [], ◌∷◌, length, slice_index}
use Rattle.sha1.specs.Sha1.{hash_after}
use Rattle.lanes_sha1.specs.Lanes.{EachLane, lane, of_lane, read_lane}
use Rattle.lanes_sha1.proofs.Digests.{Follows}
use Rattle.lanes_sha1.proofs.four.finish4.Given as goal

abbrev pub invariant-last : goal.invariant-last
invariant-last l = EachLane (λ j. (p : List ℕ) → length p ≡ 64 * slice_index l.before j → lane j l.start ≡ hash_after p (slice_index l.before j)
    → Follows p (read_lane j l.messages) (lane j l.states) (of_lane j (l.d0 ∷ l.d1 ∷ l.d2 ∷ l.d3 ∷ [])) (slice_index l.before j) l.i)
