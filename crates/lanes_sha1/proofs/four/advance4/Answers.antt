use Rattle.std.proofs.Common.{◌≡◌, ◌*◌, [], ◌∷◌, take, drop, arith}
use Rattle.lanes_sha1.specs.Lanes.{EachLane, lane, read_lane}
use Rattle.lanes_sha1.proofs.LaneLemmas.{below_four, read_at}
use Rattle.lanes_sha1.proofs.Digests.{advance_none, advance_more}
use Rattle.lanes_sha1.proofs.four.advance4.Goals as goal

pub whole-init : goal.whole-init
whole-init c = λ j lt p n long begun. advance_none p (read_lane j c.args.messages.now) (lane j c.args.states.now) n begun

pub compress4-requires : goal.compress4-requires
compress4-requires c =
    below_four _ c.block_at-b0.ensures.len c.block_at-b1.ensures.len c.block_at-b2.ensures.len c.block_at-b3.ensures.len

pub whole-preserved : goal.whole-preserved
whole-preserved c = λ j lt p n long begun.
    let i = c.whole.i in
    let messages = c.args.messages.now in
    let blocks = c.block_at-b0.result ∷ c.block_at-b1.result ∷ c.block_at-b2.result ∷ c.block_at-b3.result ∷ [] in
    let cut : EachLane (λ k. read_lane k blocks ≡ take 64 (drop (64 * i) (read_lane k messages))) =
    below_four _
    (rw (read_at messages 0) at c.block_at-b0.ensures.octets)
    (rw (read_at messages 1) at c.block_at-b1.ensures.octets)
    (rw (read_at messages 2) at c.block_at-b2.ensures.octets)
    (rw (read_at messages 3) at c.block_at-b3.ensures.octets) in
    advance_more p (read_lane j messages) (lane j c.whole.states) _ _ n i long (omega (arith, c.requires j lt))
    (c.whole.invariant j lt p n long begun) (cut j lt) (c.compress4.ensures j lt)

pub returns : goal.returns
returns c = λ j lt p n long begun.
    let e : c.whole.i ≡ c.args.count = omega arith in
    rw e at (c.whole.invariant j lt p n long begun)
