use Rattle.std.proofs.Common.{rules, ◌≡◌, ◌≢◌, ℕ, ◌+◌, ◌*◌, ◌/◌, ◌<◌, ◌≤◌, List, [], ◌∷◌, take, drop, ap, arith, length, slice_index}
use Rattle.sha1.specs.Sha1.{digest_bytes}
use Rattle.lanes_sha1.specs.Lanes.{EachLane, lane, of_lane, read_lane, block_count}
use Rattle.lanes_sha1.proofs.LaneLemmas.{below_four, read_at}
use Rattle.lanes_sha1.proofs.Digests.{padded_rest, last_block, follows_start, follows_more}
use Rattle.lanes_sha1.proofs.four.finish4.Goals as goal

pub advance4-requires : goal.advance4-requires
advance4-requires c =
    let l0 = ap length (read_at c.args.messages.now 0) in
    let l1 = ap length (read_at c.args.messages.now 1) in
    let l2 = ap length (read_at c.args.messages.now 2) in
    let l3 = ap length (read_at c.args.messages.now 3) in
    below_four _ (omega arith) (omega arith) (omega arith) (omega arith)

pub compress4-requires : goal.compress4-requires
compress4-requires c =
    below_four _ (search rules) (search rules) (search rules) (search rules)

pub last-init : goal.last-init
last-init c = λ j lt p long begun.
    let whole : ℕ = c.min-whole.result / 64 in
    let l0 = ap length (read_at c.args.messages.now 0) in
    let l1 = ap length (read_at c.args.messages.now 1) in
    let l2 = ap length (read_at c.args.messages.now 2) in
    let l3 = ap length (read_at c.args.messages.now 3) in
    let few : EachLane (λ k. whole ≤ length (read_lane k c.args.messages.now) / 64) = below_four _ (omega arith) (omega arith) (omega arith) (omega arith) in
    follows_start p (read_lane j c.args.messages.now) _ _ (slice_index c.args.before.now j) whole long (few j lt)
    (c.advance4.ensures j lt p (slice_index c.args.before.now j) long begun)

pub last-preserved : goal.last-preserved
last-preserved c = λ j lt.
    let i = c.last.i in
    let m : ℕ → List ℕ = λ k. read_lane k c.args.messages.now in
    let before : ℕ → ℕ = λ k. slice_index c.args.before.now k in
    let block : ℕ → List ℕ = λ k. of_lane k (c.block_or_zeros-b0.result ∷ c.block_or_zeros-b1.result ∷ c.block_or_zeros-b2.result ∷ c.block_or_zeros-b3.result ∷ []) in
    let digest : ℕ → List ℕ = λ k. of_lane k (c.last.d0 ∷ c.last.d1 ∷ c.last.d2 ∷ c.last.d3 ∷ []) in
    let noted : ℕ → List ℕ = λ k. of_lane k (c.note.new.digest ∷ c.note-in-last.new.digest ∷ c.note-in-last-2.new.digest ∷ c.note-in-last-3.new.digest ∷ []) in
    let blocks : EachLane (λ k. (p : List ℕ) → length p ≡ 64 * before k → i < block_count (m k) → block k ≡ take 64 (drop (i * 64) (padded_rest p (m k)))) =
    below_four _
    (λ p long under. last_block p (m 0) _ i (before 0) _ long (rw (read_at c.args.messages.now 0) at c.total_octets-total0.ensures)
    ((rw (read_at c.args.messages.now 0) at c.block_or_zeros-b0.ensures) under))
    (λ p long under. last_block p (m 1) _ i (before 1) _ long (rw (read_at c.args.messages.now 1) at c.total_octets-total1.ensures)
    ((rw (read_at c.args.messages.now 1) at c.block_or_zeros-b1.ensures) under))
    (λ p long under. last_block p (m 2) _ i (before 2) _ long (rw (read_at c.args.messages.now 2) at c.total_octets-total2.ensures)
    ((rw (read_at c.args.messages.now 2) at c.block_or_zeros-b2.ensures) under))
    (λ p long under. last_block p (m 3) _ i (before 3) _ long (rw (read_at c.args.messages.now 3) at c.total_octets-total3.ensures)
    ((rw (read_at c.args.messages.now 3) at c.block_or_zeros-b3.ensures) under)) in
    let count0 = rw (read_at c.args.messages.now 0) at c.count_blocks-count0.ensures in
    let count1 = rw (read_at c.args.messages.now 1) at c.count_blocks-count1.ensures in
    let count2 = rw (read_at c.args.messages.now 2) at c.count_blocks-count2.ensures in
    let count3 = rw (read_at c.args.messages.now 3) at c.count_blocks-count3.ensures in
    let done : EachLane (λ k. i + 1 ≡ block_count (m k) → noted k ≡ digest_bytes (lane k c.compress4.new.states) 5) =
    below_four _
    (λ e. c.note.ensures.done (omega arith))
    (λ e. c.note-in-last.ensures.done (omega arith))
    (λ e. c.note-in-last-2.ensures.done (omega arith))
    (λ e. c.note-in-last-3.ensures.done (omega arith)) in
    let kept : EachLane (λ k. i + 1 ≢ block_count (m k) → noted k ≡ digest k) =
    below_four _
    (λ more. c.note.ensures.kept (omega arith))
    (λ more. c.note-in-last.ensures.kept (omega arith))
    (λ more. c.note-in-last-2.ensures.kept (omega arith))
    (λ more. c.note-in-last-3.ensures.kept (omega arith)) in
    λ p long begun.
    follows_more p (m j) (lane j c.last.states) (digest j) _ _ _ (before j) i long
    (c.last.invariant j lt p long begun) (blocks j lt p long) (c.compress4.ensures j lt) (done j lt) (kept j lt)

pub returns : goal.returns
returns c = λ j lt p long begun.
    let l0 = ap length (read_at c.args.messages.now 0) in
    let l1 = ap length (read_at c.args.messages.now 1) in
    let l2 = ap length (read_at c.args.messages.now 2) in
    let l3 = ap length (read_at c.args.messages.now 3) in
    let over : EachLane (λ k. block_count (read_lane k c.args.messages.now) ≤ c.last.i) =
    below_four _ (omega arith) (omega arith) (omega arith) (omega arith) in
    (c.last.invariant j lt p long begun).digest (over j lt)
