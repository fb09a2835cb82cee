use Rattle.std.proofs.Common.{◌≡◌, ℕ, ◌+◌, ◌*◌, ◌∙◌, List, [], ◌∷◌, ◌++◌, take, drop, refl, ap, arith, length, slice_index, length-append, lit<}
use Rattle.std.proofs.lemmas.List.{length-take-le}
use Rattle.sha1.specs.Sha1.{sha1}
use Rattle.lanes_sha1.specs.Lanes.{EachLane, of_lane, read_lane}
use Rattle.lanes_sha1.proofs.LaneLemmas.{below_four, read_at}
use Rattle.lanes_sha1.proofs.Joining.{whole_again}
use Rattle.lanes_sha1.proofs.pieces.finish4_of_pieces.Goals as goal

pub joined-len0-requires : goal.joined-len0-requires
joined-len0-requires c = record {
  low = rw (read_at c.args.first.now 0) (c.requires.whole 0 (lit< tt));
  high = rw (read_at c.args.first.now 0, read_at c.args.second.now 0) (c.requires.left 0 (lit< tt));
}

pub joined-len1-requires : goal.joined-len1-requires
joined-len1-requires c = record {
  low = rw (read_at c.args.first.now 1) (c.requires.whole 1 (lit< tt));
  high = rw (read_at c.args.first.now 1, read_at c.args.second.now 1) (c.requires.left 1 (lit< tt));
}

pub joined-len2-requires : goal.joined-len2-requires
joined-len2-requires c = record {
  low = rw (read_at c.args.first.now 2) (c.requires.whole 2 (lit< tt));
  high = rw (read_at c.args.first.now 2, read_at c.args.second.now 2) (c.requires.left 2 (lit< tt));
}

pub joined-len3-requires : goal.joined-len3-requires
joined-len3-requires c = record {
  low = rw (read_at c.args.first.now 3) (c.requires.whole 3 (lit< tt));
  high = rw (read_at c.args.first.now 3, read_at c.args.second.now 3) (c.requires.left 3 (lit< tt));
}

pub returns : goal.returns
returns c = λ j lt p long begun.
    let n : ℕ = c.args.count in
    let at : ℕ = 64 * n in
    let a : ℕ → List ℕ = λ k. read_lane k c.args.first.now in
    let b : ℕ → List ℕ = λ k. read_lane k c.args.second.now in
    let before : ℕ → ℕ = λ k. slice_index c.args.before.now k in
    let sums : EachLane (λ k. slice_index ((before 0 + n) ∷ (before 1 + n) ∷ (before 2 + n) ∷ (before 3 + n) ∷ []) k ≡ before k + n) = below_four _ refl refl refl refl in
    let rests : ℕ → List ℕ = λ k. of_lane k (take c.joined-len0.result.1 c.joined-len0.result.0 ∷ take c.joined-len1.result.1 c.joined-len1.result.0 ∷ take c.joined-len2.result.1 c.joined-len2.result.0 ∷ take c.joined-len3.result.1 c.joined-len3.result.0 ∷ []) in
    let left : EachLane (λ k. rests k ≡ drop at (a k) ++ b k) =
    below_four _
    (rw (read_at c.args.first.now 0, read_at c.args.second.now 0) at c.joined-len0.ensures.octets)
    (rw (read_at c.args.first.now 1, read_at c.args.second.now 1) at c.joined-len1.ensures.octets)
    (rw (read_at c.args.first.now 2, read_at c.args.second.now 2) at c.joined-len2.ensures.octets)
    (rw (read_at c.args.first.now 3, read_at c.args.second.now 3) at c.joined-len3.ensures.octets) in
    let size : length (p ++ take at (a j)) ≡ 64 * (before j + n) =
    omega (arith, length-append p (take at (a j)), length-take-le at (a j) (c.requires.whole j lt), long) in
    c.finish4.ensures j lt (p ++ take at (a j)) (rw (sums j lt) size) (rw (sums j lt) (c.advance4.ensures j lt p (before j) long begun))
    ∙ ap (λ (rest : List ℕ). sha1 ((p ++ take at (a j)) ++ rest)) (left j lt)
    ∙ ap sha1 (whole_again p (a j) (b j) at)
