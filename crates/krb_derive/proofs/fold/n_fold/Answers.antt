use Rattle.std.proofs.Common.{◌≡◌, ℕ, ◌*◌, ◌/◌, ◌∙◌, refl, sym, ap, arith, length, replicate, add-one}
use Rattle.std.proofs.Math.Nat.{div-le_self}
use Rattle.krb_derive.specs.Fold.{number_of, part_of_copies, octets_of, add_around, sum_of_pieces, n_fold}
use Rattle.krb_derive.proofs.Numbers.{around, part_of_copies-lt, octets_of-number_of, number_of-zeros, power_pos}
use Rattle.krb_derive.proofs.fold.n_fold.Goals as goal

pub pieces-init : goal.pieces-init
unfolding sum_of_pieces
pieces-init c =
    let n : ℕ = length c.args.out.now in
    let zeros : c.fill.new.self ≡ replicate n 0 = c.fill.ensures.after (λ y h. h) in
    let none : number_of c.fill.new.self ≡ 0 = ap number_of zeros ∙ number_of-zeros n in
    (c.fill.ensures.len, rw none (power_pos n), none, λ k. omega (arith, c.type_inv.out k))

pub add_piece-carry-requires : goal.add_piece-carry-requires
add_piece-carry-requires c =
    omega (arith, div-le_self (length c.args.bytes.now) c.common_divisor.result)

pub pieces-preserved : goal.pieces-preserved
unfolding sum_of_pieces
pieces-preserved c =
    let n : ℕ = length c.args.out.now in
    let same : length c.pieces.out ≡ n = c.pieces.invariant.0 in
    let long : length c.add_piece-carry.new.sum ≡ n = c.add_piece-carry.auto.sum ∙ same in
    let part : ℕ = number_of (part_of_copies c.args.bytes.now (n * c.pieces.piece) n) in
    let made = around n (number_of c.pieces.out) part (number_of c.add_piece-carry.new.sum) c.add_piece-carry.result (number_of c.add_carry.new.sum) c.add_carry.result
    c.pieces.invariant.1 (part_of_copies-lt c.args.bytes.now (n * c.pieces.piece) n) (rw same at c.add_piece-carry.ensures.low) (rw long at c.add_carry.ensures.low)
    c.add_piece-carry.ensures.carry c.add_carry.ensures.carry (rw same at c.add_piece-carry.ensures.sum) (rw long at c.add_carry.ensures.sum) in (
      c.add_carry.auto.sum ∙ long,
      rw long at c.add_carry.ensures.low,
      rw add-one (made ∙ ap (λ (v : ℕ). add_around n v part) c.pieces.invariant.2),
      λ k. omega (arith, c.type_inv.out k),
    )

pub returns : goal.returns
unfolding n_fold
returns c =
    let n : ℕ = length c.args.out.now in
    let end : c.pieces.piece ≡ length c.args.bytes.now / c.common_divisor.result = omega arith in
    let out : octets_of (length c.pieces.out) (number_of c.pieces.out) ≡ c.pieces.out = octets_of-number_of c.pieces.out c.pieces.invariant.3 in
    sym out ∙ rw (c.pieces.invariant.0, c.pieces.invariant.2, end, c.common_divisor.ensures.value) refl
