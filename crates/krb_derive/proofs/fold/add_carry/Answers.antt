use Rattle.std.proofs.Common.{◌≡◌, ◌≢◌, ℕ, ◌+◌, ◌-◌, ◌*◌, ◌/◌, ◌%◌, ◌<◌, ◌∙◌, refl, arith, length, get_or, inl, inr}
use Rattle.std.proofs.lemmas.List.{drop_all, length-set, get_or-set_same, get_or-set_other, get_or_past}
use Rattle.std.proofs.lemmas.Bool.{cases_lt}
use Rattle.krb_derive.specs.Fold.{number_of}
use Rattle.krb_derive.proofs.Numbers.{carry_step, number_of-lt}
use Rattle.krb_derive.proofs.fold.add_carry.Goals as goal

pub octets-init : goal.octets-init
unfolding number_of
octets-init c =
    let n : ℕ = length c.args.sum.now in
    let none : n - n ≡ 0 = omega arith in
    (refl, λ k h. refl, rw (none, drop_all n c.args.sum.now (omega arith)) (omega arith), omega arith, λ k h. rw (get_or_past c.args.sum.now k 0 h) (omega arith))

pub octets-preserved : goal.octets-preserved
octets-preserved c =
    let i : ℕ = c.octets.i - 1 in
    let total : ℕ = c.from.result + c.octets.rest in
    let next : c.octets.i ≡ i + 1 = omega arith in
    let place = c.from.ensures in
    let sum : total % 256 + 256 * (total / 256) ≡ get_or c.octets.sum i 0 + c.octets.rest = omega arith in (
      length-set c.octets.sum i (total % 256) ∙ c.octets.invariant.0,
      λ k h.
          let ne : k ≢ i = omega arith in
          rw (get_or-set_other c.octets.sum i k (total % 256) 0 ne) (c.octets.invariant.1 k (omega arith)),
      carry_step c.octets.sum c.args.sum.now i c.octets.i (total % 256) c.octets.rest (total / 256) c.args.carry
          next c.octets.invariant.0 (omega arith) (c.octets.invariant.1 i (omega arith)) sum c.octets.invariant.2,
      omega arith,
      λ k h. elim (cases_lt i k) [
        | inl a ↦
            let ne : k ≢ i = omega arith in
            rw (get_or-set_other c.octets.sum i k (total % 256) 0 ne) (c.octets.invariant.4 k (omega arith))
        | inr b ↦
            let e : k ≡ i = omega arith in
            let within : i < length c.octets.sum = omega (arith, c.octets.invariant.0) in
            rw (e, get_or-set_same c.octets.sum i (total % 256) 0 within) (omega arith)
      ],
    )

pub returns : goal.returns
returns c =
    let end : c.octets.i ≡ 0 = omega arith in
    let whole : length c.args.sum.now - 0 ≡ length c.args.sum.now = omega arith in
    record {
      low = rw c.octets.invariant.0 at (number_of-lt c.octets.sum (λ k. c.octets.invariant.4 k (omega arith)));
      sum = rw (end, whole) at c.octets.invariant.2;
      carry = c.octets.invariant.3;
    }
