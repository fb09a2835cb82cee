use Rattle.std.proofs.Common.{◌≡◌, ◌≢◌, ◌<◌, ◌∙◌, arith, length, sym, inl, inr, get_or, refl}
use Rattle.std.specs.Int.Bits.{bit_xor}
use Rattle.std.proofs.lemmas.Bool.{cases_lt}
use Rattle.std.proofs.lemmas.List.{get_or-set_same, get_or-set_other, ext_get_or}
use Rattle.aes_cts.specs.Stealing.{add_octets}
use Rattle.aes_cts.proofs.Chaining.{length-add_octets, get_or-add_octets}
use Rattle.aes_cts.proofs.stealing.add_to.Goals as goal

pub octets-preserved : goal.octets-preserved
octets-preserved c =
    let here = bit_xor (get_or c.octets.bytes c.octets.i 0) (get_or c.args.other.now c.octets.i 0) in
    let within : c.octets.i < length c.octets.bytes = omega arith in (
      λ k h. elim (cases_lt k c.octets.i) [
        | inl a ↦
            let ne : k ≢ c.octets.i = omega arith in
            rw (get_or-set_other c.octets.bytes c.octets.i k here 0 ne) (c.octets.invariant.0 k a)
        | inr b ↦
            let e : k ≡ c.octets.i = omega arith in
            rw (e, get_or-set_same c.octets.bytes c.octets.i here 0 within, c.octets.invariant.1 c.octets.i (omega arith)) refl
      ],
      λ k h.
          let ne : k ≢ c.octets.i = omega arith in
          rw (get_or-set_other c.octets.bytes c.octets.i k here 0 ne) (c.octets.invariant.1 k (omega arith)),
    )

pub returns : goal.returns
returns c =
    ext_get_or 0 c.octets.bytes (add_octets c.args.bytes.now c.args.other.now)
    (omega (arith, length-add_octets c.args.bytes.now c.args.other.now))
    (λ i h. c.octets.invariant.0 i (omega arith) ∙ sym (get_or-add_octets c.args.bytes.now c.args.other.now i (omega arith) (omega arith)))
