use Rattle.std.proofs.Common.{◌≡◌, ◌+◌, ◌-◌, ◌*◌, ◌<◌, ◌∙◌, arith, take, length, inl, inr}
use Rattle.std.proofs.lemmas.List.{length-take-le, length-set}
use Rattle.aes_cts.specs.Schedule.{expanded}
use Rattle.aes_cts.proofs.Expansion.{Holds-own, Holds-more, key_schedule-is}
use Rattle.aes_cts.proofs.schedule.expand.Goals as goal

pub further-init : goal.further-init
unfolding expanded
further-init c =
    let none : c.args.size - c.args.size ≡ 0 = omega arith in
    (c.own.invariant.0, rw none (Holds-own c.own.words c.args.key.now c.args.size c.args.size (omega arith) (λ i h. c.own.invariant.1 i (omega arith))))

pub further-preserved : goal.further-preserved
further-preserved c =
    let some : 0 < c.args.size = elim c.requires.sized [ inl e ↦ omega arith | inr e ↦ omega arith ] in
    let within : c.further.i < length c.further.words = elim c.requires.sized [ inl e ↦ omega arith | inr e ↦ omega arith ] in (
      length-set c.further.words c.further.i _ ∙ c.further.invariant.0,
      Holds-more c.further.words (take (4 * c.args.size) c.args.key.now) c.args.size c.further.i c.turned.result c.further.invariant.1 some c.further.auto.i within c.turned.ensures,
    )

pub returns : goal.returns
returns c = λ i h.
    let words : length (take (4 * c.args.size) c.args.key.now) ≡ 4 * c.args.size =
    elim c.requires.sized [
      | inl e ↦ length-take-le (4 * c.args.size) c.args.key.now (omega arith)
      | inr e ↦ length-take-le (4 * c.args.size) c.args.key.now (omega arith)
    ] in
    let end : c.further.i - c.args.size ≡ 3 * c.args.size + 28 = omega arith in
    rw (key_schedule-is (take (4 * c.args.size) c.args.key.now) c.args.size words, ← end) (c.further.invariant.1 i (omega arith))
