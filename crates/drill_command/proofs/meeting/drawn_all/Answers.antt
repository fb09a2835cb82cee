use Rattle.std.proofs.Common.{◌≡◌, ◌∙◌, ℕ, ap, sym, subst, arith}
use Rattle.std.specs.List.{AllByRecursion}
use Rattle.pair_laws.specs.Meeting.{IsDrawn}
use Rattle.drill_command.proofs.Joining.{draws_to, draws-more, drawn-more}
use Rattle.drill_command.proofs.meeting.drawn_all.Goals as goal

pub loop-place-init : goal.loop-place-init
loop-place-init c = record { is = λ moment. c.new-all.ensures.items; drawn = subst (λ ds. AllByRecursion IsDrawn ds) (sym c.new-all.ensures.items) tt }

pub loop-place-preserved : goal.loop-place-preserved
loop-place-preserved c =
    let i = c.loop-place.invariant in
    let items = c.in_ok-push.ensures.items in record {
      is = λ moment. draws-more moment c.loop-place.place c.args.kept.now _ _ c.drawn_at.result items c.drawn_at.ensures.is (i.is moment);
      drawn = subst (λ ds. AllByRecursion IsDrawn ds) (sym items) (drawn-more c.loop-place.all.items c.drawn_at.result i.drawn c.drawn_at.ensures.drawn);
    }

pub returns-clause-is : goal.returns-clause-is
returns-clause-is c = λ moment.
    let all : c.loop-place.place ≡ c.args.tokens = omega (arith, c.loop-place-test.false, c.loop-place.auto) in
    c.loop-place.invariant.is moment ∙ ap (λ (n : ℕ). draws_to moment n c.args.kept.now) all
