use Rattle.std.proofs.Common.{arith, ◌∙◌, subst, List, ℕ}
use Rattle.std.proofs.Math.Logic.{∥∥₁_elim, ∥∥₁_map}
use Rattle.std.proofs.Props.{props}
use Rattle.std.proofs.lemmas.Option.{slice_get-get_or}
use Rattle.world_runs.specs.Worlds.{shown}
use Rattle.world_runs.proofs.MetWhole.{Carrying, starts, turned, drop-one, drop-whole, is-completed, is-carried}
use Rattle.world_runs.proofs.meeting.meet.Goals as goal

pub loop-drawn-init : goal.loop-drawn-init
loop-drawn-init g c = (
  c.step.ensures.world,
  λ book lanes start m. ∥∥₁_map c.events-events.ensures.ran (λ ran.
      starts (shown c.args.world.now (λ b. (goal.Mech-dyn g b).meaning b.1)) (shown c.step.new.self (λ b. (goal.Mech-dyn g b).meaning b.1)) book lanes c.args.now c.args.draws.now start m ran c.in_ok-last.last c.in_ok-last.ensures.happened),
)

pub loop-drawn-preserved : goal.loop-drawn-preserved
loop-drawn-preserved g c = (
  c.turn.ensures.world,
  λ book lanes start m. ∥∥₁_map (c.loop-drawn.invariant.1 book lanes start m) (λ k.
      turned m.kind c.args.now _ _ c.loop-drawn.last c.in_ok-last-2.last (shown c.loop-drawn.world (λ b. (goal.Mech-dyn g b).meaning b.1)) (shown c.turn.new.world (λ b. (goal.Mech-dyn g b).meaning b.1))
      (subst (λ (rest : List (List ℕ)). Carrying m.kind c.args.now rest c.loop-drawn.last (shown c.loop-drawn.world (λ b. (goal.Mech-dyn g b).meaning b.1)))
      (drop-one c.args.draws.now c.loop-drawn.drawn-index _ (slice_get-get_or c.args.draws.now c.loop-drawn.drawn-index _ c.loop-drawn-test.true)) k)
      c.in_ok-last-2.ensures.turn),
)

pub returns-clause-met : goal.returns-clause-met
returns-clause-met g c = λ book lanes start m.
    let whole = drop-whole c.args.draws.now c.loop-drawn.drawn-index (omega (arith, c.loop-drawn-test.false, c.loop-drawn.auto.drawn-index-end)) in (
      ∥∥₁_elim (c.loop-drawn.invariant.1 book lanes start m) (search props) (λ k.
          c.is_completed-met.ensures ∙ is-completed m.kind c.args.now c.loop-drawn.last (shown c.loop-drawn.world (λ b. (goal.Mech-dyn g b).meaning b.1)) (subst (λ (rest : List (List ℕ)). Carrying m.kind c.args.now rest c.loop-drawn.last (shown c.loop-drawn.world (λ b. (goal.Mech-dyn g b).meaning b.1))) whole k)),
      ∥∥₁_map (c.loop-drawn.invariant.1 book lanes start m) (λ k.
          is-carried c.tell_below.ensures m.kind c.args.now c.loop-drawn.last (shown c.loop-drawn.world (λ b. (goal.Mech-dyn g b).meaning b.1)) (subst (λ (rest : List (List ℕ)). Carrying m.kind c.args.now rest c.loop-drawn.last (shown c.loop-drawn.world (λ b. (goal.Mech-dyn g b).meaning b.1))) whole k)),
    )
