use Rattle.std.proofs.Common.{sym, ◌∙◌}
use Rattle.std.proofs.Math.Logic.{∥∥₁_elim, ∥∥₁_map}
use Rattle.std.proofs.Props.{props}
use Rattle.world_runs.specs.Worlds.{shown}
use Rattle.world_runs.proofs.MetLater.{given, first, second, third, no-first, is-taken}
use Rattle.world_runs.proofs.meeting.call_once.Goals as goal

pub returns-in-None-clause-called : goal.returns-in-None-clause-called
returns-in-None-clause-called g c = λ kind carried timely. absurd (∥∥₁_elim carried (λ x y. absurd x) (λ k.
    let was = given c.tell_below.ensures (shown c.args.world.now (λ b. (goal.Mech-dyn g b).meaning b.1)) kind k c.args.procedure c.args.args c.requires.served c.requires.proper c.requires.size c.args.now c.args.draws timely c.tell_calls.ensures in
    no-first (shown c.args.world.now (λ b. (goal.Mech-dyn g b).meaning b.1)) c.args.now c.args.draws c.args.procedure c.args.args was c.in_ok-first.first (shown c.step.new.self (λ b. (goal.Mech-dyn g b).meaning b.1))
    (first (shown c.args.world.now (λ b. (goal.Mech-dyn g b).meaning b.1)) c.args.now c.args.draws c.args.procedure c.args.args was c.in_ok-first.first (shown c.step.new.self (λ b. (goal.Mech-dyn g b).meaning b.1)) c.in_ok-first.ensures.happened) (sym c.sent.ensures ∙ c.in-None.is)))

pub returns-clause-called : goal.returns-clause-called
returns-clause-called g c = λ kind carried timely. (
  ∥∥₁_elim carried (search props) (λ k.
      let was = given c.tell_below.ensures (shown c.args.world.now (λ b. (goal.Mech-dyn g b).meaning b.1)) kind k c.args.procedure c.args.args c.requires.served c.requires.proper c.requires.size c.args.now c.args.draws timely c.tell_calls.ensures in
      let p = first (shown c.args.world.now (λ b. (goal.Mech-dyn g b).meaning b.1)) c.args.now c.args.draws c.args.procedure c.args.args was c.in_ok-first.first (shown c.step.new.self (λ b. (goal.Mech-dyn g b).meaning b.1)) c.in_ok-first.ensures.happened in
      let q = second (shown c.args.world.now (λ b. (goal.Mech-dyn g b).meaning b.1)) c.args.now c.args.draws c.args.procedure c.args.args was c.in_ok-first.first c.in_ok-second.second c.in-Some.record (shown c.step.new.self (λ b. (goal.Mech-dyn g b).meaning b.1)) (shown c.step-2.new.self (λ b. (goal.Mech-dyn g b).meaning b.1)) p (sym c.sent.ensures ∙ c.in-Some.is) c.in_ok-second.ensures.happened in
      c.is_taken-called.ensures ∙ is-taken (shown c.args.world.now (λ b. (goal.Mech-dyn g b).meaning b.1)) c.args.procedure c.args.args c.in_ok-third.third (shown c.step-3.new.self (λ b. (goal.Mech-dyn g b).meaning b.1)) (third (shown c.args.world.now (λ b. (goal.Mech-dyn g b).meaning b.1)) c.args.now c.args.draws c.args.procedure c.args.args was c.in_ok-third.third _ _ _ (shown c.step-2.new.self (λ b. (goal.Mech-dyn g b).meaning b.1)) (shown c.step-3.new.self (λ b. (goal.Mech-dyn g b).meaning b.1)) q c.in_ok-third.ensures.happened)),
  ∥∥₁_map carried (λ k.
      let was = given c.tell_below.ensures (shown c.args.world.now (λ b. (goal.Mech-dyn g b).meaning b.1)) kind k c.args.procedure c.args.args c.requires.served c.requires.proper c.requires.size c.args.now c.args.draws timely c.tell_calls.ensures in
      let p = first (shown c.args.world.now (λ b. (goal.Mech-dyn g b).meaning b.1)) c.args.now c.args.draws c.args.procedure c.args.args was c.in_ok-first.first (shown c.step.new.self (λ b. (goal.Mech-dyn g b).meaning b.1)) c.in_ok-first.ensures.happened in
      let q = second (shown c.args.world.now (λ b. (goal.Mech-dyn g b).meaning b.1)) c.args.now c.args.draws c.args.procedure c.args.args was c.in_ok-first.first c.in_ok-second.second c.in-Some.record (shown c.step.new.self (λ b. (goal.Mech-dyn g b).meaning b.1)) (shown c.step-2.new.self (λ b. (goal.Mech-dyn g b).meaning b.1)) p (sym c.sent.ensures ∙ c.in-Some.is) c.in_ok-second.ensures.happened in
      (third (shown c.args.world.now (λ b. (goal.Mech-dyn g b).meaning b.1)) c.args.now c.args.draws c.args.procedure c.args.args was c.in_ok-third.third _ _ _ (shown c.step-2.new.self (λ b. (goal.Mech-dyn g b).meaning b.1)) (shown c.step-3.new.self (λ b. (goal.Mech-dyn g b).meaning b.1)) q c.in_ok-third.ensures.happened).called),
)
