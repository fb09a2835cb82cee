use Rattle.std.proofs.Common.{sym, ◌∙◌}
use Rattle.std.proofs.lemmas.Option.{none-some}
use Rattle.world_runs.specs.Worlds.{shown}
use Rattle.world_runs.proofs.MetWhole.{turns-alone, turns-both}
use Rattle.world_runs.proofs.meeting.turn.Goals as goal

pub returns-in-None-clause-turn : goal.returns-in-None-clause-turn
returns-in-None-clause-turn g c = λ octets e. absurd (none-some octets (sym (sym c.sent.ensures ∙ c.in-None.is) ∙ e))

pub returns-in-None-sent-clause-turn : goal.returns-in-None-sent-clause-turn
returns-in-None-sent-clause-turn g c =
    turns-alone c.args.last c.in_ok-answered.answered _ c.args.now c.args.draws.now c.in-Some.record (shown c.args.world.now (λ b. (goal.Mech-dyn g b).meaning b.1)) (shown c.step.new.self (λ b. (goal.Mech-dyn g b).meaning b.1)) (sym c.sent.ensures ∙ c.in-Some.is) c.in_ok-answered.ensures.happened (sym c.sent-2.ensures ∙ c.in-None-sent.is)

pub returns-in-Some-sent-clause-turn : goal.returns-in-Some-sent-clause-turn
returns-in-Some-sent-clause-turn g c =
    turns-both c.args.last c.in_ok-answered.answered c.args.now c.args.draws.now c.in-Some.record c.in-Some-sent.reply (shown c.args.world.now (λ b. (goal.Mech-dyn g b).meaning b.1)) (shown c.step.new.self (λ b. (goal.Mech-dyn g b).meaning b.1)) (shown c.step-in-Some-sent.new.self (λ b. (goal.Mech-dyn g b).meaning b.1)) c.step-in-Some-sent.result
    (sym c.sent.ensures ∙ c.in-Some.is) c.in_ok-answered.ensures.happened (sym c.sent-2.ensures ∙ c.in-Some-sent.is) c.step-in-Some-sent.ensures.happened
