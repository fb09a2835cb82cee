use Rattle.init_ends.specs.Ends.{end_by}
use Rattle.std.proofs.Common.{Err}
use Rattle.gss_client.specs.Start.{start_means}
use Rattle.gss_client.proofs.PlainTurns.{created-plain}
use Rattle.gss_client.proofs.TalkSteps.{started, unstarted}
use Rattle.gss_client.proofs.session.Session.create.Goals as goal

pub returns-in-Err-clause-told : goal.returns-in-Err-clause-told
returns-in-Err-clause-told g c = λ t. unstarted (start_means c.args.start (λ b. (goal.Mech-dyn g b).meaning b.1)) c.in-Err.refusal c.not_negotiated.result _ c.in-Err.ensures.exact c.not_negotiated.ensures.negotiation c.not_negotiated.ensures.memory

pub returns-in-Err-clause-plain : goal.returns-in-Err-clause-plain
returns-in-Err-clause-plain g c = λ own e t. created-plain (start_means c.args.start (λ b. (goal.Mech-dyn g b).meaning b.1)) own _ _ (Err c.not_negotiated.result) e (returns-in-Err-clause-told g c t)

pub returns-clause-told : goal.returns-clause-told
returns-clause-told g c = λ t.
    started (start_means c.args.start (λ b. (goal.Mech-dyn g b).meaning b.1)) (end_by c.in-Ok.started.0 (λ b. (goal.Mech-dyn g b).meaning b.1)) c.in-Ok.started.1 _ _ c.establish.result c.in-Ok.ensures.exact
    (rw (c.from_vec-handle.ensures, c.new.ensures.items) at (c.establish.ensures.told t))

pub returns-clause-plain : goal.returns-clause-plain
returns-clause-plain g c = λ own e t. created-plain (start_means c.args.start (λ b. (goal.Mech-dyn g b).meaning b.1)) own _ _ c.establish.result e (returns-clause-told g c t)
