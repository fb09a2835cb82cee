use Rattle.std.proofs.Common.{IsTrue, None}
use Rattle.gss_client.specs.declared.conversation.Parting.TheVariants.{Refused}
use Rattle.gss_client.specs.Start.{start_means}
use Rattle.gss_client.specs.Talk.{created_over}
use Rattle.gss_client.proofs.PlainTurns.{talked-plain}
use Rattle.gss_client.proofs.WholeTalk.{talked, untalked}
use Rattle.gss_client.proofs.session.Session.hold.Goals as goal

pub returns-in-Err-clause-told : goal.returns-in-Err-clause-told
returns-in-Err-clause-told g c = λ t. untalked _ _ (created_over (start_means c.args.start (λ b. (goal.Mech-dyn g b).meaning b.1))) c.args.times (g.Q.Query.says c.args.query.now) c.args.args.now _ _ c.in-Err.refusal _ c.new.ensures.items (c.in-Err.ensures.told t)

pub returns-in-Err-clause-plain : goal.returns-in-Err-clause-plain
returns-in-Err-clause-plain g c = λ own e t. talked-plain _ _ _ (start_means c.args.start (λ b. (goal.Mech-dyn g b).meaning b.1)) own c.args.times (g.Q.Query.says c.args.query.now) c.args.args.now _ _ None _ (Refused c.in-Err.refusal) e (returns-in-Err-clause-told g c t)

pub returns-clause-told : goal.returns-clause-told
returns-clause-told g c = λ t.
    let tells : IsTrue (g.L.Link.tells c.create.new.link) = rw c.in-Ok.ensures.tells t in
    talked _ _ _ (created_over (start_means c.args.start (λ b. (goal.Mech-dyn g b).meaning b.1))) c.args.times (g.Q.Query.says c.args.query.now) c.args.args.now _ _ _ c.in-Ok.session _ c.outcome-outcome.ensures _ _ (c.in-Ok.ensures.told t) (c.converse-results.ensures.told tells)

pub returns-clause-plain : goal.returns-clause-plain
returns-clause-plain g c = λ own e t. talked-plain _ _ _ (start_means c.args.start (λ b. (goal.Mech-dyn g b).meaning b.1)) own c.args.times (g.Q.Query.says c.args.query.now) c.args.args.now _ _ _ _ _ e (returns-clause-told g c t)
