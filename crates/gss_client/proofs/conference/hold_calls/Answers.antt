use Rattle.std.proofs.Common.{IsTrue}
use Rattle.gss_client.specs.Conferring.{calls_of}
use Rattle.gss_client.specs.Talk.{created_from}
use Rattle.gss_client.proofs.WholeConference.{talked, untalked}
use Rattle.gss_client.proofs.conference.hold_calls.Goals as goal

pub returns-in-Err-clause-told : goal.returns-in-Err-clause-told
returns-in-Err-clause-told g c = λ t. untalked _ _ _ (calls_of g.Q.Query.says c.args.due.now) _ _ c.in-Err.refusal _ c.new.ensures.items (c.in-Err.ensures.told t)

pub returns-in-Err-clause-plain : goal.returns-in-Err-clause-plain
returns-in-Err-clause-plain g c = λ own same t. untalked _ _ (created_from own) (calls_of g.Q.Query.says c.args.due.now) _ _ c.in-Err.refusal _ c.new.ensures.items (c.in-Err.ensures.plain own same t)

pub returns-clause-told : goal.returns-clause-told
returns-clause-told g c = λ t.
    let tells : IsTrue (g.L.Link.tells c.create.new.link) = rw c.in-Ok.ensures.tells t in
    talked _ _ _ _ (calls_of g.Q.Query.says c.args.due.now) _ _ _ c.in-Ok.session _ c.outcome-outcome.ensures _ _ (c.in-Ok.ensures.told t) (c.confer-results.ensures.told tells)

pub returns-clause-plain : goal.returns-clause-plain
returns-clause-plain g c = λ own same t.
    let tells : IsTrue (g.L.Link.tells c.create.new.link) = rw c.in-Ok.ensures.tells t in
    talked _ _ _ (created_from own) (calls_of g.Q.Query.says c.args.due.now) _ _ _ c.in-Ok.session _ c.outcome-outcome.ensures _ _ (c.in-Ok.ensures.plain own same t) (c.confer-results.ensures.told tells)
