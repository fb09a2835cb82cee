use Rattle.std.proofs.Common.{IsTrue, arith}
use Rattle.init_ends.specs.Initiating.{end_step}
use Rattle.gss_client.proofs.TalkSteps.{no-turn, established-on, established, unestablished}
use Rattle.gss_client.proofs.establish.+establish.Goals as goal

pub returns-in-Ok-Going-clause-told : goal.returns-in-Ok-Going-clause-told
returns-in-Ok-Going-clause-told g t c = λ told.
    let tells : IsTrue (g.L.Link.tells c.turn.new.link) = rw c.in-Ok-Going.ensures.tells told in
    established-on end_step c.args.left c.args.terms c.args.first c.args.xid c.args.proc _ _ _ _ _ c.establish.result (omega (arith, c.if-left-eq0.false))
    (rw c.in-Ok-Going.field-0-is at (c.in-Ok-Going.ensures.told told)) (rw c.xid_after.ensures at (c.establish.ensures.told tells))

pub returns-in-Ok-Stands-clause-told : goal.returns-in-Ok-Stands-clause-told
returns-in-Ok-Stands-clause-told g t c = λ told.
    rw (c.begun.ensures, c.xid_after-in-Ok-Stands.ensures) (established end_step c.args.left c.args.terms c.args.first c.args.xid c.args.proc _ c.in-Ok-Stands.outcome c.in-Ok-Stands.handle _ _ (omega (arith, c.if-left-eq0.false))
    (rw c.in-Ok-Stands.field-0-is at (c.in-Ok-Stands.ensures.told told)))

pub returns-in-Err-clause-told : goal.returns-in-Err-clause-told
returns-in-Err-clause-told g t c = λ told. unestablished end_step c.args.left c.args.terms c.args.first c.args.xid c.args.proc _ _ _ c.in-Err.refusal (omega (arith, c.if-left-eq0.false)) (c.in-Err.ensures.told told)

pub returns-then-left-eq0-clause-told : goal.returns-then-left-eq0-clause-told
returns-then-left-eq0-clause-told g t c = λ told. rw c.spend.ensures (no-turn end_step c.args.left c.args.terms c.args.first c.args.xid c.args.proc _ _ (omega (arith, c.if-left-eq0.true)))
