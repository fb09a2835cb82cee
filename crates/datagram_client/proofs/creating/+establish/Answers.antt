use Rattle.std.proofs.Common.{IsTrue, Bool, sym, subst, arith}
use Rattle.init_ends.specs.Initiating.{end_step}
use Rattle.datagram_client.proofs.Judgements.{creation-judged}
use Rattle.datagram_client.proofs.Turns.{went-on, stood, refused, unheard, no-turn, no-fault}
use Rattle.datagram_client.proofs.creating.+establish.Goals as goal

pub returns-then-left-eq0-clause-told : goal.returns-then-left-eq0-clause-told
returns-then-left-eq0-clause-told g r c = λ t. rw c.spend.ensures
    (no-turn g.P.Post end_step c.args.left c.args.terms c.args.first c.args.xid c.args.proc _ c.args.over.now c.args.post.now (omega (arith, c.if-left-eq0.true)) c.requires.few)

pub returns-in-Err-clause-told : goal.returns-in-Err-clause-told
returns-in-Err-clause-told g r c = λ t. rw c.spend-in-Err.ensures
    (unheard g.P.Post end_step c.args.left c.args.terms c.args.first c.args.xid c.args.proc _ c.args.over.now c.ask-asked.new.over c.args.post.now c.ask-asked.new.post c.in-Err.refusal (omega (arith, c.if-left-eq0.false))
    (rw (c.as_slice.ensures, c.as_slice-2.ensures) at (c.in-Err.ensures.asked t)))

pub returns-in-Ok-Going-clause-told : goal.returns-in-Ok-Going-clause-told
returns-in-Ok-Going-clause-told g r c = λ t.
    let tells : IsTrue (g.P.Post.tells c.ask-asked.new.post) = subst (λ (b : Bool). IsTrue b) (sym c.ask-asked.ensures.tells) t in
    went-on g.P.Post end_step c.args.left c.args.terms c.args.first c.args.xid c.args.proc _ _ c.args.over.now c.ask-asked.new.over c.args.post.now c.ask-asked.new.post c.establish.new.post c.in-Ok.reply c.establish.result (omega (arith, c.if-left-eq0.false))
    (rw (c.in-Ok-Going.field-0-is, c.as_slice-3.ensures) at c.in-Ok-Going.ensures.exact)
    (rw (c.as_slice.ensures, c.as_slice-2.ensures) at (c.in-Ok.ensures.asked t))
    (rw c.xid_after.ensures at (c.establish.ensures.told tells))

pub returns-in-Ok-Stands-clause-told : goal.returns-in-Ok-Stands-clause-told
returns-in-Ok-Stands-clause-told g r c = λ t.
    rw (c.begun.ensures, c.xid_after-in-Ok-Stands.ensures)
    (stood g.P.Post end_step c.args.left c.args.terms c.args.first c.args.xid c.args.proc _ c.args.over.now c.ask-asked.new.over c.args.post.now c.ask-asked.new.post c.in-Ok.reply c.in-Ok-Stands.outcome c.in-Ok-Stands.handle (omega (arith, c.if-left-eq0.false))
    (rw (c.in-Ok-Stands.field-0-is, c.as_slice-3.ensures) at c.in-Ok-Stands.ensures.exact)
    (rw (c.as_slice.ensures, c.as_slice-2.ensures) at (c.in-Ok.ensures.asked t)))

pub returns-clause-told : goal.returns-clause-told
returns-clause-told g r c = λ t.
    refused g.P.Post end_step c.args.left c.args.terms c.args.first c.args.xid c.args.proc _ c.args.over.now c.ask-asked.new.over c.args.post.now c.ask-asked.new.post c.in-Ok.reply c.by_reply.result c.in-Err-creation_step.refusal (omega (arith, c.if-left-eq0.false))
    (rw c.as_slice-3.ensures at c.in-Err-creation_step.ensures.exact) c.by_reply.ensures
    (rw (c.as_slice.ensures, c.as_slice-2.ensures) at (c.in-Ok.ensures.asked t))

pub returns-clause-fault : goal.returns-clause-fault
returns-clause-fault g r c = λ e. absurd (no-fault c.by_reply.result c.in-Err-creation_step.refusal _ c.by_reply.ensures c.in-Err-creation_step.ensures.exact (creation-judged end_step _ _ _) e)
