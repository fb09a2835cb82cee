use Rattle.std.proofs.Common.{Option, Some, None, subst, sym}
use Rattle.gss_server.specs.Hearing.{kept_answers}
use Rattle.world_laws.specs.declared.event.Happened.{Happened}
use Rattle.world_laws.specs.declared.event.Happened.TheVariants.{Stepped}
use Rattle.world_laws.specs.State.{InHand}
use Rattle.world_runs.specs.Served.{served}
use Rattle.world_runs.specs.Turning.{said_by, Turned}
use Rattle.world_runs.proofs.LaneTurns.{hand_with, answered-came, turned-over, turned-further}
use Rattle.world_runs.proofs.lanes.step.Goals as goal

pub returns-then-further : goal.returns-then-further
returns-then-further c =
    let h = c.hand.inside in
    let a = c.answer_record-answered in
    let came = answered-came served c.args.book c.args.posts h.bytes c.as_slice.result.now h.now h.draws h.looked a.new.gate (kept_answers a.result.kept) a.result.rule a.result.reply c.as_slice.ensures a.ensures.now a.ensures.draws a.ensures.ruled.says a.ensures.ruled.asked.answers in
    subst (λ (hand : InHand). Turned served c.args.book hand a.new.gate.book (Some (hand_with h.bytes h.now h.draws a.result.kept.looked)) (Some (Stepped 0))) c.hand.view_is
    (turned-further served c.args.book h.bytes h.now h.draws h.looked a.new.gate a.result.kept.looked (said_by a.result.rule a.result.reply) c.if-further.true came)

pub returns : goal.returns
returns c =
    let h = c.hand.inside in
    let a = c.answer_record-answered in
    let came = answered-came served c.args.book c.args.posts h.bytes c.as_slice.result.now h.now h.draws h.looked a.new.gate (kept_answers a.result.kept) a.result.rule a.result.reply c.as_slice.ensures a.ensures.now a.ensures.draws a.ensures.ruled.says a.ensures.ruled.asked.answers in
    subst (λ (said : Option Happened). Turned served c.args.book c.args.hand a.new.gate.book None said) (sym c.said-happened.ensures)
    (subst (λ (hand : InHand). Turned served c.args.book hand a.new.gate.book None (said_by a.result.rule a.result.reply)) c.hand.view_is
    (turned-over served c.args.book h.bytes h.now h.draws h.looked a.new.gate a.result.kept.looked (said_by a.result.rule a.result.reply) c.if-further.false came))
