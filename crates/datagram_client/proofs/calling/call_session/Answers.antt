use Rattle.std.proofs.Common.{Option, Ok, arith, ap, ◌∙◌, subst}
use Rattle.gss_client.specs.declared.again.Judged.{Judged}
use Rattle.datagram_client.specs.Hearing.{HeardOnce}
use Rattle.gss_client.specs.declared.refusal.ClientRefusal.TheVariants as clients
use Rattle.gss_client.specs.Again.{Judges, takes, refuses}
use Rattle.gss_client.specs.Session.{session_after}
use Rattle.datagram_client.proofs.Loops.{began, rose-later, sent-again, last-wait, passed-over, decides, spent-first, spent-later, broke, broke-again, broke-first, same-refusal}
use Rattle.datagram_client.specs.declared.refusal.PostRefusal.TheVariants as refusals
use Rattle.datagram_client.proofs.calling.call_session.Goals as goal

pub loop-nones-init : goal.loop-nones-init
loop-nones-init g c =
    began g.P.Post g.D.Draw c.args.session c.args.procedure c.args.args.now c.args.tries c.args.post.now c.send_once.new.post c.args.draw.now c.send_once.new.draw c.next_number-first.result
    c.requires.tries (omega (arith, c.if-first-gt2147483647.false, c.next_number-first.ensures.value)) c.next_number-first.ensures.value c.send_once.ensures.faults c.in-Ok.ensures.once

pub returns-in-Err-hear_once-clause-fault : goal.returns-in-Err-hear_once-clause-fault
returns-in-Err-hear_once-clause-fault g c = λ e. rose-later _ _ _ c.loop-nones.invariant.faults (c.in-Err-hear_once.ensures.fault)

pub returns-then-first-gt2147483647-clause-called : goal.returns-then-first-gt2147483647-clause-called
returns-then-first-gt2147483647-clause-called g c = λ t.
    spent-first g.P.Post g.D.Draw c.args.session c.args.procedure c.args.args.now c.args.tries c.args.post.now c.args.draw.now c.requires.tries (omega (arith, c.if-first-gt2147483647.true, c.next_number-first.ensures.value, c.next_number-first.ensures.last))

pub returns-in-Err-clause-called : goal.returns-in-Err-clause-called
returns-in-Err-clause-called g c =
    broke-first g.P.Post g.D.Draw c.args.session c.args.procedure c.args.args.now c.args.tries c.args.post.now c.send_once.new.post c.args.draw.now c.send_once.new.draw c.in-Err.refusal c.requires.tries c.in-Err.ensures.once

pub returns-in-Err-hear_once-clause-called : goal.returns-in-Err-hear_once-clause-called
returns-in-Err-hear_once-clause-called g c =
    broke g.P.Post g.D.Draw c.args.session c.args.procedure c.args.args.now c.args.tries c.args.post.now c.loop-nones.post c.args.draw.now c.loop-nones.draw c.loop-nones.nones c.loop-nones.passed c.hear_once.new.post c.loop-nones.session c.next_number-first.result
    c.loop-nones.invariant c.loop-nones-test.true c.hear_once.ensures.once.sent

pub returns-in-Ok-Some-NoMemory-clause-called : goal.returns-in-Ok-Some-NoMemory-clause-called
returns-in-Ok-Some-NoMemory-clause-called g c =
    broke g.P.Post g.D.Draw c.args.session c.args.procedure c.args.args.now c.args.tries c.args.post.now c.loop-nones.post c.args.draw.now c.loop-nones.draw c.loop-nones.nones c.loop-nones.passed c.hear_once.new.post c.loop-nones.session c.next_number-first.result
    c.loop-nones.invariant c.loop-nones-test.true c.hear_once.ensures.once.sent

pub returns-then-number-ge2147483647-clause-called : goal.returns-then-number-ge2147483647-clause-called
returns-then-number-ge2147483647-clause-called g c =
    spent-later g.P.Post g.D.Draw c.args.session c.args.procedure c.args.args.now c.args.tries c.args.post.now c.loop-nones.post c.args.draw.now c.loop-nones.draw c.loop-nones.nones c.loop-nones.passed c.hear_once.new.post c.loop-nones.session c.next_number-first.result
    c.loop-nones.invariant c.if-nones-tries.true (omega (arith, c.if-number-ge2147483647.true, c.next_number-number.ensures.value)) (subst (λ (o : Option Judged). HeardOnce g.P.Post c.loop-nones.session c.next_number-first.result c.loop-nones.post c.hear_once.new.post (Ok o)) c.in-Ok-None.field-0-is c.in-Ok-None.ensures.once)

pub loop-nones-preserved-else-nones-tries : goal.loop-nones-preserved-else-nones-tries
loop-nones-preserved-else-nones-tries g c =
    last-wait g.P.Post g.D.Draw c.args.session c.args.procedure c.args.args.now c.args.tries c.args.post.now c.loop-nones.post c.args.draw.now c.loop-nones.draw c.loop-nones.nones c.loop-nones.passed c.hear_once.new.post c.loop-nones.session c.next_number-first.result
    c.loop-nones.invariant c.loop-nones-test.true (omega (arith, c.if-nones-tries.false)) (subst (λ (o : Option Judged). HeardOnce g.P.Post c.loop-nones.session c.next_number-first.result c.loop-nones.post c.hear_once.new.post (Ok o)) c.in-Ok-None.field-0-is c.in-Ok-None.ensures.once) c.hear_once.ensures.faults

pub loop-nones-preserved : goal.loop-nones-preserved
loop-nones-preserved g c =
    passed-over g.P.Post g.D.Draw c.args.session c.args.procedure c.args.args.now c.args.tries c.args.post.now c.loop-nones.post c.args.draw.now c.loop-nones.draw c.loop-nones.nones c.loop-nones.passed c.hear_once.new.post c.loop-nones.session c.next_number-first.result c.in-Ok-Some-Passes.field-0-0
    c.loop-nones.invariant c.loop-nones-test.true c.if-passed-lt-FLOOD.true (subst (λ (o : Option Judged). HeardOnce g.P.Post c.loop-nones.session c.next_number-first.result c.loop-nones.post c.hear_once.new.post (Ok o)) c.in-Ok-Some-Passes.field-0-is c.in-Ok-Some-Passes.ensures.once) c.in-Ok-Some-Passes.field-0-0-is c.hear_once.ensures.faults

pub returns-in-Ok-Some-Takes-clause-called : goal.returns-in-Ok-Some-Takes-clause-called
returns-in-Ok-Some-Takes-clause-called g c = λ t.
    let d = decides g.P.Post g.D.Draw c.args.session c.args.procedure c.args.args.now c.args.tries c.args.post.now c.loop-nones.post c.args.draw.now c.loop-nones.draw c.loop-nones.nones c.loop-nones.passed c.hear_once.new.post c.loop-nones.session c.next_number-first.result c.in-Ok-Some-Takes.field-0-0 (takes c.in-Ok-Some-Takes.octets)
    c.loop-nones.invariant c.loop-nones-test.true c.if-passed-lt-FLOOD.true (subst (λ (o : Option Judged). HeardOnce g.P.Post c.loop-nones.session c.next_number-first.result c.loop-nones.post c.hear_once.new.post (Ok o)) c.in-Ok-Some-Takes.field-0-is c.in-Ok-Some-Takes.ensures.once) (λ v h. subst (λ (j : Judged). Judges j v) c.in-Ok-Some-Takes.field-0-0-is h) t in
    (d.0, c.next.ensures ∙ ap session_after d.1)

pub loop-nones-preserved-in-Ok-send_once : goal.loop-nones-preserved-in-Ok-send_once
loop-nones-preserved-in-Ok-send_once g c =
    sent-again g.P.Post g.D.Draw c.args.session c.args.procedure c.args.args.now c.args.tries c.args.post.now c.loop-nones.post c.args.draw.now c.loop-nones.draw c.loop-nones.nones c.loop-nones.passed c.hear_once.new.post c.send_once-then-nones-tries.new.post c.send_once-then-nones-tries.new.draw c.loop-nones.session c.next_number-first.result
    c.loop-nones.invariant c.if-nones-tries.true (omega (arith, c.if-number-ge2147483647.false, c.next_number-number.ensures.value)) (subst (λ (o : Option Judged). HeardOnce g.P.Post c.loop-nones.session c.next_number-first.result c.loop-nones.post c.hear_once.new.post (Ok o)) c.in-Ok-None.field-0-is c.in-Ok-None.ensures.once) c.hear_once.ensures.faults
    c.again-session.result c.again-session.ensures c.in-Ok-send_once.ensures.once c.send_once-then-nones-tries.ensures.faults

pub returns-in-Err-send_once-clause-called : goal.returns-in-Err-send_once-clause-called
returns-in-Err-send_once-clause-called g c =
    broke-again g.P.Post g.D.Draw c.args.session c.args.procedure c.args.args.now c.args.tries c.args.post.now c.loop-nones.post c.args.draw.now c.loop-nones.draw c.loop-nones.nones c.loop-nones.passed c.hear_once.new.post c.send_once-then-nones-tries.new.post c.send_once-then-nones-tries.new.draw c.loop-nones.session c.next_number-first.result
    c.loop-nones.invariant c.if-nones-tries.true (subst (λ (o : Option Judged). HeardOnce g.P.Post c.loop-nones.session c.next_number-first.result c.loop-nones.post c.hear_once.new.post (Ok o)) c.in-Ok-None.field-0-is c.in-Ok-None.ensures.once)
    c.again-session.result c.in-Err-send_once.refusal c.in-Err-send_once.ensures.once

pub returns-in-Err-send_once-clause-fault : goal.returns-in-Err-send_once-clause-fault
returns-in-Err-send_once-clause-fault g c = λ e. rose-later _ _ _ (omega (arith, c.loop-nones.invariant.faults, c.hear_once.ensures.faults)) (c.in-Err-send_once.ensures.fault (same-refusal c.in-Err-send_once.refusal refusals.PostFault e))

pub returns-in-Ok-Some-Denies-clause-called : goal.returns-in-Ok-Some-Denies-clause-called
returns-in-Ok-Some-Denies-clause-called g c = λ t.
    (decides g.P.Post g.D.Draw c.args.session c.args.procedure c.args.args.now c.args.tries c.args.post.now c.loop-nones.post c.args.draw.now c.loop-nones.draw c.loop-nones.nones c.loop-nones.passed c.hear_once.new.post c.loop-nones.session c.next_number-first.result c.in-Ok-Some-Denies.field-0-0 (refuses (clients.Refused c.in-Ok-Some-Denies.denial))
    c.loop-nones.invariant c.loop-nones-test.true c.if-passed-lt-FLOOD.true (subst (λ (o : Option Judged). HeardOnce g.P.Post c.loop-nones.session c.next_number-first.result c.loop-nones.post c.hear_once.new.post (Ok o)) c.in-Ok-Some-Denies.field-0-is c.in-Ok-Some-Denies.ensures.once) (λ v h. subst (λ (j : Judged). Judges j v) c.in-Ok-Some-Denies.field-0-0-is h) t).0

pub returns-in-Ok-Some-Spoils-clause-called : goal.returns-in-Ok-Some-Spoils-clause-called
returns-in-Ok-Some-Spoils-clause-called g c = λ t.
    (decides g.P.Post g.D.Draw c.args.session c.args.procedure c.args.args.now c.args.tries c.args.post.now c.loop-nones.post c.args.draw.now c.loop-nones.draw c.loop-nones.nones c.loop-nones.passed c.hear_once.new.post c.loop-nones.session c.next_number-first.result c.in-Ok-Some-Spoils.field-0-0 (refuses (clients.BadReply c.in-Ok-Some-Spoils.why))
    c.loop-nones.invariant c.loop-nones-test.true c.if-passed-lt-FLOOD.true (subst (λ (o : Option Judged). HeardOnce g.P.Post c.loop-nones.session c.next_number-first.result c.loop-nones.post c.hear_once.new.post (Ok o)) c.in-Ok-Some-Spoils.field-0-is c.in-Ok-Some-Spoils.ensures.once) (λ v h. subst (λ (j : Judged). Judges j v) c.in-Ok-Some-Spoils.field-0-0-is h) t).0
