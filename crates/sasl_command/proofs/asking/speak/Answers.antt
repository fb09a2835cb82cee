use Rattle.std.proofs.Common.{◌∙◌, arith, ap, sym, refl, [], ◌∷◌, IsTrue, Ok}
use Rattle.std.proofs.lemmas.List.{append-nil}
use Rattle.sasl_options.specs.declared.ending.RunEnd.TheVariants.{LinkFault}
use Rattle.sec_base.proofs.InARow.{put-told}
use Rattle.sasl_command.specs.Turns.{seen, end_of}
use Rattle.sasl_command.specs.Asking.{Chosen, Awaits, Asks, Sends, limit, IsAnswered, IsDue}
use Rattle.sasl_command.proofs.Devices.{went-none, deals-none}
use Rattle.sasl_command.proofs.Turning.{turned, stopped, leads-one}
use Rattle.sasl_command.proofs.Answering.{deals-by, wrote-one, wrote-front, refused}
use Rattle.sasl_command.proofs.AskTurns.{sent-so, sent-not, spoke-at, spoke-after, spoke-as, ran-as}
use Rattle.sasl_command.proofs.asking.speak.Goals as goal

pub returns-in-Ok-write_message-clause-told : goal.returns-in-Ok-write_message-clause-told
returns-in-Ok-write_message-clause-told g c = λ t wish.
    let tells : IsTrue (g.L.Link.tells c.write_message.new.link) = rw c.in-Ok-write_message.ensures.tells t in
    spoke-after wish c.args.sending.now (Chosen c.args.layer) (Awaits c.send.new.self) c.hear.result.facts c.hear.result.echo c.hear.result.end
    (leads-one (Asks wish c.args.sending.now) (Chosen c.args.layer) (Awaits c.send.new.self)
    (turned (Asks wish c.args.sending.now) (Chosen c.args.layer) (Awaits c.send.new.self) (Sends c.args.sending.now c.args.layer) [] (λ moments octets said answer m. (refl, m)) (deals-none (seen g.L.Link g.C.Clock g.D.Draw c.args.link.now c.args.clock.now c.args.draw.now))
    (record { moments = []; octets = c.fill.new.out; said = c.as_slice.result.now ∷ []; makes = (sent-so c.args.sending.now c.args.layer c.send.new.self c.fill.new.out c.as_slice.result.now (omega (arith, c.fill.auto.out)) (c.in-Ok.ensures.exact ∙ ap Ok (sym c.as_slice.ensures)) c.in-Ok.ensures.after); deals = deals-by (g.L.Link.wire c.args.link.now) (g.L.Link.wire c.write_message.new.link) (g.C.Clock.tells c.args.clock.now) (g.C.Clock.tells c.args.clock.now) (g.C.Clock.given c.args.clock.now) (g.C.Clock.given c.args.clock.now) (g.D.Draw.tells c.args.draw.now) (g.D.Draw.tells c.fill.new.self) (g.D.Draw.given c.args.draw.now) (g.D.Draw.given c.fill.new.self) (λ on. on) (λ on. sym (append-nil (g.C.Clock.given c.args.clock.now))) c.fill.ensures.kept c.fill.ensures.told (wrote-one c.as_slice.result.now (put-told t c.in-Ok-write_message.ensures.told)) })))
    (c.hear.ensures.told tells wish c.args.sending.now (seen g.L.Link g.C.Clock g.D.Draw c.write_message.new.link c.args.clock.now c.fill.new.self))

pub returns-in-Ok-clause-told : goal.returns-in-Ok-clause-told
returns-in-Ok-clause-told g c = λ t wish.
    let p = c.in-Err-write_message.ensures.told in
    spoke-as wish c.args.sending.now (Chosen c.args.layer) c.layered.result (ran-as c.layered.ensures c.facts-facts.ensures)
    (spoke-at wish c.args.sending.now (Chosen c.args.layer) LinkFault
    (stopped (Asks wish c.args.sending.now) limit IsAnswered IsDue (Chosen c.args.layer) (Sends c.args.sending.now c.args.layer) [] LinkFault (λ moments octets said answer m. (refl, m)) (deals-none (seen g.L.Link g.C.Clock g.D.Draw c.args.link.now c.args.clock.now c.args.draw.now))
    (record { moments = []; octets = c.fill.new.out; said = c.as_slice.result.now ∷ []; next = Awaits c.send.new.self; makes = (sent-so c.args.sending.now c.args.layer c.send.new.self c.fill.new.out c.as_slice.result.now (omega (arith, c.fill.auto.out)) (c.in-Ok.ensures.exact ∙ ap Ok (sym c.as_slice.ensures)) c.in-Ok.ensures.after); count = p.0; deals = deals-by (g.L.Link.wire c.args.link.now) (g.L.Link.wire c.write_message.new.link) (g.C.Clock.tells c.args.clock.now) (g.C.Clock.tells c.args.clock.now) (g.C.Clock.given c.args.clock.now) (g.C.Clock.given c.args.clock.now) (g.D.Draw.tells c.args.draw.now) (g.D.Draw.tells c.fill.new.self) (g.D.Draw.given c.args.draw.now) (g.D.Draw.given c.fill.new.self) (λ on. on) (λ on. sym (append-nil (g.C.Clock.given c.args.clock.now))) c.fill.ensures.kept c.fill.ensures.told (wrote-front c.as_slice.result.now p.0 (put-told t p.1)) })))

pub returns-clause-told : goal.returns-clause-told
returns-clause-told g c = λ t wish.
    spoke-as wish c.args.sending.now (Chosen c.args.layer) c.layered-in-Err.result (ran-as (rw c.end_of.ensures at c.layered-in-Err.ensures) c.facts-facts.ensures)
    (spoke-at wish c.args.sending.now (Chosen c.args.layer) (end_of c.in-Err.refusal)
    (stopped (Asks wish c.args.sending.now) limit IsAnswered IsDue (Chosen c.args.layer) (Sends c.args.sending.now c.args.layer) [] (end_of c.in-Err.refusal) (λ moments octets said answer m. (refl, m)) (deals-none (seen g.L.Link g.C.Clock g.D.Draw c.args.link.now c.args.clock.now c.args.draw.now))
    (refused (Sends c.args.sending.now c.args.layer) _ _ [] c.fill.new.out c.in-Err.refusal (deals-by (g.L.Link.wire c.args.link.now) (g.L.Link.wire c.args.link.now) (g.C.Clock.tells c.args.clock.now) (g.C.Clock.tells c.args.clock.now) (g.C.Clock.given c.args.clock.now) (g.C.Clock.given c.args.clock.now) (g.D.Draw.tells c.args.draw.now) (g.D.Draw.tells c.fill.new.self) (g.D.Draw.given c.args.draw.now) (g.D.Draw.given c.fill.new.self) (λ on. on) (λ on. sym (append-nil (g.C.Clock.given c.args.clock.now))) c.fill.ensures.kept c.fill.ensures.told (went-none (g.L.Link.wire c.args.link.now)))
    (λ other. sent-not c.args.sending.now c.args.layer c.fill.new.out c.in-Err.refusal (omega (arith, c.fill.auto.out)) (c.in-Err.ensures.exact other)))))
