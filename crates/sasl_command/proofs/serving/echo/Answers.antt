use Rattle.std.proofs.Common.{◌≡◌, ◌∙◌, arith, ap, sym, [], ◌∷◌, Ok}
use Rattle.std.proofs.lemmas.List.{append-nil}
use Rattle.sasl_layer.specs.Layered.{sends, receives}
use Rattle.sec_base.proofs.InARow.{put-told}
use Rattle.sasl_command.specs.Serving.{Echoes}
use Rattle.sasl_command.specs.declared.serving.Stage.TheVariants as stages
use Rattle.sasl_command.proofs.Devices.{went-none, deals-none}
use Rattle.sasl_command.proofs.Answering.{deals-by, wrote-one, wrote-front, echoed-by, unsent-by, echoed-unread, refused}
use Rattle.sasl_command.proofs.serving.echo.Goals as goal

pub returns-in-Err-clause-told : goal.returns-in-Err-clause-told
returns-in-Err-clause-told g c = λ t.
    rw c.end_of.ensures (refused (Echoes c.args.layer c.args.message.now) _ _ [] [] c.in-Err.refusal (deals-none _) (λ other. echoed-unread c.args.layer c.args.message.now c.in-Err.refusal (c.in-Err.ensures.exact other)))

pub returns-in-Ok-write_message-clause-told : goal.returns-in-Ok-write_message-clause-told
returns-in-Ok-write_message-clause-told g c = λ t.
    let e : receives c.args.layer c.args.message.now ≡ Ok c.as_slice.result.now = c.in-Ok.ensures.exact ∙ ap Ok (sym c.as_slice.ensures) in
    let f : sends c.receive.new.self c.as_slice.result.now c.fill.new.out ≡ Ok c.as_slice-in-Ok-send.result.now = c.in-Ok-send.ensures.exact ∙ ap Ok (sym c.as_slice-in-Ok-send.ensures) in
    record {
      moments = [];
      octets = c.fill.new.out;
      said = c.as_slice-in-Ok-send.result.now ∷ [];
      makes = echoed-by c.args.layer c.receive.new.self c.send.new.self c.args.message.now c.as_slice.result.now c.fill.new.out c.as_slice-in-Ok-send.result.now (omega (arith, c.fill.auto.out)) e c.in-Ok.ensures.after f c.in-Ok-send.ensures.after;
      deals = deals-by (g.L.Link.wire c.args.link.now) (g.L.Link.wire c.write_message.new.link) (g.C.Clock.tells c.args.clock.now) (g.C.Clock.tells c.args.clock.now) (g.C.Clock.given c.args.clock.now) (g.C.Clock.given c.args.clock.now) (g.D.Draw.tells c.args.draw.now) (g.D.Draw.tells c.fill.new.self) (g.D.Draw.given c.args.draw.now) (g.D.Draw.given c.fill.new.self) (λ on. on) (λ on. sym (append-nil (g.C.Clock.given c.args.clock.now))) c.fill.ensures.kept c.fill.ensures.told (wrote-one c.as_slice-in-Ok-send.result.now (put-told t c.in-Ok-write_message.ensures.told));
    }

pub returns-in-Ok-send-clause-told : goal.returns-in-Ok-send-clause-told
returns-in-Ok-send-clause-told g c = λ t.
    let e : receives c.args.layer c.args.message.now ≡ Ok c.as_slice.result.now = c.in-Ok.ensures.exact ∙ ap Ok (sym c.as_slice.ensures) in
    let f : sends c.receive.new.self c.as_slice.result.now c.fill.new.out ≡ Ok c.as_slice-in-Ok-send.result.now = c.in-Ok-send.ensures.exact ∙ ap Ok (sym c.as_slice-in-Ok-send.ensures) in
    let p = c.in-Err-write_message.ensures.told in
    record {
      moments = [];
      octets = c.fill.new.out;
      said = c.as_slice-in-Ok-send.result.now ∷ [];
      next = stages.Under c.send.new.self;
      makes = echoed-by c.args.layer c.receive.new.self c.send.new.self c.args.message.now c.as_slice.result.now c.fill.new.out c.as_slice-in-Ok-send.result.now (omega (arith, c.fill.auto.out)) e c.in-Ok.ensures.after f c.in-Ok-send.ensures.after;
      count = p.0;
      deals = deals-by (g.L.Link.wire c.args.link.now) (g.L.Link.wire c.write_message.new.link) (g.C.Clock.tells c.args.clock.now) (g.C.Clock.tells c.args.clock.now) (g.C.Clock.given c.args.clock.now) (g.C.Clock.given c.args.clock.now) (g.D.Draw.tells c.args.draw.now) (g.D.Draw.tells c.fill.new.self) (g.D.Draw.given c.args.draw.now) (g.D.Draw.given c.fill.new.self) (λ on. on) (λ on. sym (append-nil (g.C.Clock.given c.args.clock.now))) c.fill.ensures.kept c.fill.ensures.told (wrote-front c.as_slice-in-Ok-send.result.now p.0 (put-told t p.1));
    }

pub returns-clause-told : goal.returns-clause-told
returns-clause-told g c = λ t.
    let e : receives c.args.layer c.args.message.now ≡ Ok c.as_slice.result.now = c.in-Ok.ensures.exact ∙ ap Ok (sym c.as_slice.ensures) in
    rw c.end_of-in-Err-send.ensures (refused (Echoes c.args.layer c.args.message.now) _ _ [] c.fill.new.out c.in-Err-send.refusal
    (deals-by (g.L.Link.wire c.args.link.now) (g.L.Link.wire c.args.link.now) (g.C.Clock.tells c.args.clock.now) (g.C.Clock.tells c.args.clock.now) (g.C.Clock.given c.args.clock.now) (g.C.Clock.given c.args.clock.now) (g.D.Draw.tells c.args.draw.now) (g.D.Draw.tells c.fill.new.self) (g.D.Draw.given c.args.draw.now) (g.D.Draw.given c.fill.new.self) (λ on. on) (λ on. sym (append-nil (g.C.Clock.given c.args.clock.now))) c.fill.ensures.kept c.fill.ensures.told (went-none (g.L.Link.wire c.args.link.now)))
    (λ other. unsent-by c.args.layer c.receive.new.self c.args.message.now c.as_slice.result.now c.fill.new.out c.in-Err-send.refusal (omega (arith, c.fill.auto.out)) e c.in-Ok.ensures.after (c.in-Err-send.ensures.exact other)))
