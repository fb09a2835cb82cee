use Rattle.std.proofs.Common.{◌≡◌, ◌∙◌, arith, ap, sym, [], ◌∷◌, Ok}
use Rattle.sasl_gssapi.specs.Accepting.{accept_step}
use Rattle.sasl_gssapi.specs.declared.accept.SaslAnswer.TheVariants.{More}
use Rattle.sec_base.proofs.InARow.{put-told}
use Rattle.sasl_command.specs.Serving.{Makes}
use Rattle.sasl_command.specs.declared.serving.Stage.TheVariants as stages
use Rattle.sasl_command.proofs.Devices.{went-none}
use Rattle.sasl_command.proofs.Answering.{deals-by, wrote-one, wrote-front, answered-more, answered-done, answered-not, refused}
use Rattle.sasl_command.proofs.serving.answer.Goals as goal

pub returns-in-Ok-clause-told : goal.returns-in-Ok-clause-told
returns-in-Ok-clause-told g c = λ t.
    let e : accept_step c.args.setup.now c.args.end c.args.message.now c.now-now.result c.fill.new.out ≡ Ok (More c.in-Ok-More.next c.as_slice.result.now) = c.in-Ok-More.ensures.exact ∙ ap Ok (c.in-Ok-More.field-0-is ∙ ap (More c.in-Ok-More.next) (sym c.as_slice.ensures)) in
    record {
      moments = c.now-now.result ∷ [];
      octets = c.fill.new.out;
      said = c.as_slice.result.now ∷ [];
      makes = answered-more c.args.setup.now c.args.end c.args.message.now c.now-now.result c.fill.new.out c.in-Ok-More.next c.as_slice.result.now (omega (arith, c.fill.auto.out)) e;
      deals = deals-by (g.L.Link.wire c.args.link.now) (g.L.Link.wire c.write_message.new.link) (g.C.Clock.tells c.args.clock.now) (g.C.Clock.tells c.now-now.new.self) (g.C.Clock.given c.args.clock.now) (g.C.Clock.given c.now-now.new.self) (g.D.Draw.tells c.args.draw.now) (g.D.Draw.tells c.fill.new.self) (g.D.Draw.given c.args.draw.now) (g.D.Draw.given c.fill.new.self) c.now-now.ensures.kept c.now-now.ensures.told c.fill.ensures.kept c.fill.ensures.told (wrote-one c.as_slice.result.now (put-told t c.in-Ok.ensures.told));
    }

pub returns-in-Ok-More-clause-told : goal.returns-in-Ok-More-clause-told
returns-in-Ok-More-clause-told g c = λ t.
    let e : accept_step c.args.setup.now c.args.end c.args.message.now c.now-now.result c.fill.new.out ≡ Ok (More c.in-Ok-More.next c.as_slice.result.now) = c.in-Ok-More.ensures.exact ∙ ap Ok (c.in-Ok-More.field-0-is ∙ ap (More c.in-Ok-More.next) (sym c.as_slice.ensures)) in
    let p = c.in-Err-write_message.ensures.told in
    record {
      moments = c.now-now.result ∷ [];
      octets = c.fill.new.out;
      said = c.as_slice.result.now ∷ [];
      next = stages.Before c.in-Ok-More.next;
      makes = answered-more c.args.setup.now c.args.end c.args.message.now c.now-now.result c.fill.new.out c.in-Ok-More.next c.as_slice.result.now (omega (arith, c.fill.auto.out)) e;
      count = p.0;
      deals = deals-by (g.L.Link.wire c.args.link.now) (g.L.Link.wire c.write_message.new.link) (g.C.Clock.tells c.args.clock.now) (g.C.Clock.tells c.now-now.new.self) (g.C.Clock.given c.args.clock.now) (g.C.Clock.given c.now-now.new.self) (g.D.Draw.tells c.args.draw.now) (g.D.Draw.tells c.fill.new.self) (g.D.Draw.given c.args.draw.now) (g.D.Draw.given c.fill.new.self) c.now-now.ensures.kept c.now-now.ensures.told c.fill.ensures.kept c.fill.ensures.told (wrote-front c.as_slice.result.now p.0 (put-told t p.1));
    }

pub returns-in-Ok-Done-clause-told : goal.returns-in-Ok-Done-clause-told
returns-in-Ok-Done-clause-told g c = λ t.
    record {
      moments = c.now-now.result ∷ [];
      octets = c.fill.new.out;
      said = [];
      makes = answered-done c.args.setup.now c.args.end c.args.message.now c.now-now.result c.fill.new.out c.in-Ok-Done.layer (omega (arith, c.fill.auto.out)) (c.in-Ok-Done.ensures.exact ∙ ap Ok c.in-Ok-Done.field-0-is);
      deals = deals-by (g.L.Link.wire c.args.link.now) (g.L.Link.wire c.args.link.now) (g.C.Clock.tells c.args.clock.now) (g.C.Clock.tells c.now-now.new.self) (g.C.Clock.given c.args.clock.now) (g.C.Clock.given c.now-now.new.self) (g.D.Draw.tells c.args.draw.now) (g.D.Draw.tells c.fill.new.self) (g.D.Draw.given c.args.draw.now) (g.D.Draw.given c.fill.new.self) c.now-now.ensures.kept c.now-now.ensures.told c.fill.ensures.kept c.fill.ensures.told (went-none (g.L.Link.wire c.args.link.now));
    }

pub returns-clause-told : goal.returns-clause-told
returns-clause-told g c = λ t.
    rw c.end_of.ensures (refused (Makes c.args.setup.now (stages.Before c.args.end) c.args.message.now) _ _ (c.now-now.result ∷ []) c.fill.new.out c.in-Err.refusal
    (deals-by (g.L.Link.wire c.args.link.now) (g.L.Link.wire c.args.link.now) (g.C.Clock.tells c.args.clock.now) (g.C.Clock.tells c.now-now.new.self) (g.C.Clock.given c.args.clock.now) (g.C.Clock.given c.now-now.new.self) (g.D.Draw.tells c.args.draw.now) (g.D.Draw.tells c.fill.new.self) (g.D.Draw.given c.args.draw.now) (g.D.Draw.given c.fill.new.self) c.now-now.ensures.kept c.now-now.ensures.told c.fill.ensures.kept c.fill.ensures.told (went-none (g.L.Link.wire c.args.link.now)))
    (λ other. answered-not c.args.setup.now c.args.end c.args.message.now c.now-now.result c.fill.new.out c.in-Err.refusal (omega (arith, c.fill.auto.out)) (c.in-Err.ensures.exact other)))
