use Rattle.std.proofs.Common.{arith, map, [], ◌∷◌}
use Rattle.sasl_gssapi.specs.Ends.{init_means}
use Rattle.sec_base.proofs.InARow.{put-told}
use Rattle.sasl_command.specs.Asking.{Begun, Opened}
use Rattle.sasl_command.proofs.Devices.{went-none}
use Rattle.sasl_command.proofs.Answering.{deals-by, wrote-one, wrote-front, refused}
use Rattle.sasl_command.proofs.AskTurns.{opened-as, opened-not}
use Rattle.sasl_command.proofs.asking.open.Goals as goal

pub returns-in-Ok-write_message-clause-told : goal.returns-in-Ok-write_message-clause-told
returns-in-Ok-write_message-clause-told g c = λ t. record {
  moments = c.now-stamp.result ∷ [];
  octets = c.fill.new.out;
  said = c.as_slice.result.now ∷ [];
  makes = opened-as c.args.wish (map (λ b. (goal.Mech-dyn g (b.vtable, b.value)).meaning b.value) c.args.mechs.items) c.now-stamp.result c.fill.new.out _ _ c.as_slice.result.now (omega (arith, c.fill.auto.out)) c.in-Ok.ensures.exact c.as_slice.ensures;
  deals = deals-by (g.L.Link.wire c.args.link.now) (g.L.Link.wire c.write_message.new.link) (g.C.Clock.tells c.args.clock.now) (g.C.Clock.tells c.now-stamp.new.self) (g.C.Clock.given c.args.clock.now) (g.C.Clock.given c.now-stamp.new.self) (g.D.Draw.tells c.args.draw.now) (g.D.Draw.tells c.fill.new.self) (g.D.Draw.given c.args.draw.now) (g.D.Draw.given c.fill.new.self) c.now-stamp.ensures.kept c.now-stamp.ensures.told c.fill.ensures.kept c.fill.ensures.told (wrote-one c.as_slice.result.now (put-told t c.in-Ok-write_message.ensures.told));
}

pub returns-in-Ok-clause-told : goal.returns-in-Ok-clause-told
returns-in-Ok-clause-told g c = λ t.
    let p = c.in-Err-write_message.ensures.told in
    record {
      moments = c.now-stamp.result ∷ [];
      octets = c.fill.new.out;
      said = c.as_slice.result.now ∷ [];
      next = Begun (init_means (λ b. (goal.Mech-dyn g (b.vtable, b.value)).meaning b.value) c.in-Ok.end);
      makes = opened-as c.args.wish (map (λ b. (goal.Mech-dyn g (b.vtable, b.value)).meaning b.value) c.args.mechs.items) c.now-stamp.result c.fill.new.out _ _ c.as_slice.result.now (omega (arith, c.fill.auto.out)) c.in-Ok.ensures.exact c.as_slice.ensures;
      count = p.0;
      deals = deals-by (g.L.Link.wire c.args.link.now) (g.L.Link.wire c.write_message.new.link) (g.C.Clock.tells c.args.clock.now) (g.C.Clock.tells c.now-stamp.new.self) (g.C.Clock.given c.args.clock.now) (g.C.Clock.given c.now-stamp.new.self) (g.D.Draw.tells c.args.draw.now) (g.D.Draw.tells c.fill.new.self) (g.D.Draw.given c.args.draw.now) (g.D.Draw.given c.fill.new.self) c.now-stamp.ensures.kept c.now-stamp.ensures.told c.fill.ensures.kept c.fill.ensures.told (wrote-front c.as_slice.result.now p.0 (put-told t p.1));
    }

pub returns-clause-told : goal.returns-clause-told
returns-clause-told g c = λ t.
    rw c.end_of.ensures (refused (Opened c.args.wish (map (λ b. (goal.Mech-dyn g (b.vtable, b.value)).meaning b.value) c.args.mechs.items)) _ _ (c.now-stamp.result ∷ []) c.fill.new.out c.in-Err.refusal (deals-by (g.L.Link.wire c.args.link.now) (g.L.Link.wire c.args.link.now) (g.C.Clock.tells c.args.clock.now) (g.C.Clock.tells c.now-stamp.new.self) (g.C.Clock.given c.args.clock.now) (g.C.Clock.given c.now-stamp.new.self) (g.D.Draw.tells c.args.draw.now) (g.D.Draw.tells c.fill.new.self) (g.D.Draw.given c.args.draw.now) (g.D.Draw.given c.fill.new.self) c.now-stamp.ensures.kept c.now-stamp.ensures.told c.fill.ensures.kept c.fill.ensures.told (went-none (g.L.Link.wire c.args.link.now)))
    (λ other. opened-not c.args.wish (map (λ b. (goal.Mech-dyn g (b.vtable, b.value)).meaning b.value) c.args.mechs.items) c.now-stamp.result c.fill.new.out c.in-Err.refusal (omega (arith, c.fill.auto.out)) (c.in-Err.ensures.exact other)))
