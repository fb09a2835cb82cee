use Rattle.std.proofs.Common.{inl, ap, arith}
use Rattle.gss_client.specs.Start.{StartMeans}
use Rattle.init_ends.specs.Ends.{SetupMeans}
use Rattle.client_command.specs.Runs.{start_of}
use Rattle.datagram_calls.specs.Sessions.{asks_of}
use Rattle.datagram_calls.proofs.Spoken.{plain-session}
use Rattle.datagram_calls.proofs.speaking.speak.Goals as goal

pub returns-clause-told : goal.returns-clause-told
returns-clause-told g c = λ t.
    let begun : SetupMeans → StartMeans = λ setup. record { setup = setup; terms = c.args.plan.terms; first = c.args.plan.first } in
    record {
      stamp = c.now-stamp.result;
      moment = c.now-stamp.ensures.told;
      draws = c.fill.new.out;
      size = omega (arith, c.fill.auto.out);
      draw_middle = c.fill.new.self;
      kept = c.fill.ensures.kept;
      drew = c.fill.ensures.told;
      holds = inl (plain-session g.P.Post g.D.Draw c.prove_plain_creation.ensures _ (start_of c.args.plan c.args.creds c.now-stamp.result c.fill.new.out) (ap begun c.in-Ok.ensures.objects) (asks_of c.args.plan c.args.tries) {new = c.hold-spoken.new.post} {draw_new = c.hold-spoken.new.draw}
          (rw c.as_slice.ensures at (c.hold-spoken.ensures.told t)));
    }
