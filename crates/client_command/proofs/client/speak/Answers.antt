use Rattle.std.proofs.Common.{arith, ap, rules}
use Rattle.gss_client.specs.Start.{StartMeans}
use Rattle.init_ends.specs.Ends.{SetupMeans}
use Rattle.client_command.proofs.Spoken.{held, unbegun}
use Rattle.client_command.specs.Runs.{start_of}
use Rattle.client_command.proofs.client.speak.Goals as goal

pub hold-talk-requires-clause-list : goal.hold-talk-requires-clause-list
hold-talk-requires-clause-list g c = search rules

pub returns-clause-told : goal.returns-clause-told
returns-clause-told g c = λ t.
    let begun : SetupMeans → StartMeans = λ setup. record { setup = setup; terms = c.args.plan.terms; first = c.args.plan.first } in
    held c.args.plan c.args.creds c.now-stamp.result c.fill.new.out c.now-stamp.ensures.told (omega (arith, c.fill.auto.out)) (λ d. c.fill.ensures.told (c.hold-talk.ensures.drawing d))
    (rw c.as_slice.ensures at c.hold-talk.ensures.plain (start_of c.args.plan c.args.creds c.now-stamp.result c.fill.new.out) (ap begun c.in-Ok.ensures.objects) t)

pub returns-in_default-clause-told : goal.returns-in_default-clause-told
returns-in_default-clause-told g c = λ t.
    unbegun c.args.plan c.args.creds c.now-stamp.result c.fill.new.out (g.L.Link.wire c.args.link.now) c.now-stamp.ensures.told (omega (arith, c.fill.auto.out)) c.fill.ensures.told c.unbegun.ensures.outcome c.unbegun.ensures.results c.unbegun.ensures.parting
