use Rattle.std.proofs.Common.{ap, rules}
use Rattle.spnego_core.specs.Ends.{setup_of}
use Rattle.gss_client.specs.Start.{StartMeans}
use Rattle.init_ends.specs.Ends.{SetupMeans}
use Rattle.service_kit.specs.Calling.{start_from}
use Rattle.service_kit.proofs.calling.hold_by.Goals as goal

pub hold_calls-requires-clause-list : goal.hold_calls-requires-clause-list
hold_calls-requires-clause-list g c = search rules

pub returns-clause-told : goal.returns-clause-told
returns-clause-told g c = λ t.
    let begun : SetupMeans → StartMeans = λ setup. record { setup = setup; terms = c.args.terms; first = 1 } in
    c.hold_calls.ensures.plain (start_from (setup_of c.args.facts) c.args.terms) (ap begun c.in-Ok.ensures.objects) t
