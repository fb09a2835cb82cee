use Rattle.std.proofs.Common.{◌∙◌}
use Rattle.spnego_core.specs.Ends.{setup_of}
use Rattle.world_runs.proofs.Told.{setup-told}
use Rattle.world_runs.proofs.setups.tell_setup.Goals as goal

pub returns : goal.returns
returns c = setup-told (setup_of c.args.own.now) c.tell_credentials.result c.tell_draws.ensures (λ application is. c.tell_bindings.ensures application (c.as_ref.ensures.value ∙ is)) c.tell_credentials.ensures
