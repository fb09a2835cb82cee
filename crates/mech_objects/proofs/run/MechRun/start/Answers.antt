use Rattle.std.proofs.Common.{◌≡◌, ◌∙◌, sym, ap}
use Rattle.std.specs.Option.{option_zip}
use Rattle.mech_objects.specs.States.{mech_in}
use Rattle.mech_objects.proofs.Steps.{begun_by, zipped}
use Rattle.mech_objects.proofs.run.MechRun.start.Goals as goal

pub begins-requires-clause-state : goal.begins-requires-clause-state
begins-requires-clause-state c =
    let own : c.in-Some-zip.own ≡ c.args.ask.now = zipped c.alone.result c.copied.result c.in-Some-zip.sent c.in-Some-zip.own c.args.ask.now
    (sym (c.zip.ensures ∙ ap (option_zip c.alone.result) c.ok.ensures.value) ∙ c.in-Some-zip.is) c.copied.ensures in
    begun_by c.self.inside.cred c.in-Some.cred c.in-Some-zip.own (mech_in c.in_ok-state.state) c.in_ok-state.token c.in-Some.is (rw own c.in_ok-state.ensures.exact)
