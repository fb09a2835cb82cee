use Rattle.std.proofs.Common.{◌∙◌, ap, subst, map, List}
use Rattle.gss_base.specs.declared.mech.KerberosName.TheVariants.{Standard}
use Rattle.mech_objects.specs.Meaning.{MechSays}
use Rattle.sasl_command.specs.Turns.{seen}
use Rattle.sasl_command.specs.Asking.{Opens, Spoke}
use Rattle.sasl_command.specs.Runs.{armed_all}
use Rattle.sasl_command.proofs.Running.{unasked}
use Rattle.sasl_command.proofs.run.ask_with.Goals as goal

pub ask-requires-clause-armed : goal.ask-requires-clause-armed
ask-requires-clause-armed g c = (c.requires.blank.0, Standard, c.args.credential, c.in-Ok.ensures ∙ ap (λ (o : List MechSays). armed_all o c.args.credential) c.requires.blank.1)

pub returns-in-Ok-clause-told : goal.returns-in-Ok-clause-told
returns-in-Ok-clause-told g c = λ t. record {
  wish = c.wish_of-wish.result;
  is_wish = c.wish_of-wish.ensures;
  spoke = subst (λ (o : List MechSays). Spoke c.wish_of-wish.result c.args.sending.now (Opens o) (seen g.L.Link g.C.Clock g.D.Draw c.args.link.now c.args.clock.now c.args.draw.now) (seen g.L.Link g.C.Clock g.D.Draw c.ask.new.link c.ask.new.clock c.ask.new.draw) c.ask.result.facts c.ask.result.echo c.ask.result.end) c.in-Ok.ensures (c.ask.ensures.told t);
}

pub returns-in-Err-clause-told : goal.returns-in-Err-clause-told
returns-in-Err-clause-told g c = λ t. unasked (armed_all (map (λ b. (goal.Mech-dyn g (b.vtable, b.value)).meaning b.value) c.args.mechs.items) c.args.credential) c.args.wished c.args.sending.now c.wish_of-wish.result (seen g.L.Link g.C.Clock g.D.Draw c.args.link.now c.args.clock.now c.args.draw.now) c.unlayered.result c.unlayered.ensures c.wish_of-wish.ensures
