use Rattle.sasl_command.specs.Turns.{seen}
use Rattle.sasl_command.proofs.Running.{unserved}
use Rattle.sasl_command.proofs.run.serve_with.Goals as goal

pub returns-in-Ok-clause-told : goal.returns-in-Ok-clause-told
returns-in-Ok-clause-told g c = λ t. record {
  setup = c.in-Ok.setup;
  is_setup = c.in-Ok.ensures;
  wish = c.wish_of-wish.result;
  is_wish = c.wish_of-wish.ensures;
  spoke = c.serve-parted.ensures.told t;
}

pub returns-in-Err-clause-told : goal.returns-in-Err-clause-told
returns-in-Err-clause-told g c = λ t. unserved c.args.keytab c.args.own c.args.wished c.wish_of-wish.result (seen g.L.Link g.C.Clock g.D.Draw c.args.link.now c.args.clock.now c.args.draw.now) c.wish_of-wish.ensures
