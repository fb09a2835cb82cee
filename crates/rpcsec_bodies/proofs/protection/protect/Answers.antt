use Rattle.std.proofs.Common.{arith, ap, length, ℕ}
use Rattle.std.proofs.lemmas.List.{length-append}
use Rattle.rpcsec_bodies.specs.Protection.{protected}
use Rattle.rpcsec_bodies.proofs.Lengths.{protected-fits}
use Rattle.rpcsec_bodies.proofs.protection.protect.Goals as goal

pub returns-clause-size : goal.returns-clause-size
returns-clause-size c =
    omega (arith, ap (length {A = ℕ}) c.finish.ensures, ap (length {A = ℕ}) c.in_ok-body.ensures.value, length-append c.in_ok-out.out (protected c.args.end.now c.args.service c.args.seq c.args.confounder.now c.args.content.now), ap (length {A = ℕ}) c.in_ok-out.ensures, protected-fits c.args.end.now c.args.service c.args.seq c.args.confounder.now c.args.content.now c.requires c.told-confounder)
