use Rattle.std.proofs.Common.{rules}
use Rattle.init_ends.proofs.Starting.{first_of}
use Rattle.init_ends.proofs.start.started.Goals as goal

pub start_of-requires : goal.start_of-requires
start_of-requires g c = search (rules, first_of (λ b. (goal.Mech-dyn g (b.vtable, b.value)).meaning b.value) c.args.list.items c.remove-mech.result c.requires)

pub opens-requires-clause-fresh : goal.opens-requires-clause-fresh
opens-requires-clause-fresh g c = search (rules, first_of (λ b. (goal.Mech-dyn g (b.vtable, b.value)).meaning b.value) c.args.list.items c.remove-mech.result c.requires)

pub returns-in_ok-begun-in-Ok-start_of-clause-exact : goal.returns-in_ok-begun-in-Ok-start_of-clause-exact
returns-in_ok-begun-in-Ok-start_of-clause-exact g c = search (rules, first_of (λ b. (goal.Mech-dyn g (b.vtable, b.value)).meaning b.value) c.args.list.items c.remove-mech.result c.requires)

pub returns-in-Err-clause-exact : goal.returns-in-Err-clause-exact
returns-in-Err-clause-exact g c = search (rules, first_of (λ b. (goal.Mech-dyn g (b.vtable, b.value)).meaning b.value) c.args.list.items c.remove-mech.result c.requires)
