use Rattle.std.proofs.Common.{rules}
use Rattle.spnego_core.specs.InitMech.{oid_listed}
use Rattle.init_ends.proofs.Taking.{taken_at, taken_in, taken_others}
use Rattle.init_ends.proofs.arming.taken.Goals as goal

pub remove-object-requires : goal.remove-object-requires
remove-object-requires g c =
    search (rules, taken_in (λ b. (goal.Mech-dyn g (b.vtable, b.value)).meaning b.value) c.args.mechs.items (oid_listed c.args.cred.now) c.requires.there)

pub returns-clause-object : goal.returns-clause-object
returns-clause-object g c =
    search (rules, taken_at (λ b. (goal.Mech-dyn g (b.vtable, b.value)).meaning b.value) c.args.mechs.items c.args.cred.now c.remove-object.result c.requires.blank c.requires.there)

pub returns-clause-others : goal.returns-clause-others
returns-clause-others g c =
    search (rules, taken_others (λ b. (goal.Mech-dyn g (b.vtable, b.value)).meaning b.value) c.args.mechs.items (oid_listed c.args.cred.now) c.requires.there)
