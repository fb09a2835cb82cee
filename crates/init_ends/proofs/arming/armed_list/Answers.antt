use Rattle.std.proofs.Common.{rules, map}
use Rattle.init_ends.specs.Plain.{fresh_of}
use Rattle.init_ends.proofs.Taking.{armable, armable_more, blank_more, armed_more}
use Rattle.init_ends.proofs.arming.armed_list.Goals as goal

pub loop-cred-init : goal.loop-cred-init
loop-cred-init g c =
    search (rules, armable (map (λ b. (goal.Mech-dyn g (b.vtable, b.value)).meaning b.value) c.args.mechs.items) c.args.creds c.requires.blank.1 c.requires.list)

pub loop-cred-preserved : goal.loop-cred-preserved
loop-cred-preserved g c =
    search (
      rules,
      blank_more (map (λ b. (goal.Mech-dyn g (b.vtable, b.value)).meaning b.value) c.loop-cred.mechs.items) c.in-Some.cred c.loop-cred.invariant.2,
      armable_more (map (λ b. (goal.Mech-dyn g (b.vtable, b.value)).meaning b.value) c.loop-cred.mechs.items) c.in-Some.cred c.loop-cred.cred-iterator.rest.items c.loop-cred.invariant.3 c.next.new.self.rest.items c.in-Some.ensures.steps.0,
      armed_more (λ b. (goal.Mech-dyn g (b.vtable, b.value)).meaning b.value) c.loop-cred.list.items c.armed_for.result c.in-Some.cred c.loop-cred.cred-iterator.rest.items (map fresh_of c.args.creds) c.loop-cred.invariant.4 c.armed_for.ensures c.next.new.self.rest.items c.in-Some.ensures.steps.0 c.push.new.self.items c.in_ok-push.ensures.items,
    )
