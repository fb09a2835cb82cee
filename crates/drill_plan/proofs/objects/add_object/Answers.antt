use Rattle.std.proofs.Common.{◌∙◌, ap, map}
use Rattle.drill_plan.proofs.Adding.{one-added}
use Rattle.drill_plan.proofs.objects.add_object.Goals as goal

pub returns : goal.returns
returns g c =
    ap (map (λ b. (goal.Mech-dyn g (b.vtable, b.value)).meaning b.value)) c.in_ok-push.ensures.items
    ∙ one-added (λ b. (goal.Mech-dyn g (b.vtable, b.value)).meaning b.value) c.args.mechs.now.items c.args.mech c.args.number c.requires.before c.requires.blank
