use Rattle.std.proofs.Common.{◌∙◌, ap, sym, [], ◌∷◌}
use Rattle.spnego_core.specs.InitMech as plain_lists
use Rattle.mech_objects.specs.Meaning.{MechSays}
use Rattle.drill_plan.proofs.Arming.{kind-is, own-is, armed-is}
use Rattle.drill_plan.proofs.setting.armed_one.Goals as goal

pub armed_with-requires-clause-same : goal.armed_with-requires-clause-same
armed_with-requires-clause-same g c =
    ap plain_lists.kind_of c.in_ok-cred.ensures.is ∙ (kind-is c.args.kind ∙ sym (ap (λ (m : MechSays). m.kind) c.requires ∙ own-is c.args.kind))

pub armed_with-requires-clause-blank : goal.armed_with-requires-clause-blank
armed_with-requires-clause-blank g c = ap (λ (m : MechSays). m.stage) c.requires

pub returns-clause-is : goal.returns-clause-is
returns-clause-is g c =
    let is = c.armed_with.ensures ∙ armed-is c.args.kind _ _ c.requires c.in_ok-cred.ensures.is in
    rw c.push_reserved.ensures.items (rw c.in_ok-list.ensures.items (ap (λ (m : MechSays). m ∷ []) is))
