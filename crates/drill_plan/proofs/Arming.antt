-- The credential of a mechanism is one of it, and arms a blank object of it.
use Rattle.std.proofs.Common.{◌≡◌, ◌∙◌, ap, refl}
use Rattle.gss_base.specs.declared.mech.MechKind.{MechKind}
use Rattle.gss_base.specs.declared.mech.MechKind.TheVariants as kinds
use Rattle.gss_base.specs.Mech.{kind_named}
use Rattle.spnego_core.specs.declared.setup.MechCred.{MechCred}
use Rattle.spnego_core.specs.InitMech as plain_lists
use Rattle.mech_objects.specs.Meaning.{MechSays, armed}
use Rattle.mech_objects.specs.Standard.{blank_of}
use Rattle.init_ends.specs.Plain.{fresh_of}
use Rattle.drill_plan.specs.Sessions.{own_name}
use Rattle.drill_plan.specs.Setting.{drill_credential}

pub kind-is : (kind : MechKind) → plain_lists.kind_of (drill_credential kind) ≡ kind
kind-is kinds.Kerberos = refl
kind-is kinds.Scram = refl

pub own-is : (kind : MechKind) → kind_named (own_name kind) ≡ kind
own-is kinds.Kerberos = refl
own-is kinds.Scram = refl

fresh-is : (kind : MechKind) → armed (blank_of (own_name kind)) (drill_credential kind) ≡ fresh_of (drill_credential kind)
fresh-is kinds.Kerberos = refl
fresh-is kinds.Scram = refl

pub armed-is : (kind : MechKind) (m : MechSays) (cred : MechCred) → m ≡ blank_of (own_name kind) → cred ≡ drill_credential kind → armed m cred ≡ fresh_of (drill_credential kind)
armed-is kind m cred blank is = ap (λ (x : MechSays). armed x cred) blank ∙ (ap (λ (c : MechCred). armed (blank_of (own_name kind)) c) is ∙ fresh-is kind)
