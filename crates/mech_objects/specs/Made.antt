-- The objects that a program makes.
use Rattle.std.specs.Prelude.{◌≡◌, box_value}
use Rattle.gss_base.specs.declared.mech.KerberosName.TheVariants.{Standard, Microsoft}
use Rattle.gss_base.specs.declared.mech.MechName.TheVariants.{Kerberos, Scram}
use Rattle.mech_objects.specs.Objects.{kerberos_of, scram_of}
use Rattle.mech_objects.specs.Standard.{blank_of}
use Rattle.mech_objects.specs.declared.made.MadeMechs.{MadeMechs}

-- none of them has a credential, and each is of its name
pub record AreMade (made : MadeMechs) : Type 0 where
  pub kerberos : kerberos_of (box_value made.kerberos) ≡ blank_of (Kerberos Standard)
  pub microsoft : kerberos_of (box_value made.microsoft) ≡ blank_of (Kerberos Microsoft)
  pub scram : scram_of (box_value made.scram) ≡ blank_of Scram
