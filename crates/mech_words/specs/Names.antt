-- The mechanisms that words name.
use Rattle.std.specs.Prelude.{ℕ, Bool, nat_eq, List, codes, Result, Ok, Err, if◌then◌else◌}
use lib.Pointwise.{pointwise}
use Rattle.gss_base.specs.declared.mech.KerberosName.TheVariants.{Standard, Microsoft}
use Rattle.gss_base.specs.declared.mech.MechName.{MechName}
use Rattle.gss_base.specs.declared.mech.MechName.TheVariants as names
use Rattle.cli_base.specs.declared.given.WordsRefusal.{WordsRefusal}
use Rattle.cli_base.specs.declared.given.WordsRefusal.TheVariants.{Usage}

-- two words are the same
abbrev pub same : List ℕ → List ℕ → Bool
same = pointwise nat_eq

-- the mechanism that a word names: Kerberos under its own name or under Microsoft's, or SCRAM
abbrev pub mech_named : List ℕ → Result MechName WordsRefusal
mech_named word =
    if same word (codes "krb5") then Ok (names.Kerberos Standard)
    else if same word (codes "ms-krb5") then Ok (names.Kerberos Microsoft)
    else if same word (codes "scram") then Ok names.Scram
    else Err Usage
