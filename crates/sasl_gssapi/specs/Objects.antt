-- The object of Kerberos among those that are handed in.
use Rattle.std.specs.Prelude.{Bool, true, false, ◌&&◌, if◌then◌else◌, List, [], ◌∷◌, Option}
use Rattle.std.specs.Prelude.{Some, None}
use Rattle.gss_base.specs.declared.mech.MechKind.{MechKind}
use Rattle.gss_base.specs.declared.mech.MechKind.TheVariants.{Kerberos, Scram}
use Rattle.mech_objects.specs.Meaning.{MechSays}
use Rattle.mech_objects.specs.declared.ask.Stage.{Stage}
use Rattle.mech_objects.specs.declared.ask.Stage.TheVariants.{Blank, Fresh, Waiting, Over}

abbrev pub is_kerberos : MechKind → Bool
is_kerberos Kerberos = true
is_kerberos Scram = false

abbrev pub is_fresh : Stage → Bool
is_fresh Blank = false
is_fresh Fresh = true
is_fresh Waiting = false
is_fresh Over = false

abbrev pub is_waiting : Stage → Bool
is_waiting Blank = false
is_waiting Fresh = false
is_waiting Waiting = true
is_waiting Over = false

-- each of them is armed, and sent nothing
abbrev pub all_fresh : List MechSays → Bool
all_fresh [] = true
all_fresh (m ∷ rest) = is_fresh m.stage && all_fresh rest

-- the first object of Kerberos
abbrev pub kerberos_in : List MechSays → Option MechSays
kerberos_in [] = None
kerberos_in (m ∷ rest) = if is_kerberos m.kind then Some m else kerberos_in rest
