-- What the objects of Kerberos and SCRAM are.
use Rattle.mech_objects.specs.declared.objects.KerberosMech.{KerberosMech}
use Rattle.mech_objects.specs.declared.objects.ScramMech.{ScramMech}
use Rattle.mech_objects.specs.Meaning.{MechSays}
use Rattle.mech_objects.specs.States.{object_of}

-- the object of Kerberos
abbrev pub kerberos_of : KerberosMech → MechSays
kerberos_of m = object_of m.run

-- the object of SCRAM
abbrev pub scram_of : ScramMech → MechSays
scram_of m = object_of m.run
