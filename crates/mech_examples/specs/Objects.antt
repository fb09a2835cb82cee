-- What the objects of this crate are.
use Rattle.gss_base.specs.declared.mech.MechKind.TheVariants.{Scram}
use Rattle.mech_objects.specs.Meaning.{MechSays}
use Rattle.mech_examples.specs.declared.shared_key.SharedKeyMech.{SharedKeyMech}
use Rattle.mech_examples.specs.SharedKey.{example_oid, shared_key}

-- the object of the shared key: it takes a user and a password as SCRAM does, and stands in a list
-- under an identifier of its own
abbrev pub shared_key_of : SharedKeyMech → MechSays
shared_key_of m = record {
  kind = Scram;
  oid = example_oid;
  says = shared_key;
  cred = m.cred;
  ask = m.ask;
  sent = m.sent.items;
  taken = m.taken.items;
  stage = m.stage;
}
