use Rattle.std.proofs.Common.{List, length, subst, arith}
use Rattle.scram_mech.specs.declared.verifiers.Verifier.{Verifier}
use Rattle.scram_mech.specs.UserPlaces.{AreFound}
use Rattle.scram_mech.proofs.FileLaws.{lines-found}
use Rattle.scram_mech.proofs.verifiers.read_verifiers.Goals as goal

pub invariant_of-result : goal.invariant_of-result
invariant_of-result c = record {
  each = (lines-found (length c.args.bytes.now) 1 c.args.bytes.now c.in_ok-lines.lines.items (omega arith) c.in_ok-lines.ensures).0;
  found = subst (λ (lines : List Verifier). AreFound c.in_ok-places.places lines) c.as_slice.ensures.value c.in_ok-places.ensures.found;
}
