use Rattle.std.proofs.Common.{rules}
use Rattle.mech_examples.proofs.shared_key.SharedKeyMechMech.kind.Goals as goal

pub returns : goal.returns
returns c = search rules
