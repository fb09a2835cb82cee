use Rattle.std.proofs.Common.{rules}
use Rattle.mech_objects.proofs.objects.KerberosMech.new_ms.Goals as goal

pub returns : goal.returns
returns c = search rules
