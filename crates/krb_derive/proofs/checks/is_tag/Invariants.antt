use Rattle.std.proofs.Common.{◌≡◌, take}
use Rattle.std.specs.Prelude.{nat_eq}
use lib.Pointwise.{pointwise}
use Rattle.krb_derive.proofs.checks.is_tag.Given as goal

abbrev pub invariant-octets : goal.invariant-octets
invariant-octets l = l.same ≡ pointwise nat_eq (take l.i l.computed) (take l.i l.tag)
