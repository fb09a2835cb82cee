use Rattle.std.proofs.Common.{◌≡◌, ◌<◌, true, false, drop}
use Rattle.gss_base.proofs.Naming.{with_front}
use Rattle.gss_base.specs.Signs.{signs_of}
use Rattle.gss_base.proofs.principal.signs_in.Given as goal

abbrev pub invariant-loop-at : goal.invariant-loop-at
invariant-loop-at l = record {
  read : with_front l.signs.items (signs_of l.quotes l.realm l.at (drop l.at l.text)) ≡ signs_of false false 0 l.text;
  behind : l.quotes ≡ true → 0 < l.at;
}
