use Rattle.std.proofs.Common.{◌≡◌, ◌++◌, drop, IsUtf8}
use Rattle.gss_base.proofs.Naming.{joined_from}
use Rattle.gss_base.specs.Principal.{joined}
use Rattle.gss_base.proofs.principal.written.Given as goal

abbrev pub invariant-loop-part : goal.invariant-loop-part
invariant-loop-part l = record {
  form : l.text.items ++ joined_from l.first (drop l.part-index l.parts) ≡ joined l.parts;
  utf8 : IsUtf8 l.text.items;
}
