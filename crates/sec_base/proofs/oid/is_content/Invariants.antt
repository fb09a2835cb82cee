use Rattle.std.proofs.Common.{◌≡◌, drop, true}
use Rattle.sec_base.specs.Oid.{are_arcs}
use Rattle.sec_base.proofs.oid.is_content.Given as goal

abbrev pub invariant-loop-octet : goal.invariant-loop-octet
invariant-loop-octet l = are_arcs l.begins (drop l.octet-index l.content) ≡ are_arcs true l.content
