use Rattle.std.proofs.Common.{◌≡◌, ◌-◌}
use Rattle.krb_files.specs.Names.{parts_at}
use Rattle.krb_files.proofs.Parts.{with_parts}
use Rattle.krb_files.proofs.names.parts.Given as goal

abbrev pub invariant-loop : goal.invariant-loop
invariant-loop l = with_parts l.parts.items (parts_at l.size (l.count - l.counter) l.fields) ≡ parts_at l.size l.count l.fn.fields
