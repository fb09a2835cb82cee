use Rattle.std.proofs.Common.{◌≡◌, drop}
use Rattle.krb_files.specs.Keytab.{greater, greatest_number}
use Rattle.krb_files.proofs.keytab.greatest.Given as goal

abbrev pub invariant-loop-entry : goal.invariant-loop-entry
invariant-loop-entry l = greater l.greatest (greatest_number l.server l.etype (drop l.entry-index l.entries)) ≡ greatest_number l.server l.etype l.entries
