use Rattle.std.proofs.Common.{◌≡◌, drop}
use Rattle.krb_files.specs.Keytab.{key_numbered}
use Rattle.krb_files.proofs.keytab.numbered.Given as goal

abbrev pub invariant-loop-entry : goal.invariant-loop-entry
invariant-loop-entry l = key_numbered l.server l.number l.etype (drop l.entry-index l.entries) ≡ key_numbered l.server l.number l.etype l.entries
