use Rattle.std.proofs.Common.{◌≡◌, drop}
use Rattle.krb_files.specs.Keytab.{is_served}
use Rattle.krb_files.proofs.keytab.has_server.Given as goal

abbrev pub invariant-loop-entry : goal.invariant-loop-entry
invariant-loop-entry l = is_served l.server (drop l.entry-index l.entries) ≡ is_served l.server l.entries
