use Rattle.std.proofs.Common.{◌≡◌, drop, None, option_copied}
use Rattle.krb_files.specs.Ccache.{latest_from}
use Rattle.krb_files.proofs.ccache.latest_for.Given as goal

abbrev pub invariant-loop-entry : goal.invariant-loop-entry
invariant-loop-entry l = latest_from l.server (option_copied l.found) (drop l.entry-index l.entries) ≡ latest_from l.server None l.entries
