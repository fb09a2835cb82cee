use Rattle.std.proofs.Common.{◌≡◌, ◌-◌}
use Rattle.krb_files.specs.Ccache.{times_typed_at}
use Rattle.krb_files.proofs.ccache.pass_times_typed.Given as goal

abbrev pub invariant-loop : goal.invariant-loop
invariant-loop l = times_typed_at (l.count - l.counter) l.fields ≡ times_typed_at l.count l.fn.fields
