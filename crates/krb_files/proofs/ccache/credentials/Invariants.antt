use Rattle.std.proofs.Common.{◌≡◌, ◌-◌}
use Rattle.krb_files.specs.Pieces.{many_of}
use Rattle.krb_files.specs.Ccache.{next_at}
use Rattle.krb_files.proofs.Values.{with_front}
use Rattle.krb_files.proofs.ccache.credentials.Given as goal

abbrev pub invariant-loop : goal.invariant-loop
invariant-loop l = with_front l.credentials.items (many_of next_at (l.count - l.counter) l.fields) ≡ many_of next_at l.count l.fn.fields
