use Rattle.std.proofs.Common.{◌≡◌, ◌-◌}
use Rattle.krb_files.specs.Pieces.{many_of}
use Rattle.krb_files.specs.Keytab.{piece_at}
use Rattle.krb_files.proofs.Values.{with_front}
use Rattle.krb_files.proofs.keytab.entries.Given as goal

abbrev pub invariant-loop : goal.invariant-loop
invariant-loop l = with_front l.entries.items (many_of piece_at (l.count - l.counter) l.fields) ≡ many_of piece_at l.count l.fn.fields
