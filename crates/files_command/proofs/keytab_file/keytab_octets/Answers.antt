use Rattle.std.proofs.Common.{arith}
use Rattle.files_command.proofs.SpelledKeytab.{record_length}
use Rattle.files_command.proofs.keytab_file.keytab_octets.Goals as goal

pub put_counted-requires-clause-length : goal.put_counted-requires-clause-length
put_counted-requires-clause-length c =
    let short = (record_length c.args.service.now c.in_ok-record.ensures.is).1 in
    rw (c.as_slice.ensures.value, c.in_ok-record.ensures.written) (omega (arith, short))
