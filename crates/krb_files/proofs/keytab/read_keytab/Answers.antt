use Rattle.krb_files.specs.Keytab.{keytab_of}
use Rattle.krb_files.specs.KeytabGrammar.{SpellsKeytab}
use Rattle.krb_files.proofs.WholeLaws.{reads_whole}
use Rattle.krb_files.proofs.KeytabLaws.{keytab_found, keytab_only}
use Rattle.krb_files.proofs.keytab.read_keytab.Goals as goal

pub returns-clause-spelled : goal.returns-clause-spelled
returns-clause-spelled c =
    reads_whole (λ k. k) SpellsKeytab c.args.bytes.now c.keytab_in.result (keytab_of c.args.bytes.now)
    (λ v e. keytab_found c.args.bytes.now v e) (λ v spelled. keytab_only c.args.bytes.now v spelled) c.keytab_in.ensures
