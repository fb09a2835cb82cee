use Rattle.std.proofs.Common.{rules}
use Rattle.krb_msgs.specs.declared.checksum.Checksum.{Checksum}
use Rattle.krb_msgs.specs.Checksum.{checksum_fields}
use Rattle.krb_msgs.proofs.ReadFields.{reads_field, reads_seen}
use Rattle.krb_msgs.proofs.checksum.ChecksumSequence.read_fields.Goals as goal

pub returns : goal.returns
returns c = reads_seen _ (λ (p : Checksum). (p.cksumtype, (p.checksum, tt))) checksum_fields (c.field-cksumtype.result, (c.field-checksum.result, tt)) _ _ _ (reads_field _ _ _ _ _ _ _ c.field-cksumtype.ensures (reads_field _ _ _ _ _ _ _ c.field-checksum.ensures c.end.ensures)) (search rules)
