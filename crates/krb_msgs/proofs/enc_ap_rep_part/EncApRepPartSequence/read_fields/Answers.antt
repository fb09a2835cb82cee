use Rattle.std.proofs.Common.{refl}
use Rattle.krb_msgs.specs.declared.enc_ap_rep_part.EncApRepPart.{EncApRepPart}
use Rattle.krb_msgs.specs.EncApRepPart.{enc_ap_rep_part_fields}
use Rattle.krb_msgs.proofs.ReadFields.{reads_field, reads_optional, reads_seen}
use Rattle.krb_msgs.proofs.enc_ap_rep_part.EncApRepPartSequence.read_fields.Goals as goal

pub returns : goal.returns
returns c = reads_seen _ (λ (p : EncApRepPart). (p.ctime, (p.cusec, (p.subkey, (p.seq_number, tt))))) enc_ap_rep_part_fields (c.field-ctime.result, (c.micros-cusec.result, (c.optional-subkey.result, (c.optional-seq_number.result, tt)))) _ _ _ (reads_field _ _ _ _ _ _ _ c.field-ctime.ensures (reads_field _ _ _ _ _ _ _ c.micros-cusec.ensures (reads_optional 0xa2 _ _ _ _ _ _ _ c.optional-subkey.ensures (reads_optional 0xa3 _ _ _ _ _ _ _ c.optional-seq_number.ensures c.end.ensures)))) refl
