use Rattle.std.proofs.Common.{refl}
use Rattle.krb_msgs.specs.declared.ap_rep.ApRep.{ApRep}
use Rattle.krb_msgs.specs.ApRep.{ap_rep_fields}
use Rattle.krb_msgs.proofs.ReadFields.{reads_field, reads_seen}
use Rattle.krb_msgs.proofs.ap_rep.ApRepSequence.read_fields.Goals as goal

pub returns : goal.returns
returns c = reads_seen _ (λ (p : ApRep). (tt, (tt, (p.enc_part, tt)))) ap_rep_fields (tt, (tt, (c.field-enc_part.result, tt))) _ _ _ (reads_field _ _ _ _ _ _ _ c.constant.ensures (reads_field _ _ _ _ _ _ _ c.constant-2.ensures (reads_field _ _ _ _ _ _ _ c.field-enc_part.ensures c.end.ensures))) refl
