use Rattle.std.proofs.Common.{refl}
use Rattle.krb_msgs.specs.declared.authenticator.Authenticator.{Authenticator}
use Rattle.krb_msgs.specs.Authenticator.{authenticator_fields}
use Rattle.krb_msgs.proofs.ReadFields.{reads_field, reads_known, reads_optional, reads_seen}
use Rattle.krb_msgs.proofs.authenticator.AuthenticatorSequence.read_fields.Goals as goal

pub returns : goal.returns
returns c = reads_seen _ (λ (p : Authenticator). (tt, (p.crealm, (p.cname, (p.cksum, (p.cusec, (p.ctime, (p.subkey, (p.seq_number, (p.authorization_data, tt)))))))))) authenticator_fields (tt, (c.field-crealm.result, (c.name-cname.result, (c.optional-cksum.result, (c.micros-cusec.result, (c.field-ctime.result, (c.optional-subkey.result, (c.optional-seq_number.result, (c.optional-authorization_data.result, tt))))))))) _ _ _ (reads_field _ _ _ _ _ _ _ c.constant.ensures (reads_known _ _ _ _ _ _ _ c.field-crealm.ensures (reads_field _ _ _ _ _ _ _ c.name-cname.ensures (reads_optional 0xa3 _ _ _ _ _ _ _ c.optional-cksum.ensures (reads_field _ _ _ _ _ _ _ c.micros-cusec.ensures (reads_field _ _ _ _ _ _ _ c.field-ctime.ensures (reads_optional 0xa6 _ _ _ _ _ _ _ c.optional-subkey.ensures (reads_optional 0xa7 _ _ _ _ _ _ _ c.optional-seq_number.ensures (reads_optional 0xa8 _ _ _ _ _ _ _ c.optional-authorization_data.ensures c.end.ensures))))))))) refl
