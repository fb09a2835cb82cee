use Rattle.std.proofs.Common.{rules}
use Rattle.krb_msgs.specs.declared.authorization_datum.AuthorizationDatum.{AuthorizationDatum}
use Rattle.krb_msgs.specs.AuthorizationDatum.{authorization_datum_fields}
use Rattle.krb_msgs.proofs.ReadFields.{reads_field, reads_seen}
use Rattle.krb_msgs.proofs.authorization_datum.AuthorizationDatumSequence.read_fields.Goals as goal

pub returns : goal.returns
returns c = reads_seen _ (λ (p : AuthorizationDatum). (p.ad_type, (p.ad_data, tt))) authorization_datum_fields (c.field-ad_type.result, (c.field-ad_data.result, tt)) _ _ _ (reads_field _ _ _ _ _ _ _ c.field-ad_type.ensures (reads_field _ _ _ _ _ _ _ c.field-ad_data.ensures c.end.ensures)) (search rules)
