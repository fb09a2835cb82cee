use Rattle.std.proofs.Common.{rules}
use Rattle.krb_msgs.specs.declared.krb_error.KrbError.{KrbError}
use Rattle.krb_msgs.specs.KrbError.{krb_error_fields}
use Rattle.krb_msgs.proofs.ReadFields.{reads_field, reads_known, reads_optional, reads_optional_known, reads_seen}
use Rattle.krb_msgs.proofs.krb_error.KrbErrorSequence.read_fields.Goals as goal

pub returns : goal.returns
returns c = reads_seen _ (λ (p : KrbError). (tt, (tt, (p.ctime, (p.cusec, (p.stime, (p.susec, (p.error_code, (p.crealm, (p.cname, (p.realm, (p.sname, (p.e_text, (p.e_data, tt)))))))))))))) krb_error_fields (tt, (tt, (c.optional-ctime.result, (c.optional_micros-cusec.result, (c.field-stime.result, (c.micros-susec.result, (c.field-error_code.result, (c.optional-crealm.result, (c.optional_name-cname.result, (c.field-realm.result, (c.name-sname.result, (c.optional-e_text.result, (c.optional-e_data.result, tt))))))))))))) _ _ _ (reads_field _ _ _ _ _ _ _ c.constant.ensures (reads_field _ _ _ _ _ _ _ c.constant-2.ensures (reads_optional 0xa2 _ _ _ _ _ _ _ c.optional-ctime.ensures (reads_optional 0xa3 _ _ _ _ _ _ _ c.optional_micros-cusec.ensures (reads_field _ _ _ _ _ _ _ c.field-stime.ensures (reads_field _ _ _ _ _ _ _ c.micros-susec.ensures (reads_field _ _ _ _ _ _ _ c.field-error_code.ensures (reads_optional_known 0xa7 _ _ _ _ _ _ _ c.optional-crealm.ensures (reads_optional 0xa8 _ _ _ _ _ _ _ c.optional_name-cname.ensures (reads_known _ _ _ _ _ _ _ c.field-realm.ensures (reads_field _ _ _ _ _ _ _ c.name-sname.ensures (reads_optional 0xab _ _ _ _ _ _ _ c.optional-e_text.ensures (reads_optional 0xac _ _ _ _ _ _ _ c.optional-e_data.ensures c.end.ensures))))))))))))) (search rules)
