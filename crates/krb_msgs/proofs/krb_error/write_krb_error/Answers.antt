use Rattle.std.proofs.Common.{refl}
use Rattle.std.proofs.lemmas.Result.{IfOk-weaker}
use Rattle.krb_msgs.specs.KrbError.{krb_error_fields, krb_error_content, krb_error_element}
use Rattle.krb_msgs.proofs.WriteFields.{wrote_done, wrote_field, wrote_known, wrote_optional, wrote_optional_known}
use Rattle.krb_msgs.proofs.WrittenMessages.{written_message}
use Rattle.krb_msgs.proofs.krb_error.write_krb_error.Goals as goal

pub returns : goal.returns
unfolding krb_error_element
returns c = IfOk-weaker c.into_message.result _ _ (λ o made. written_message 0x7e krb_error_content c.args.v.now krb_error_fields (tt, (tt, (c.args.v.now.ctime, (c.args.v.now.cusec, (c.args.v.now.stime, (c.args.v.now.susec, (c.args.v.now.error_code, (c.args.v.now.crealm, (c.args.v.now.cname, (c.args.v.now.realm, (c.args.v.now.sname, (c.args.v.now.e_text, (c.args.v.now.e_data, tt))))))))))))) _ _ o c.in_ok-fields.ensures (wrote_field _ _ _ _ _ _ _ c.constant.ensures (wrote_field _ _ _ _ _ _ _ c.constant-2.ensures (wrote_optional 0xa2 _ _ _ _ _ _ _ c.optional.ensures (wrote_optional 0xa3 _ _ _ _ _ _ _ c.optional_micros.ensures (wrote_field _ _ _ _ _ _ _ c.field.ensures (wrote_field _ _ _ _ _ _ _ c.micros.ensures (wrote_field _ _ _ _ _ _ _ c.field-2.ensures (wrote_optional_known 0xa7 _ _ _ _ _ _ _ c.optional-2.ensures (wrote_optional 0xa8 _ _ _ _ _ _ _ c.optional_name.ensures (wrote_known _ _ _ _ _ _ _ c.field-3.ensures (wrote_field _ _ _ _ _ _ _ c.name.ensures (wrote_optional 0xab _ _ _ _ _ _ _ c.optional-3.ensures (wrote_optional 0xac _ _ _ _ _ _ _ c.optional-4.ensures (wrote_done _)))))))))))))) made refl refl) c.into_message.ensures
