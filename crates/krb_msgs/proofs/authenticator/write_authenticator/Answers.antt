use Rattle.std.proofs.Common.{refl}
use Rattle.std.proofs.lemmas.Result.{IfOk-weaker}
use Rattle.krb_msgs.specs.Authenticator.{authenticator_fields, authenticator_content, authenticator_element}
use Rattle.krb_msgs.proofs.WriteFields.{wrote_done, wrote_field, wrote_known, wrote_optional}
use Rattle.krb_msgs.proofs.WrittenMessages.{written_message}
use Rattle.krb_msgs.proofs.authenticator.write_authenticator.Goals as goal

pub returns : goal.returns
unfolding authenticator_element
returns c = IfOk-weaker c.into_message.result _ _ (λ o made. written_message 0x62 authenticator_content c.args.v.now authenticator_fields (tt, (c.args.v.now.crealm, (c.args.v.now.cname, (c.args.v.now.cksum, (c.args.v.now.cusec, (c.args.v.now.ctime, (c.args.v.now.subkey, (c.args.v.now.seq_number, (c.args.v.now.authorization_data, tt))))))))) _ _ o c.in_ok-fields.ensures (wrote_field _ _ _ _ _ _ _ c.constant.ensures (wrote_known _ _ _ _ _ _ _ c.field.ensures (wrote_field _ _ _ _ _ _ _ c.name.ensures (wrote_optional 0xa3 _ _ _ _ _ _ _ c.optional.ensures (wrote_field _ _ _ _ _ _ _ c.micros.ensures (wrote_field _ _ _ _ _ _ _ c.field-2.ensures (wrote_optional 0xa6 _ _ _ _ _ _ _ c.optional-2.ensures (wrote_optional 0xa7 _ _ _ _ _ _ _ c.optional-3.ensures (wrote_optional 0xa8 _ _ _ _ _ _ _ c.optional-4.ensures (wrote_done _)))))))))) made refl refl) c.into_message.ensures
