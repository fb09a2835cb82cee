use Rattle.std.proofs.Common.{refl}
use Rattle.std.proofs.lemmas.Result.{on_ok_weaker}
use Rattle.krb_msgs.specs.TypedOctets.{typed_octets}
use Rattle.krb_msgs.proofs.WriteFields.{wrote_done, wrote_field}
use Rattle.krb_msgs.proofs.WrittenMessages.{written_sequence}
use Rattle.krb_msgs.proofs.typed_octets.put_typed_octets.Goals as goal

pub returns : goal.returns
returns c = on_ok_weaker c.put_into.result (λ made. written_sequence typed_octets (c.args.kind.now, (c.args.octets.now, tt)) typed_octets (c.args.kind.now, (c.args.octets.now, tt)) _ _ _ _ c.in_ok-fields.ensures (wrote_field _ _ _ _ _ _ _ c.field.ensures (wrote_field _ _ _ _ _ _ _ c.field-2.ensures (wrote_done _))) made refl refl) c.put_into.ensures
