use Rattle.std.proofs.Common.{rules}
use Rattle.krb_msgs.specs.declared.transited_encoding.TransitedEncoding.{TransitedEncoding}
use Rattle.krb_msgs.specs.TransitedEncoding.{transited_encoding_fields}
use Rattle.krb_msgs.proofs.ReadFields.{reads_field, reads_seen}
use Rattle.krb_msgs.proofs.transited_encoding.TransitedEncodingSequence.read_fields.Goals as goal

pub returns : goal.returns
returns c = reads_seen _ (λ (p : TransitedEncoding). (p.tr_type, (p.contents, tt))) transited_encoding_fields (c.field-tr_type.result, (c.field-contents.result, tt)) _ _ _ (reads_field _ _ _ _ _ _ _ c.field-tr_type.ensures (reads_field _ _ _ _ _ _ _ c.field-contents.ensures c.end.ensures)) (search rules)
