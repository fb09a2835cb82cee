use Rattle.std.proofs.Common.{refl}
use Rattle.krb_msgs.proofs.ReadFields.{is_read, is_refused}
use Rattle.krb_msgs.proofs.sequence.read_sequence.Goals as goal

pub returns-in-None : goal.returns-in-None
returns-in-None g c = rw (c.in_ok-content.ensures.exact, is_read _ _ _ _ _ c.read_fields-value.ensures c.new-fields.ensures c.in-None.is) refl

pub returns-in-Some : goal.returns-in-Some
returns-in-Some g c = λ kept. rw (c.in_ok-content.ensures.exact, is_refused _ _ _ _ _ _ c.read_fields-value.ensures c.new-fields.ensures c.in-Some.is kept) refl
