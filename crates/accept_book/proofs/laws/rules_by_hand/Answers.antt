use Rattle.std.proofs.Common.{refl}
use Rattle.rpc_msgs.specs.Words.{word, opaque}
use Rattle.rpc_msgs.specs.Xdr.{octets_at, word_at, zeros_in, opaque_at, end_at}
use Rattle.rpc_msgs.specs.Auths.{auth_at}
use Rattle.rpc_msgs.specs.Calls.{call_word_at, version_at, xid_at, rest_at, call_at}
use Rattle.rpcsec_msgs.specs.Cred.{cred_word_at, version_at as cred_version_at, procedure_at, service_at, cred_fields_at, cred_at}
use Rattle.accept_book.specs.RecordRule.{record_ruling, call_ruling, plain_ruling, creation_ruling}
use Rattle.accept_book.specs.RuleExamples.{PlainByHand, SecureByHand}
use Rattle.accept_book.proofs.laws.rules_by_hand.Goals as goal

plain_by_hand : PlainByHand
unfolding word opaque octets_at word_at zeros_in opaque_at end_at auth_at call_word_at version_at xid_at rest_at call_at record_ruling call_ruling plain_ruling
plain_by_hand = record { null = refl; null_reply = refl; version_3 = refl; version_3_reply = refl; program = refl; version = refl; procedure = refl; weak = refl; arguments = refl; flavour = refl; unreadable = refl }

secure_by_hand : SecureByHand
unfolding word opaque octets_at word_at zeros_in opaque_at end_at auth_at call_word_at version_at xid_at rest_at call_at cred_word_at cred_version_at procedure_at service_at cred_fields_at cred_at record_ruling call_ruling creation_ruling
secure_by_hand = record { refused_rule = refl; refused_reply = refl; no_context = refl; token_due = refl; look_due = refl; not_ready = refl; expired = refl; other_version = refl; creation_with_a_handle = refl; short_handle = refl }

pub returns : goal.returns
returns c = record { plain = plain_by_hand; secure = secure_by_hand }
