-- What an initiator answers to a reply, RFC 4120 section 3.2.5: the first refusal in the order of
-- the steps.
use Rattle.std.specs.Prelude.{ℕ, ◌==◌, ◌&&◌, if◌then◌else◌, Bool, true, false, List, [], ◌∷◌}
use Rattle.std.specs.Prelude.{Option, Some, None, Result, Ok, Err}
use Rattle.sec_base.specs.Moment.{greatest_moment}
use Rattle.der_core.specs.Format.{all_of}
use Rattle.krb_derive.specs.declared.key.Key.{Key}
use Rattle.krb_derive.specs.Making.{Making, sealed_making}
use Rattle.krb_msgs.specs.declared.ap_rep.ApRep.{ApRep}
use Rattle.krb_msgs.specs.declared.enc_ap_rep_part.EncApRepPart.{EncApRepPart}
use Rattle.krb_msgs.specs.ApRep.{ap_rep}
use Rattle.krb_msgs.specs.KrbError.{krb_error}
use Rattle.krb_msgs.specs.EncApRepPart.{enc_ap_rep_part}
use Rattle.krb_tokens.specs.declared.done.MechDone.{MechDone}
use Rattle.ap_exchange.specs.declared.refusal.Part.TheVariants.{Reply}
use Rattle.ap_exchange.specs.declared.refusal.ApRefusal.{ApRefusal}
use Rattle.ap_exchange.specs.declared.refusal.ApRefusal.TheVariants as refusals
use Rattle.ap_exchange.specs.declared.request.ApInit.{ApInit}
use Rattle.ap_exchange.specs.Steps.{◌>>=◌, der_in, due}
use Rattle.ap_exchange.specs.Tokens.{inner_of, ap_rep_id, error_id, is_kind, message_of}
use Rattle.ap_exchange.specs.Keys.{reply_usage, subkey_in, data_opened}
use Rattle.ap_exchange.specs.Request.{seconds_of, micros_of, number_stated}

-- an error in place of a reply: the peer's code is handed on
unfoldable pub error_told : List ℕ → Result ApRep ApRefusal
error_told message = do
  error ← der_in Reply (krb_error.read (all_of message))
  Err (refusals.PeerError error.error_code)

-- the reply in a token: its frame, its kind, the message
unfoldable pub replied : List ℕ → Result ApRep ApRefusal
replied token = do
  inner ← inner_of token
  if is_kind ap_rep_id inner then der_in Reply (ap_rep.read (all_of (message_of inner)))
      else if is_kind error_id inner then error_told (message_of inner)
      else Err refusals.Kind

-- what a reply opens to
unfoldable pub reply_opened : ApInit → List ℕ → Result (List ℕ) ApRefusal
reply_opened end token = do
  reply ← replied token
  data_opened refusals.ReplyClosed end.session reply_usage reply.enc_part

-- the moment of the request
abbrev pub is_stamped : ApInit → EncApRepPart → Bool
is_stamped end said = (said.ctime == seconds_of end.stamp) && (said.cusec == micros_of end.stamp)

-- the acceptor's subkey where it sent one, else the own one; and whether it did
abbrev pub key_agreed : Key → Option Key → Key
key_agreed own None = own
key_agreed own (Some subkey) = subkey

-- the acceptor sent a subkey
abbrev pub is_sent : Option Key → Bool
is_sent None = false
is_sent (Some subkey) = true

-- what the initiator is left with, by the acceptor's subkey and the number that it states
abbrev pub reply_done : ApInit → Option Key → Option ℕ → MechDone
reply_done end subkey number = record {
  key = key_agreed end.subkey subkey;
  subkey = is_sent subkey;
  initiator = end.initiator;
  acceptor = end.acceptor;
  hash = end.hash;
  ends = greatest_moment;
  first = number_stated number;
}

-- what an opened reply is taken as
unfoldable pub part_taken : ApInit → EncApRepPart → Result MechDone ApRefusal
part_taken end said = do
  subkey ← subkey_in said.subkey
  stamped ← due refusals.ReplyStamp (is_stamped end said)
  Ok (reply_done end subkey said.seq_number)

-- what the initiator is left with once it takes the reply in a token, or the first refusal
unfoldable pub reply_taken : ApInit → List ℕ → Result MechDone ApRefusal
reply_taken end token = do
  octets ← reply_opened end token
  said ← der_in Reply (enc_ap_rep_part.read (all_of octets))
  part_taken end said

-- what is found verified in a reply: its sealed part, under the session key
abbrev pub reply_verified : ApInit → Result (List ℕ) ApRefusal → List Making
reply_verified end (Ok octets) = sealed_making end.session reply_usage octets ∷ []
reply_verified end (Err refusal) = []

-- what an initiator finds verified in a token with the reply
abbrev pub reply_found : ApInit → List ℕ → List Making
reply_found end token = reply_verified end (reply_opened end token)
