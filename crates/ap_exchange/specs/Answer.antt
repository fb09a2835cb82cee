-- The answer of an acceptor, RFC 4120 section 3.2.4: its own subkey, under the session key.
use Rattle.std.specs.Prelude.{◌≡◌, ℕ, true, List, [], ◌∷◌, Some, None}
use Rattle.gss_base.specs.declared.mech.MechKind.TheVariants.{Kerberos}
use Rattle.gss_base.specs.Mech.{oid_of}
use Rattle.der_core.specs.Frame.{framed}
use Rattle.krb_derive.specs.declared.key.Key.{Key}
use Rattle.krb_derive.specs.Key.{type_of_key}
use Rattle.krb_derive.specs.Making.{Making, sealed_making}
use Rattle.krb_msgs.specs.declared.enc_ap_rep_part.EncApRepPart.{EncApRepPart}
use Rattle.krb_msgs.specs.declared.ap_rep.ApRep.{ApRep}
use Rattle.krb_msgs.specs.EncApRepPart.{enc_ap_rep_part}
use Rattle.krb_msgs.specs.ApRep.{ap_rep}
use Rattle.krb_tokens.specs.declared.done.MechDone.{MechDone}
use Rattle.ap_exchange.specs.declared.judged.Judged.{Judged}
use Rattle.ap_exchange.specs.Tokens.{ap_rep_id, token_of}
use Rattle.ap_exchange.specs.Keys.{reply_usage, key_value, sealed_data, SealedOpens}
use Rattle.ap_exchange.specs.Draws.{drawn_subkey, drawn_confounder}
use Rattle.ap_exchange.specs.Request.{seconds_of, micros_of}

-- the subkey of an acceptor, of the session key's type
abbrev pub acceptor_subkey : Judged → List ℕ → Key
acceptor_subkey j draws = drawn_subkey (type_of_key j.session) draws

-- what a reply says: the authenticator's moment, the subkey
abbrev pub reply_part_with : ℕ → Key → EncApRepPart
reply_part_with stamp subkey = record {
  ctime = seconds_of stamp;
  cusec = micros_of stamp;
  subkey =
      Some (key_value subkey);
  seq_number = Some 0;
}

-- what the reply to a judged request says, with a subkey of the drawn octets
abbrev pub reply_part_of : Judged → List ℕ → EncApRepPart
reply_part_of j draws = reply_part_with j.stamp (acceptor_subkey j draws)

-- the octets of what the reply says, which are sealed
abbrev pub reply_octets : Judged → List ℕ → List ℕ
reply_octets j draws = enc_ap_rep_part.spell (reply_part_of j draws)

-- the reply by what it seals, under the session key
abbrev pub ap_rep_with : Key → List ℕ → List ℕ → ApRep
ap_rep_with session draws octets = record {
  enc_part = sealed_data session None reply_usage (drawn_confounder draws) octets;
}

-- the reply: what it says, sealed under the session key
abbrev pub ap_rep_of : Judged → List ℕ → ApRep
ap_rep_of j draws = ap_rep_with j.session draws (reply_octets j draws)

-- the token with the reply, for the initiator
unfoldable pub answer_token : Judged → List ℕ → List ℕ
answer_token j draws = token_of ap_rep_id (ap_rep.spell (ap_rep_of j draws))

-- what the acceptor is left with
abbrev pub answer_done : Judged → List ℕ → MechDone
answer_done j draws = record {
  key = acceptor_subkey j draws;
  subkey = true;
  initiator = j.initiator;
  acceptor = j.acceptor;
  hash = j.hash;
  ends = j.ends;
  first = j.first;
}

-- what the acceptor is left with, and the token with its reply
abbrev pub answer_of : Judged → List ℕ → MechDone × List ℕ
answer_of j draws = (answer_done j draws, answer_token j draws)

-- what is handed out with the token
abbrev pub answer_making : Judged → List ℕ → Making
answer_making j draws = sealed_making j.session reply_usage (reply_octets j draws)

-- the one thing that is handed out with the token, as a list
abbrev pub answer_makes : Judged → List ℕ → List Making
answer_makes j draws = answer_making j draws ∷ []

-- what holds of an answer that was made: all that is written has a spelling, what is sealed opens
-- again
pub record AnswerFits (j : Judged) (draws : List ℕ) : Type 0 where
  pub sealed : enc_ap_rep_part.fits (reply_part_of j draws) ≡ true
  pub opens : SealedOpens j.session reply_usage (drawn_confounder draws) (reply_octets j draws)
  pub message : ap_rep.fits (ap_rep_of j draws) ≡ true
  pub token : framed.fits (oid_of Kerberos, ap_rep_id ∷ 0 ∷ ap_rep.spell (ap_rep_of j draws)) ≡ true
