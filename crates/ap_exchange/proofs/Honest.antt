-- Two ends whose facts fit.
use Rattle.std.proofs.Common.{◌≡◌, ℕ, ◌+◌, true, leb, List, [], ◌∷◌, ◌++◌, length, take, pos, Option, Some, None, Result, Ok, refl, sym, ap, subst, ◌∙◌, arith, eq-eqb}
use Rattle.std.proofs.lemmas.Bool.{le-leb}
use Rattle.std.proofs.lemmas.List.{length-take-le, length-append}
use Rattle.std.proofs.Math.Seq.{take-append_seam}
use Rattle.gss_base.specs.declared.mech.MechKind.TheVariants.{Kerberos}
use Rattle.gss_base.specs.Mech.{oid_of}
use Rattle.gss_base.specs.Name.{Name}
use Rattle.gss_base.specs.Bindings.{hash_of}
use Rattle.der_core.specs.Frame.{framed}
use Rattle.der_core.proofs.Wholes.{framed_law}
use Rattle.krb_derive.specs.declared.key.Etype.{Etype}
use Rattle.krb_derive.specs.declared.key.Etype.TheVariants as types
use Rattle.krb_derive.specs.declared.key.Key.{Key}
use Rattle.krb_derive.specs.declared.key.Key.TheVariants as keys
use Rattle.krb_derive.specs.Key.{number_of_etype, type_of_key, etype_of}
use Rattle.krb_msgs.specs.declared.ap_req.ApReq.{ApReq}
use Rattle.krb_msgs.specs.declared.ap_rep.ApRep.{ApRep}
use Rattle.krb_msgs.specs.declared.enc_ticket_part.EncTicketPart.{EncTicketPart}
use Rattle.krb_msgs.specs.ApReq.{ap_req}
use Rattle.krb_msgs.specs.ApRep.{ap_rep}
use Rattle.krb_msgs.proofs.MessageLaws.{ap_req_law, ap_rep_law, authenticator_law, enc_ap_rep_part_law}
use Rattle.krb_files.specs.declared.keytab.Entry.{Entry}
use Rattle.krb_files.specs.Granted.{Granted}
use Rattle.krb_tokens.specs.declared.done.MechDone.{MechDone}
use Rattle.ap_exchange.specs.declared.refusal.ApRefusal.{ApRefusal}
use Rattle.ap_exchange.specs.declared.refusal.ApRefusal.TheVariants as refusals
use Rattle.ap_exchange.specs.declared.judged.Judged.{Judged}
use Rattle.ap_exchange.specs.Tokens.{inner_of, ap_req_id, ap_rep_id, token_of}
use Rattle.ap_exchange.specs.Keys.{authenticator_usage, reply_usage, known_key, subkey_in, key_value, sealed_data, SealedOpens, is_type_of, data_opened}
use Rattle.ap_exchange.specs.Draws.{drawn_subkey, drawn_confounder}
use Rattle.ap_exchange.specs.Request.{label_of, seconds_of, micros_of, checksum_for, authenticator_of, authenticator_octets, ap_req_of, waiting, request_token, RequestFits}
use Rattle.ap_exchange.specs.Exchange.{requested, name_in_realm, ticket_for, exchange_of}
use Rattle.ap_exchange.specs.Judging.{client_granted, hash_carried, end_of, timely, hash_claimed, claim_judged, judged}
use Rattle.ap_exchange.specs.Answer.{reply_part_of, reply_octets, ap_rep_of, answer_done, answer_token, AnswerFits}
use Rattle.ap_exchange.specs.Reply.{replied, reply_opened, reply_done, part_taken, reply_taken}
use Rattle.ap_exchange.specs.Laws.{Fits, honest_judged, Agrees}
use Rattle.ap_exchange.proofs.Passed.{same_own}

-- ---- tokens

inner_again : (id : ℕ) (message : List ℕ) → framed.fits (oid_of Kerberos, id ∷ 0 ∷ message) ≡ true → inner_of (token_of id message) ≡ Ok (id ∷ 0 ∷ message)
unfolding inner_of token_of
inner_again id message fits =
    rw (framed_law.again (length (framed.spell (oid_of Kerberos, id ∷ 0 ∷ message))) (oid_of Kerberos, id ∷ 0 ∷ message) fits) refl

requested_again : (request : ApReq) → framed.fits (oid_of Kerberos, ap_req_id ∷ 0 ∷ ap_req.spell request) ≡ true → ap_req.fits request ≡ true → request.ap_options ≡ 0x20000000 → requested (token_of ap_req_id (ap_req.spell request)) ≡ Ok request
unfolding requested
requested_again request frame fits options =
    rw (inner_again ap_req_id (ap_req.spell request) frame, ap_req_law.again (length (ap_req.spell request)) request fits, options) refl

replied_again : (reply : ApRep) → framed.fits (oid_of Kerberos, ap_rep_id ∷ 0 ∷ ap_rep.spell reply) ≡ true → ap_rep.fits reply ≡ true → replied (token_of ap_rep_id (ap_rep.spell reply)) ≡ Ok reply
unfolding replied
replied_again reply frame fits =
    rw (inner_again ap_rep_id (ap_rep.spell reply) frame, ap_rep_law.again (length (ap_rep.spell reply)) reply fits) refl

-- ---- keys

type_again : (key : Key) → is_type_of key (etype_of (pos (number_of_etype (type_of_key key)))) ≡ true
type_again (keys.Aes128 octets) = refl
type_again (keys.Aes256 octets) = refl

data_again : (refusal : ApRefusal) (key : Key) (kvno : Option ℕ) (usage : ℕ) (confounder octets : List ℕ) → SealedOpens key usage confounder octets → data_opened refusal key usage (sealed_data key kvno usage confounder octets) ≡ Ok octets
data_again refusal key kvno usage confounder octets s = rw (type_again key, s.opens) refl

drawn_again : (etype : Etype) (draws : List ℕ) → length draws ≡ 66 → known_key (key_value (drawn_subkey etype draws)) ≡ Some (drawn_subkey etype draws)
drawn_again types.Aes128 draws long = (let sixteen : length (take 16 draws) ≡ 16 = length-take-le 16 draws (omega arith) in rw (eq-eqb (length (take 16 draws)) 16 sixteen) refl)
drawn_again types.Aes256 draws long = (let all : length (take 32 draws) ≡ 32 = length-take-le 32 draws (omega arith) in rw (eq-eqb (length (take 32 draws)) 32 all) refl)

subkey_again : (etype : Etype) (draws : List ℕ) → length draws ≡ 66 → subkey_in (Some (key_value (drawn_subkey etype draws))) ≡ Ok (Some (drawn_subkey etype draws))
subkey_again etype draws long = rw (drawn_again etype draws long) refl

-- ---- the authenticator

carried_again : (hash : List ℕ) → length hash ≡ 16 → hash_carried (Some (checksum_for hash)) ≡ Ok hash
carried_again hash long =
    let whole : List ℕ = hash ++ 50 ∷ 0 ∷ 0 ∷ 0 ∷ [] in
    let size : length whole ≡ 20 = length-append hash (50 ∷ 0 ∷ 0 ∷ 0 ∷ []) ∙ omega arith in
    let enough : leb 24 (length (16 ∷ 0 ∷ 0 ∷ 0 ∷ whole)) ≡ true = le-leb 24 (length (16 ∷ 0 ∷ 0 ∷ 0 ∷ whole)) (omega arith) in
    let front : take 16 whole ≡ hash = subst (λ (n : ℕ). take n whole ≡ hash) long (take-append_seam hash (50 ∷ 0 ∷ 0 ∷ 0 ∷ [])) in
    rw (enough, front) refl

moment_again : (stamp : ℕ) → seconds_of stamp + micros_of stamp ≡ stamp
moment_again stamp = omega arith

abbrev judged_with : Granted → ℕ → Option (List ℕ) → EncTicketPart → Name → Name → Result Judged ApRefusal
judged_with credential stamp bindings part client server = Ok (record {
  session = credential.session;
  initiator = label_of client;
  acceptor = label_of server;
  stamp = stamp;
  hash = hash_of bindings;
  ends = end_of part;
  first = 0;
})

claim_again : (own : Name) (now : ℕ) (expected : Option (List ℕ)) (keytab : List Entry) (credential : Granted) (stamp : ℕ) (draws : List ℕ) (bindings : Option (List ℕ)) → length draws ≡ 66 → RequestFits credential stamp draws bindings → (fit : Fits keytab own now expected credential stamp bindings) → claim_judged own now expected credential.session fit.part (authenticator_of credential stamp draws bindings) ≡ Ok (honest_judged credential stamp bindings fit.part)
unfolding claim_judged hash_claimed timely
claim_again own now expected keytab credential stamp draws bindings long made fit =
    rw (subkey_again (type_of_key credential.session) draws long, same_own credential.client (client_granted fit.part) (sym fit.client), carried_again (hash_of bindings) made.hash, fit.bound, moment_again stamp, fit.near, fit.begun, fit.lasting)
    (ap (λ (n : Name). judged_with credential stamp bindings fit.part n own) fit.client
    ∙ ap (λ (n : Name). judged_with credential stamp bindings fit.part credential.client n) (sym fit.credential_server))

pub honest_request : (keytab : List Entry) (own : Name) (now : ℕ) (expected : Option (List ℕ)) (credential : Granted) (stamp : ℕ) (draws : List ℕ) (bindings : Option (List ℕ)) → length draws ≡ 66 → RequestFits credential stamp draws bindings → (fit : Fits keytab own now expected credential stamp bindings) → judged keytab own now expected (request_token credential stamp draws bindings) ≡ Ok (honest_judged credential stamp bindings fit.part)
unfolding judged exchange_of ticket_for request_token
honest_request keytab own now expected credential stamp draws bindings long made fit =
    rw (
      requested_again (ap_req_of credential stamp draws bindings) made.token made.message refl,
      fit.is_ticket,
      same_own (name_in_realm fit.granted.realm fit.granted.sname) own fit.server,
      fit.type_is,
      fit.key,
      fit.opens,
      fit.says,
      fit.session,
      data_again refusals.AuthClosed credential.session None authenticator_usage (drawn_confounder draws) (authenticator_octets credential stamp draws bindings) made.opens,
      authenticator_law.again (length (authenticator_octets credential stamp draws bindings)) (authenticator_of credential stamp draws bindings) made.sealed,
    )
    (claim_again own now expected keytab credential stamp draws bindings long made fit)

-- ---- the reply

pub honest_reply : (credential : Granted) (stamp : ℕ) (draws : List ℕ) (bindings : Option (List ℕ)) (part : EncTicketPart) (drawn : List ℕ) → length drawn ≡ 66 → AnswerFits (honest_judged credential stamp bindings part) drawn → (done : MechDone) × (reply_taken (waiting credential stamp draws bindings) (answer_token (honest_judged credential stamp bindings part) drawn) ≡ Ok done) × Agrees done (answer_done (honest_judged credential stamp bindings part) drawn) × (done.subkey ≡ true)
unfolding reply_taken part_taken reply_opened answer_token
honest_reply credential stamp draws bindings part drawn long made =
    let j : Judged = honest_judged credential stamp bindings part in
    let subkey : Key = drawn_subkey (type_of_key credential.session) drawn in (
      reply_done (waiting credential stamp draws bindings) (Some subkey) (Some 0),
      rw (
        replied_again (ap_rep_of j drawn) made.token made.message,
        data_again refusals.ReplyClosed credential.session None reply_usage (drawn_confounder drawn) (reply_octets j drawn) made.opens,
        enc_ap_rep_part_law.again (length (reply_octets j drawn)) (reply_part_of j drawn) made.sealed,
        subkey_again (type_of_key credential.session) drawn long,
        eq-eqb (seconds_of stamp) (seconds_of stamp) refl,
        eq-eqb (micros_of stamp) (micros_of stamp) refl,
      ) refl,
      record { key = refl; subkey = refl; initiator_name = refl; acceptor_name = refl; hash = refl },
      refl,
    )
