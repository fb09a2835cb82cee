-- A round by Kerberos between ends whose facts fit: what each end makes of the other's token, hands out and finds.
use Rattle.std.proofs.Common.{◌≡◌, ℕ, true, refl, sym, ap, List, [], ◌∷◌, length, pos, Option, None, Ok}
use Rattle.gss_base.specs.declared.mech.MechKind.TheVariants as kinds
use Rattle.gss_base.specs.Mech.{oid_of}
use Rattle.der_core.specs.Frame.{framed}
use Rattle.der_core.proofs.Wholes.{framed_law}
use Rattle.krb_derive.specs.declared.key.Key.{Key}
use Rattle.krb_derive.specs.declared.key.Key.TheVariants as keys
use Rattle.krb_derive.specs.Key.{number_of_etype, type_of_key, etype_of}
use Rattle.krb_msgs.specs.declared.ap_req.ApReq.{ApReq}
use Rattle.krb_msgs.specs.declared.ap_rep.ApRep.{ApRep}
use Rattle.krb_msgs.specs.ApReq.{ap_req}
use Rattle.krb_msgs.specs.ApRep.{ap_rep}
use Rattle.krb_msgs.proofs.MessageLaws.{ap_req_law, ap_rep_law, authenticator_law}
use Rattle.krb_files.specs.Granted.{Granted}
use Rattle.krb_tokens.specs.declared.done.MechDone.{MechDone}
use Rattle.ap_exchange.specs.declared.judged.Judged.{Judged}
use Rattle.ap_exchange.specs.declared.refusal.ApRefusal.{ApRefusal}
use Rattle.ap_exchange.specs.declared.refusal.ApRefusal.TheVariants as refusals
use Rattle.ap_exchange.specs.Tokens.{inner_of, ap_req_id, ap_rep_id, token_of}
use Rattle.ap_exchange.specs.Keys.{authenticator_usage, reply_usage, sealed_data, SealedOpens, is_type_of, data_opened}
use Rattle.ap_exchange.specs.Draws.{drawn_confounder}
use Rattle.ap_exchange.specs.Request.{authenticator_of, authenticator_octets, ap_req_of, waiting, request_token, request_making}
use Rattle.ap_exchange.specs.Exchange.{requested, name_in_realm, ticket_for, Exchange, exchange_of, judge_found, verified_in}
use Rattle.ap_exchange.specs.Answer.{reply_octets, ap_rep_of, answer_done, answer_token, answer_making, AnswerFits}
use Rattle.ap_exchange.specs.Reply.{replied, reply_opened, reply_found, reply_verified}
use Rattle.ap_exchange.specs.Laws.{honest_judged, Agrees}
use Rattle.ap_exchange.proofs.Honest.{honest_request, honest_reply}
use Rattle.ap_exchange.proofs.Passed.{same_own}
use Rattle.scram_mech.specs.MechMaking.{MechMaking, typed}
use Rattle.spnego_core.specs.declared.outcome.Outcome.{Outcome}
use Rattle.spnego_core.specs.declared.setup.AcceptSetup.{AcceptSetup}
use Rattle.spnego_core.specs.MechStates as tells
use Rattle.spnego_core.specs.declared.accept_mech.AcceptMech.TheVariants as accepts
use Rattle.spnego_core.specs.Ends.{PlainSetup}
use Rattle.spnego_core.specs.Outcome.{outcome_of}
use Rattle.spnego_core.specs.AcceptMech.{MechTaken, request_answered, accept_taken}
use Rattle.spnego_core.specs.Exchange.{Occasion, TicketFits}
use Rattle.spnego_core.specs.InitMech.{MechReplied, init_taken}

-- ---- what is sealed opens

inner-again : (id : ℕ) (message : List ℕ) → framed.fits (oid_of kinds.Kerberos, id ∷ 0 ∷ message) ≡ true → inner_of (token_of id message) ≡ Ok (id ∷ 0 ∷ message)
unfolding inner_of token_of
inner-again id message fits = rw (framed_law.again (length (framed.spell (oid_of kinds.Kerberos, id ∷ 0 ∷ message))) (oid_of kinds.Kerberos, id ∷ 0 ∷ message) fits) refl

requested-again : (request : ApReq) → framed.fits (oid_of kinds.Kerberos, ap_req_id ∷ 0 ∷ ap_req.spell request) ≡ true → ap_req.fits request ≡ true → request.ap_options ≡ 0x20000000 → requested (token_of ap_req_id (ap_req.spell request)) ≡ Ok request
unfolding requested
requested-again request frame fits options = rw (inner-again ap_req_id (ap_req.spell request) frame, ap_req_law.again (length (ap_req.spell request)) request fits, options) refl

replied-again : (reply : ApRep) → framed.fits (oid_of kinds.Kerberos, ap_rep_id ∷ 0 ∷ ap_rep.spell reply) ≡ true → ap_rep.fits reply ≡ true → replied (token_of ap_rep_id (ap_rep.spell reply)) ≡ Ok reply
unfolding replied
replied-again reply frame fits = rw (inner-again ap_rep_id (ap_rep.spell reply) frame, ap_rep_law.again (length (ap_rep.spell reply)) reply fits) refl

type-again : (key : Key) → is_type_of key (etype_of (pos (number_of_etype (type_of_key key)))) ≡ true
type-again (keys.Aes128 octets) = refl
type-again (keys.Aes256 octets) = refl

data-again : (refusal : ApRefusal) (key : Key) (usage : ℕ) (confounder octets : List ℕ) → SealedOpens key usage confounder octets → data_opened refusal key usage (sealed_data key None usage confounder octets) ≡ Ok octets
data-again refusal key usage confounder octets s = rw (type-again key, s.opens) refl

-- ---- the request

-- the token, and what is handed out with it
abbrev pub request_by : PlainSetup → Granted → List ℕ
request_by own credential = request_token credential own.stamp own.draws own.bindings

abbrev pub asking : PlainSetup → Granted → MechMaking
asking own credential = typed (request_making credential own.stamp own.draws own.bindings)

-- what it opens to
abbrev pub exchange : (setup : AcceptSetup) (own : PlainSetup) (credential : Granted) (occasion : Occasion) → TicketFits setup own credential occasion → Exchange
exchange setup own credential occasion fits = record {
  request = ap_req_of credential own.stamp own.draws own.bindings;
  granted = fits.fit.granted;
  service = fits.fit.service;
  ticket_octets = fits.fit.octets;
  part = fits.fit.part;
  session = credential.session;
  octets = authenticator_octets credential own.stamp own.draws own.bindings;
  said = authenticator_of credential own.stamp own.draws own.bindings;
}

pub exchanges : (setup : AcceptSetup) (own : PlainSetup) (credential : Granted) (occasion : Occasion) → (fits : TicketFits setup own credential occasion)
    → exchange_of setup.keytab setup.own (request_by own credential) ≡ Ok (exchange setup own credential occasion fits)
unfolding exchange_of ticket_for request_token
exchanges setup own credential occasion fits =
    let fit = fits.fit in
    let made = fits.request in
    rw (
      requested-again (ap_req_of credential own.stamp own.draws own.bindings) made.token made.message refl,
      fit.is_ticket,
      same_own (name_in_realm fit.granted.realm fit.granted.sname) setup.own fit.server,
      fit.type_is,
      fit.key,
      fit.opens,
      fit.says,
      fit.session,
      data-again refusals.AuthClosed credential.session authenticator_usage (drawn_confounder own.draws) (authenticator_octets credential own.stamp own.draws own.bindings) made.opens,
      authenticator_law.again (length (authenticator_octets credential own.stamp own.draws own.bindings)) (authenticator_of credential own.stamp own.draws own.bindings) made.sealed,
    ) refl

found-in : (setup : AcceptSetup) (own : PlainSetup) (credential : Granted) (occasion : Occasion) → TicketFits setup own credential occasion
    → judge_found setup.keytab setup.own (request_by own credential) ≡ request_making credential own.stamp own.draws own.bindings ∷ []
found-in setup own credential occasion fits = ap verified_in (exchanges setup own credential occasion fits)

-- the request as it is judged, and the one outcome
abbrev pub judged_on : (setup : AcceptSetup) (own : PlainSetup) (credential : Granted) (occasion : Occasion) → TicketFits setup own credential occasion → Judged
judged_on setup own credential occasion fits = honest_judged credential own.stamp own.bindings fits.fit.part

abbrev pub outcome_with : Judged → List ℕ → Outcome
outcome_with j drawn = outcome_of kinds.Kerberos (answer_done j drawn)

-- what the acceptor makes of it
abbrev pub taken_with : PlainSetup → Granted → Judged → List ℕ → MechTaken
taken_with own credential j drawn = request_answered drawn (asking own credential ∷ []) j

pub request-taken : (setup : AcceptSetup) (own : PlainSetup) (credential : Granted) (occasion : Occasion) → length own.draws ≡ 66 → (fits : TicketFits setup own credential occasion)
    → accept_taken setup accepts.Kerberos (request_by own credential) occasion.now occasion.drawn ≡ Ok (taken_with own credential (judged_on setup own credential occasion fits) occasion.drawn)
unfolding accept_taken
request-taken setup own credential occasion draws fits =
    rw (honest_request setup.keytab setup.own occasion.now setup.bindings credential own.stamp own.draws own.bindings draws fits.request fits.fit, found-in setup own credential occasion fits) refl

-- ---- the reply

reply-opens : (credential : Granted) (stamp : ℕ) (draws : List ℕ) (bindings : Option (List ℕ)) (j : Judged) (drawn : List ℕ) → j.session ≡ credential.session → AnswerFits j drawn → reply_opened (waiting credential stamp draws bindings) (answer_token j drawn) ≡ Ok (reply_octets j drawn)
unfolding reply_opened answer_token
reply-opens credential stamp draws bindings j drawn same made =
    rw (replied-again (ap_rep_of j drawn) made.token made.message, sym same, data-again refusals.ReplyClosed j.session reply_usage (drawn_confounder drawn) (reply_octets j drawn) made.opens) refl

one-outcome : (a b : MechDone) → Agrees a b → outcome_of kinds.Kerberos a ≡ outcome_of kinds.Kerberos b
one-outcome a b g = λ i. record { mech = kinds.Kerberos; initiator = g.initiator_name i; acceptor = g.acceptor_name i; key = g.key i; subkey = g.subkey i; hash = g.hash i }

-- what the initiator makes of it
abbrev pub replied_with : Judged → List ℕ → MechReplied
replied_with j drawn = record { answer = tells.Done (outcome_with j drawn); makes = []; found = typed (answer_making j drawn) ∷ [] }

pub reply-taken : (setup : AcceptSetup) (own : PlainSetup) (credential : Granted) (occasion : Occasion) → length occasion.drawn ≡ 66 → (fits : TicketFits setup own credential occasion)
    → init_taken (tells.Kerberos (waiting credential own.stamp own.draws own.bindings)) (answer_token (judged_on setup own credential occasion fits) occasion.drawn)
    ≡ Ok (replied_with (judged_on setup own credential occasion fits) occasion.drawn)
unfolding init_taken
reply-taken setup own credential occasion drawn fits =
    let j : Judged = judged_on setup own credential occasion fits in
    let taken = honest_reply credential own.stamp own.draws own.bindings fits.fit.part occasion.drawn drawn fits.answer in
    let finds : reply_found (waiting credential own.stamp own.draws own.bindings) (answer_token j occasion.drawn) ≡ answer_making j occasion.drawn ∷ [] =
    ap (reply_verified (waiting credential own.stamp own.draws own.bindings)) (reply-opens credential own.stamp own.draws own.bindings j occasion.drawn refl fits.answer) in
    rw (taken.1, finds)
    (ap (λ (o : Outcome). Ok (record { answer = tells.Done o; makes = []; found = typed (answer_making j occasion.drawn) ∷ [] })) (one-outcome taken.0 (answer_done j occasion.drawn) taken.2))
