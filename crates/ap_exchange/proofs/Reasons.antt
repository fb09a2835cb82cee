-- Neither a request nor a reply is refused for want of memory.
use Rattle.std.proofs.Common.{◌≡◌, ℕ, Bool, true, false, cond, List, Option, Some, None, Result, Ok, Err, refl, subst}
use Rattle.gss_base.specs.Name.{Name}
use Rattle.gss_base.specs.SameName.{same_name}
use Rattle.der_core.specs.declared.refusal.DerRefusal.{DerRefusal}
use Rattle.der_core.specs.Format.{all_of}
use Rattle.der_core.specs.Frame.{framed}
use Rattle.krb_derive.specs.declared.key.Key.{Key}
use Rattle.krb_derive.specs.declared.sealing.OpenRefusal.{OpenRefusal}
use Rattle.krb_derive.specs.Sealing.{opened}
use Rattle.krb_msgs.specs.declared.ap_req.ApReq.{ApReq}
use Rattle.krb_msgs.specs.declared.checksum.Checksum.{Checksum}
use Rattle.krb_msgs.specs.declared.encryption_key.EncryptionKey.{EncryptionKey}
use Rattle.krb_msgs.specs.declared.encrypted_data.EncryptedData.{EncryptedData}
use Rattle.krb_msgs.specs.declared.enc_ticket_part.EncTicketPart.{EncTicketPart}
use Rattle.krb_msgs.specs.declared.enc_ap_rep_part.EncApRepPart.{EncApRepPart}
use Rattle.krb_msgs.specs.declared.authenticator.Authenticator.{Authenticator}
use Rattle.krb_msgs.specs.ApReq.{ap_req}
use Rattle.krb_msgs.specs.KrbError.{krb_error}
use Rattle.krb_msgs.specs.Ticket.{ticket}
use Rattle.krb_msgs.specs.EncTicketPart.{enc_ticket_part}
use Rattle.krb_msgs.specs.EncApRepPart.{enc_ap_rep_part}
use Rattle.krb_msgs.specs.Authenticator.{authenticator}
use Rattle.krb_files.specs.declared.keytab.Entry.{Entry}
use Rattle.krb_files.specs.Granted.{Granted}
use Rattle.ap_exchange.specs.declared.refusal.Part.{Part}
use Rattle.ap_exchange.specs.declared.refusal.ApRefusal.{ApRefusal}
use Rattle.ap_exchange.specs.declared.refusal.ApRefusal.TheVariants.{Kind, NotMutual, TicketNames, NameMatch, Bindings, Skew, NotYet, Expired, ReplyStamp}
use Rattle.ap_exchange.specs.declared.request.ApInit.{ApInit}
use Rattle.ap_exchange.specs.Reasons.{ap_wants_memory}
use Rattle.ap_exchange.specs.Steps.{◌>>=◌, der_in, der_behind, or_refuse, due}
use Rattle.ap_exchange.specs.Tokens.{inner_of, ap_req_id, is_kind, message_of}
use Rattle.ap_exchange.specs.Keys.{subkey_in, opened_or, data_opened, key_in}
use Rattle.ap_exchange.specs.Exchange.{is_mutual, name_in_realm, requested, ticket_for, service_key, ticket_opened, exchange_of}
use Rattle.ap_exchange.specs.Judging.{client_granted, client_said, stamp_of, hash_carried, is_bound, is_near, is_begun, is_lasting, timely, hash_claimed, claim_judged, judged}
use Rattle.ap_exchange.specs.Reply.{error_told, replied, reply_opened, is_stamped, part_taken, reply_taken}
use Rattle.ap_exchange.specs.Request.{request_of}
use Rattle.ap_exchange.proofs.DerReasons.{Clear}
use Rattle.ap_exchange.proofs.MessageReasons.{framed-clear, ap_req-clear, ap_rep-clear, krb_error-clear, ticket-clear, enc_ticket_part-clear, enc_ap_rep_part-clear, authenticator-clear}

-- a step has a reason where it refuses
unfoldable pub Reasoned : {A : Type 0} → Result A ApRefusal → Type 0
Reasoned (Ok v) = Unit {0}
Reasoned (Err e) = ap_wants_memory e ≡ false

pub reason-of : {A : Type 0} (r : Result A ApRefusal) (e : ApRefusal) → Reasoned r → r ≡ Err e → ap_wants_memory e ≡ false
unfolding Reasoned
reason-of (Ok v) e h is = absurd cc
reason-of (Err d) e h is = let same : d ≡ e = cc in subst (λ (x : ApRefusal). ap_wants_memory x ≡ false) same h

reason-ok : {A : Type 0} (v : A) → Reasoned (Ok v)
unfolding Reasoned
reason-ok v = tt

reason-err : (A : Type 0) (e : ApRefusal) → ap_wants_memory e ≡ false → Reasoned {A = A} (Err e)
unfolding Reasoned
reason-err A e h = h

reason-bind : {A B : Type 0} (r : Result A ApRefusal) (next : A → Result B ApRefusal) → Reasoned r → ((x : A) → Reasoned (next x)) → Reasoned (r >>= next)
unfolding Reasoned
reason-bind (Ok x) next h k = k x
reason-bind (Err e) next h k = h

reason-if : {A : Type 0} (b : Bool) (r s : Result A ApRefusal) → Reasoned r → Reasoned s → Reasoned (cond b r s)
reason-if true r s h k = h
reason-if false r s h k = k

reason-der : {A : Type 0} (part : Part) (r : Result A DerRefusal) → Clear r → Reasoned (der_in part r)
unfolding Reasoned Clear
reason-der part (Ok v) h = tt
reason-der part (Err e) h = h

reason-behind : {A : Type 0} (part : Part) (before : ℕ) (r : Result A DerRefusal) → Clear r → Reasoned (der_behind part before r)
unfolding Reasoned Clear
reason-behind part before (Ok v) h = tt
reason-behind part before (Err e) h = h

reason-or : {A : Type 0} (e : ApRefusal) (o : Option A) → ap_wants_memory e ≡ false → Reasoned (or_refuse e o)
reason-or e (Some v) h = reason-ok v
reason-or e None h = reason-err _ e h

reason-due : (e : ApRefusal) (holds : Bool) → ap_wants_memory e ≡ false → Reasoned (due e holds)
reason-due e true h = reason-ok tt
reason-due e false h = reason-err _ e h

reason-opened : (e : ApRefusal) (r : Result (List ℕ) OpenRefusal) → ap_wants_memory e ≡ false → Reasoned (opened_or e r)
reason-opened e (Ok octets) h = reason-ok octets
reason-opened e (Err why) h = reason-err _ e h

reason-data : (e : ApRefusal) (key : Key) (usage : ℕ) (sealed : EncryptedData) → ap_wants_memory e ≡ false → Reasoned (data_opened e key usage sealed)
reason-data e key usage sealed h = reason-if _ _ _ (reason-opened e (opened key usage sealed.cipher) h) (reason-err _ e h)

reason-key : (key : EncryptionKey) → Reasoned (key_in key)
reason-key key = reason-or _ _ refl

reason-subkey : (key : Option EncryptionKey) → Reasoned (subkey_in key)
reason-subkey None = reason-ok None
reason-subkey (Some key) = reason-bind (key_in key) _ (reason-key key) (λ known. reason-ok (Some known))

reason-hash : (sum : Option Checksum) → Reasoned (hash_carried sum)
reason-hash None = reason-err _ _ refl
reason-hash (Some sum) = reason-if _ _ _ (reason-ok _) (reason-err _ _ refl)

reason-inner : (token : List ℕ) → Reasoned (inner_of token)
unfolding inner_of
reason-inner token =
    reason-bind (der_in _ (framed.read (all_of token))) _ (reason-der _ _ (framed-clear.clear (all_of token))) (λ frame. reason-if _ _ _ (reason-ok _) (reason-err _ _ refl))

-- ---- the acceptor

reason-requested : (token : List ℕ) → Reasoned (requested token)
unfolding requested
reason-requested token =
    reason-bind (inner_of token) _ (reason-inner token) (λ inner.
    reason-bind (due Kind (is_kind ap_req_id inner)) _ (reason-due Kind (is_kind ap_req_id inner) refl) (λ kind.
    reason-bind (der_behind _ _ (ap_req.read (all_of (message_of inner)))) _ (reason-behind _ _ _ (ap_req-clear.clear (all_of (message_of inner)))) (λ request.
    reason-bind (due NotMutual (is_mutual request.ap_options)) _ (reason-due NotMutual (is_mutual request.ap_options) refl) (λ asked. reason-ok request))))

reason-ticket : (own : Name) (request : ApReq) → Reasoned (ticket_for own request)
unfolding ticket_for
reason-ticket own request =
    reason-bind (der_in _ (ticket.read (all_of request.ticket))) _ (reason-der _ _ (ticket-clear.clear (all_of request.ticket))) (λ granted.
    reason-bind (due TicketNames (same_name (name_in_realm granted.realm granted.sname) own)) _ (reason-due TicketNames (same_name (name_in_realm granted.realm granted.sname) own) refl) (λ named. reason-ok granted))

reason-exchange : (keytab : List Entry) (own : Name) (token : List ℕ) → Reasoned (exchange_of keytab own token)
unfolding exchange_of
reason-exchange keytab own token =
    reason-bind (requested token) _ (reason-requested token) (λ request.
    reason-bind (ticket_for own request) _ (reason-ticket own request) (λ granted.
    reason-bind (service_key keytab own granted) _ (reason-or _ _ refl) (λ service.
    reason-bind (ticket_opened service granted) _ (reason-opened _ _ refl) (λ octets.
    reason-bind (der_in _ (enc_ticket_part.read (all_of octets))) _ (reason-der _ _ (enc_ticket_part-clear.clear (all_of octets))) (λ part.
    reason-bind (key_in part.key) _ (reason-key part.key) (λ session.
    reason-bind (data_opened _ session _ request.authenticator) _ (reason-data _ session _ request.authenticator refl) (λ opened.
    reason-bind (der_in _ (authenticator.read (all_of opened))) _ (reason-der _ _ (authenticator-clear.clear (all_of opened))) (λ said. reason-ok _))))))))

reason-timely : (now : ℕ) (part : EncTicketPart) (said : Authenticator) → Reasoned (timely now part said)
unfolding timely
reason-timely now part said =
    reason-bind (due Skew (is_near now (stamp_of said))) _ (reason-due Skew (is_near now (stamp_of said)) refl) (λ near. reason-bind (due NotYet (is_begun now part)) _ (reason-due NotYet (is_begun now part) refl) (λ begun. reason-due Expired (is_lasting now part) refl))

reason-claimed : (bindings : Option (List ℕ)) (part : EncTicketPart) (said : Authenticator) → Reasoned (hash_claimed bindings part said)
unfolding hash_claimed
reason-claimed bindings part said =
    reason-bind (subkey_in said.subkey) _ (reason-subkey said.subkey) (λ subkey.
    reason-bind (due NameMatch (same_name (client_said said) (client_granted part))) _ (reason-due NameMatch (same_name (client_said said) (client_granted part)) refl) (λ named.
    reason-bind (hash_carried said.cksum) _ (reason-hash said.cksum) (λ hash.
    reason-bind (due Bindings (is_bound bindings hash)) _ (reason-due Bindings (is_bound bindings hash) refl) (λ bound. reason-ok hash))))

reason-claim : (own : Name) (now : ℕ) (bindings : Option (List ℕ)) (session : Key) (part : EncTicketPart) (said : Authenticator) → Reasoned (claim_judged own now bindings session part said)
unfolding claim_judged
reason-claim own now bindings session part said =
    reason-bind (hash_claimed bindings part said) _ (reason-claimed bindings part said) (λ hash.
    reason-bind (timely now part said) _ (reason-timely now part said) (λ moments. reason-ok _))

pub reason-judged : (keytab : List Entry) (own : Name) (now : ℕ) (bindings : Option (List ℕ)) (token : List ℕ) → Reasoned (judged keytab own now bindings token)
unfolding judged
reason-judged keytab own now bindings token =
    reason-bind (exchange_of keytab own token) _ (reason-exchange keytab own token) (λ x. reason-claim own now bindings x.session x.part x.said)

-- ---- the initiator

reason-error : (message : List ℕ) → Reasoned (error_told message)
unfolding error_told
reason-error message =
    reason-bind (der_in _ (krb_error.read (all_of message))) _ (reason-der _ _ (krb_error-clear.clear (all_of message))) (λ error. reason-err _ _ refl)

reason-replied : (token : List ℕ) → Reasoned (replied token)
unfolding replied
reason-replied token =
    reason-bind (inner_of token) _ (reason-inner token) (λ inner.
    reason-if _ _ _ (reason-der _ _ (ap_rep-clear.clear (all_of (message_of inner)))) (reason-if _ _ _ (reason-error (message_of inner)) (reason-err _ _ refl)))

reason-reply_opened : (end : ApInit) (token : List ℕ) → Reasoned (reply_opened end token)
unfolding reply_opened
reason-reply_opened end token =
    reason-bind (replied token) _ (reason-replied token) (λ reply. reason-data _ end.session _ reply.enc_part refl)

reason-part_taken : (end : ApInit) (said : EncApRepPart) → Reasoned (part_taken end said)
unfolding part_taken
reason-part_taken end said =
    reason-bind (subkey_in said.subkey) _ (reason-subkey said.subkey) (λ subkey.
    reason-bind (due ReplyStamp (is_stamped end said)) _ (reason-due ReplyStamp (is_stamped end said) refl) (λ stamped. reason-ok _))

pub reason-taken : (end : ApInit) (token : List ℕ) → Reasoned (reply_taken end token)
unfolding reply_taken
reason-taken end token =
    reason-bind (reply_opened end token) _ (reason-reply_opened end token) (λ octets.
    reason-bind (der_in _ (enc_ap_rep_part.read (all_of octets))) _ (reason-der _ _ (enc_ap_rep_part-clear.clear (all_of octets))) (λ said. reason-part_taken end said))

pub reason-request : (credential : Granted) (stamp : ℕ) (draws : List ℕ) (bindings : Option (List ℕ)) → Reasoned (request_of credential stamp draws bindings)
unfolding request_of
reason-request credential stamp draws bindings =
    reason-bind (der_in _ (ticket.read (all_of credential.ticket))) _ (reason-der _ _ (ticket-clear.clear (all_of credential.ticket))) (λ one. reason-ok _)

-- ---- the laws

pub judged-reasons : (keytab : List Entry) (own : Name) (now : ℕ) (bindings : Option (List ℕ)) (token : List ℕ) (refusal : ApRefusal) → judged keytab own now bindings token ≡ Err refusal → ap_wants_memory refusal ≡ false
judged-reasons keytab own now bindings token refusal = reason-of (judged keytab own now bindings token) refusal (reason-judged keytab own now bindings token)

pub taken-reasons : (end : ApInit) (token : List ℕ) (refusal : ApRefusal) → reply_taken end token ≡ Err refusal → ap_wants_memory refusal ≡ false
taken-reasons end token refusal = reason-of (reply_taken end token) refusal (reason-taken end token)

pub request-reasons : (credential : Granted) (stamp : ℕ) (draws : List ℕ) (bindings : Option (List ℕ)) (refusal : ApRefusal) → request_of credential stamp draws bindings ≡ Err refusal → ap_wants_memory refusal ≡ false
request-reasons credential stamp draws bindings refusal = reason-of (request_of credential stamp draws bindings) refusal (reason-request credential stamp draws bindings)
