-- What holds of both ends' definitions: what was found verified where an end goes on, and that two
-- ends whose facts fit agree.
use Rattle.std.specs.Prelude.{◌≡◌, ℕ, ◌+◌, true, false, List, [], ◌∷◌, length, Option, Some, Ok}
use Rattle.std.specs.Prelude.{Err}
use Rattle.gss_base.specs.Name.{Name}
use Rattle.gss_base.specs.Bindings.{hash_of}
use Rattle.der_core.specs.Format.{all_of}
use Rattle.krb_derive.specs.declared.key.Etype.{Etype}
use Rattle.krb_derive.specs.declared.key.Key.{Key}
use Rattle.krb_derive.specs.Key.{etype_of}
use Rattle.krb_derive.specs.Making.{VerifiesSealed, sealed_making}
use Rattle.krb_msgs.specs.declared.ticket.Ticket.{Ticket}
use Rattle.krb_msgs.specs.declared.enc_ticket_part.EncTicketPart.{EncTicketPart}
use Rattle.krb_msgs.specs.declared.enc_ap_rep_part.EncApRepPart.{EncApRepPart}
use Rattle.krb_msgs.specs.Ticket.{ticket}
use Rattle.krb_msgs.specs.EncTicketPart.{enc_ticket_part}
use Rattle.krb_msgs.specs.Authenticator.{authenticator}
use Rattle.krb_msgs.specs.EncApRepPart.{enc_ap_rep_part}
use Rattle.krb_files.specs.declared.keytab.Entry.{Entry}
use Rattle.krb_files.specs.Keytab.{found}
use Rattle.krb_files.specs.Granted.{Granted}
use Rattle.krb_tokens.specs.declared.done.MechDone.{MechDone}
use Rattle.ap_exchange.specs.declared.judged.Judged.{Judged}
use Rattle.ap_exchange.specs.declared.refusal.ApRefusal.{ApRefusal}
use Rattle.ap_exchange.specs.declared.request.ApInit.{ApInit}
use Rattle.ap_exchange.specs.Reasons.{ap_wants_memory}
use Rattle.ap_exchange.specs.Keys.{ticket_usage, authenticator_usage, reply_usage, known_key}
use Rattle.ap_exchange.specs.Keys.{subkey_in}
use Rattle.ap_exchange.specs.Request.{label_of, waiting, request_of, request_token}
use Rattle.ap_exchange.specs.Request.{RequestFits}
use Rattle.ap_exchange.specs.Exchange.{name_in_realm, Exchange, exchange_of, judge_found}
use Rattle.ap_exchange.specs.Judging.{client_granted, client_said, hash_carried, is_bound, is_near}
use Rattle.ap_exchange.specs.Judging.{is_begun, is_lasting, end_of, judged_as, judged}
use Rattle.ap_exchange.specs.Answer.{answer_done, answer_token, AnswerFits}
use Rattle.ap_exchange.specs.Reply.{reply_done, reply_taken, reply_found}

-- what an acceptor found where it judged a request
pub record JudgesBy (keytab : List Entry) (own : Name) (bindings : Option (List ℕ)) (token : List ℕ)
    (j : Judged) : Type 0 where
  pub x : Exchange
  pub exchange : exchange_of keytab own token ≡ Ok x
  -- the service key is the keytab's, for the own name
  pub etype : Etype
  pub service : found keytab own x.granted.enc_part.kvno etype ≡ Some x.service
  pub server : name_in_realm x.granted.realm x.granted.sname ≡ own
  -- the ticket opened under it, and says the client and the session key
  pub ticket_opens : VerifiesSealed x.service ticket_usage x.ticket_octets x.granted.enc_part.cipher
  pub ticket_says : enc_ticket_part.read (all_of x.ticket_octets) ≡ Ok x.part
  pub session : known_key x.part.key ≡ Some x.session
  -- the authenticator verified under the session key, and says the same client, the stamp and the
  -- hash
  pub verified : VerifiesSealed x.session authenticator_usage x.octets
      x.request.authenticator.cipher
  pub says : authenticator.read (all_of x.octets) ≡ Ok x.said
  pub finds : judge_found keytab own token
      ≡ sealed_making x.session authenticator_usage x.octets ∷ []
  pub client : client_said x.said ≡ client_granted x.part
  pub hash : hash_carried x.said.cksum ≡ Ok j.hash
  pub bound : is_bound bindings j.hash ≡ true
  -- and that is what is kept
  pub kept : j ≡ judged_as own x.session x.part x.said j.hash

-- what an initiator found where it took a reply
pub record TakesBy (end : ApInit) (token : List ℕ) (done : MechDone) : Type 0 where
  -- the sealed part verified under the session key, and says the stamp
  pub octets : List ℕ
  pub tag : List ℕ
  pub said : EncApRepPart
  pub verified : VerifiesSealed end.session reply_usage octets tag
  pub says : enc_ap_rep_part.read (all_of octets) ≡ Ok said
  pub finds : reply_found end token ≡ sealed_making end.session reply_usage octets ∷ []
  pub stamp : said.ctime + said.cusec ≡ end.stamp
  -- and that, with the subkey where there is one, is what the initiator is left with
  pub subkey : Option Key
  pub subkey_is : subkey_in said.subkey ≡ Ok subkey
  pub done_is : done ≡ reply_done end subkey said.seq_number

-- the facts of an initiator and of an acceptor fit: the ticket is the acceptor's, opens under a key
-- that the keytab finds, holds the credential's client and session key, and is in its time; the
-- stamp is near; the acceptor has no bindings or the initiator's
pub record Fits (keytab : List Entry) (own : Name) (now : ℕ) (expected : Option (List ℕ))
    (credential : Granted) (stamp : ℕ) (bindings : Option (List ℕ)) : Type 0 where
  pub granted : Ticket
  pub service : Key
  pub etype : Etype
  pub octets : List ℕ
  pub part : EncTicketPart
  pub is_ticket : ticket.read (all_of credential.ticket) ≡ Ok granted
  pub server : name_in_realm granted.realm granted.sname ≡ own
  pub credential_server : credential.server ≡ own
  pub type_is : etype_of granted.enc_part.etype ≡ Some etype
  pub key : found keytab own granted.enc_part.kvno etype ≡ Some service
  pub opens : VerifiesSealed service ticket_usage octets granted.enc_part.cipher
  pub says : enc_ticket_part.read (all_of octets) ≡ Ok part
  pub session : known_key part.key ≡ Some credential.session
  pub client : client_granted part ≡ credential.client
  pub near : is_near now stamp ≡ true
  pub begun : is_begun now part ≡ true
  pub lasting : is_lasting now part ≡ true
  pub bound : is_bound expected (hash_of bindings) ≡ true

-- what the acceptor judges of an honest request
abbrev pub honest_judged : Granted → ℕ → Option (List ℕ) → EncTicketPart → Judged
honest_judged credential stamp bindings part = record {
  session = credential.session;
  initiator = label_of credential.client;
  acceptor = label_of credential.server;
  stamp = stamp;
  hash = hash_of bindings;
  ends = end_of part;
  first = 0;
}

-- two ends are left with the same: the key, whether it is the acceptor's subkey, both names and the
-- hash
pub record Agrees (initiator acceptor : MechDone) : Type 0 where
  pub key : initiator.key ≡ acceptor.key
  pub subkey : initiator.subkey ≡ acceptor.subkey
  pub initiator_name : initiator.initiator ≡ acceptor.initiator
  pub acceptor_name : initiator.acceptor ≡ acceptor.acceptor
  pub hash : initiator.hash ≡ acceptor.hash

-- the laws of both ends: what was verified where one goes on, and that ends whose facts fit agree
pub record Laws : Type 0 where
  -- where a request is judged, its authenticator was verified under the session key of a ticket
  -- that one of the acceptor's keys opens
  pub judges : (keytab : List Entry) (own : Name) (now : ℕ) (bindings : Option (List ℕ))
      (token : List ℕ) (j : Judged)
      → judged keytab own now bindings token ≡ Ok j → JudgesBy keytab own bindings token j
  -- where a reply is taken, its sealed part was verified under the session key
  pub takes : (end : ApInit) (token : List ℕ) (done : MechDone) → reply_taken end token ≡ Ok done
      → TakesBy end token done
  -- the request of ends that fit is judged
  pub honest_request : (keytab : List Entry) (own : Name) (now : ℕ) (expected : Option (List ℕ))
      (credential : Granted) (stamp : ℕ) (draws : List ℕ) (bindings : Option (List ℕ))
      → length draws ≡ 66 → RequestFits credential stamp draws bindings
      → (fit : Fits keytab own now expected credential stamp bindings)
      → judged keytab own now expected (request_token credential stamp draws bindings)
      ≡ Ok (honest_judged credential stamp bindings fit.part)
  -- and the answer to it is taken, on the acceptor's subkey; both ends agree
  pub honest_reply : (credential : Granted) (stamp : ℕ) (draws : List ℕ)
      (bindings : Option (List ℕ)) (part : EncTicketPart) (drawn : List ℕ)
      → length drawn ≡ 66 → AnswerFits (honest_judged credential stamp bindings part) drawn
      → (done : MechDone) × (reply_taken (waiting credential stamp draws bindings)
      (answer_token (honest_judged credential stamp bindings part) drawn) ≡ Ok done)
      × Agrees done (answer_done (honest_judged credential stamp bindings part) drawn)
      × (done.subkey ≡ true)
  -- a request and a reply are refused for a reason: neither is want of memory, nor holds it
  pub judged_reasons : (keytab : List Entry) (own : Name) (now : ℕ) (bindings : Option (List ℕ))
      (token : List ℕ) (refusal : ApRefusal)
      → judged keytab own now bindings token ≡ Err refusal → ap_wants_memory refusal ≡ false
  pub taken_reasons : (end : ApInit) (token : List ℕ) (refusal : ApRefusal)
      → reply_taken end token ≡ Err refusal → ap_wants_memory refusal ≡ false
  -- the same where an initiator's ticket is none
  pub request_reasons : (credential : Granted) (stamp : ℕ) (draws : List ℕ)
      (bindings : Option (List ℕ)) (refusal : ApRefusal)
      → request_of credential stamp draws bindings ≡ Err refusal
      → ap_wants_memory refusal ≡ false
