-- What was found verified where an end goes on.
use Rattle.std.proofs.Common.{◌≡◌, ℕ, true, eqb, List, Option, Some, None, Ok, option_and_then, sym, ap, subst, ◌∙◌, arith, eqb-true}
use Rattle.gss_base.specs.Name.{Name}
use Rattle.gss_base.specs.SameName.{same_name}
use Rattle.der_core.specs.Format.{all_of}
use Rattle.der_core.proofs.Steps.{both}
use Rattle.krb_derive.specs.declared.key.Etype.{Etype}
use Rattle.krb_derive.specs.declared.key.Key.{Key}
use Rattle.krb_derive.specs.Key.{etype_of}
use Rattle.krb_derive.specs.Sealing.{opened}
use Rattle.krb_derive.specs.Making.{VerifiesSealed}
use Rattle.krb_msgs.specs.declared.encrypted_data.EncryptedData.{EncryptedData}
use Rattle.krb_msgs.specs.declared.enc_ticket_part.EncTicketPart.{EncTicketPart}
use Rattle.krb_msgs.specs.declared.authenticator.Authenticator.{Authenticator}
use Rattle.krb_msgs.specs.Ticket.{ticket}
use Rattle.krb_msgs.specs.EncTicketPart.{enc_ticket_part}
use Rattle.krb_msgs.specs.Authenticator.{authenticator}
use Rattle.krb_msgs.specs.EncApRepPart.{enc_ap_rep_part}
use Rattle.krb_files.specs.declared.keytab.Entry.{Entry}
use Rattle.krb_files.specs.Keytab.{found}
use Rattle.krb_tokens.specs.declared.done.MechDone.{MechDone}
use Rattle.ap_exchange.specs.declared.refusal.Part.TheVariants as parts
use Rattle.ap_exchange.specs.declared.refusal.ApRefusal.{ApRefusal}
use Rattle.ap_exchange.specs.declared.refusal.ApRefusal.TheVariants as refusals
use Rattle.ap_exchange.specs.declared.judged.Judged.{Judged}
use Rattle.ap_exchange.specs.declared.request.ApInit.{ApInit}
use Rattle.ap_exchange.specs.Steps.{der_in, due}
use Rattle.ap_exchange.specs.Keys.{ticket_usage, authenticator_usage, reply_usage, known_key, key_in, subkey_in, is_type_of, opened_or, data_opened}
use Rattle.ap_exchange.specs.Request.{seconds_of, micros_of}
use Rattle.ap_exchange.specs.Exchange.{requested, name_in_realm, ticket_for, service_key, ticket_opened, Exchange, exchange_of, verified_in}
use Rattle.ap_exchange.specs.Judging.{client_granted, client_said, hash_carried, is_bound, timely, hash_claimed, judged_as, claim_judged, judged}
use Rattle.ap_exchange.specs.Reply.{replied, reply_opened, is_stamped, part_taken, reply_taken, reply_verified}
use Rattle.ap_exchange.specs.Laws.{JudgesBy, TakesBy}
use Rattle.ap_exchange.proofs.Passed.{bind_ok, due_ok, or_ok, der_ok, opened_ok, if_ok, ok_is, same_is}

data_ok : (refusal : ApRefusal) (key : Key) (usage : ℕ) (sealed : EncryptedData) (v : List ℕ) → data_opened refusal key usage sealed ≡ Ok v → opened key usage sealed.cipher ≡ Ok v
data_ok refusal key usage sealed v e =
    opened_ok refusal (opened key usage sealed.cipher) v (if_ok (is_type_of key (etype_of sealed.etype)) (opened_or refusal (opened key usage sealed.cipher)) refusal v e)

-- the key that was found, with the type by which it was
record FoundBy (keytab : List Entry) (own : Name) (kvno : Option ℕ) (etype : Option Etype) (key : Key) : Type 0 where
  etype_is : Etype
  found_is : found keytab own kvno etype_is ≡ Some key

found_by : (keytab : List Entry) (own : Name) (kvno : Option ℕ) (etype : Option Etype) (key : Key) → option_and_then (λ known. found keytab own kvno known) etype ≡ Some key → FoundBy keytab own kvno etype key
found_by keytab own kvno (Some etype) key e = record { etype_is = etype; found_is = e }
found_by keytab own kvno None key e = absurd cc

-- what opened of a request
record Opens (keytab : List Entry) (own : Name) (x : Exchange) : Type 0 where
  service : FoundBy keytab own x.granted.enc_part.kvno (etype_of x.granted.enc_part.etype) x.service
  server : name_in_realm x.granted.realm x.granted.sname ≡ own
  ticket_opens : opened x.service ticket_usage x.granted.enc_part.cipher ≡ Ok x.ticket_octets
  ticket_says : enc_ticket_part.read (all_of x.ticket_octets) ≡ Ok x.part
  session : known_key x.part.key ≡ Some x.session
  verified : opened x.session authenticator_usage x.request.authenticator.cipher ≡ Ok x.octets
  says : authenticator.read (all_of x.octets) ≡ Ok x.said

opens : (keytab : List Entry) (own : Name) (token : List ℕ) (x : Exchange) → exchange_of keytab own token ≡ Ok x → Opens keytab own x
unfolding exchange_of ticket_for
opens keytab own token x e =
    let a = bind_ok (requested token) _ x e in
    let b = bind_ok (ticket_for own a.0) _ x a.2 in
    let c = bind_ok (service_key keytab own b.0) _ x b.2 in
    let d = bind_ok (ticket_opened c.0 b.0) _ x c.2 in
    let f = bind_ok (der_in parts.Ticket (enc_ticket_part.read (all_of d.0))) _ x d.2 in
    let g = bind_ok (key_in f.0.key) _ x f.2 in
    let h = bind_ok (data_opened refusals.AuthClosed g.0 authenticator_usage a.0.authenticator) _ x g.2 in
    let k = bind_ok (der_in parts.Authenticator (authenticator.read (all_of h.0))) _ x h.2 in
    let t = bind_ok (der_in parts.Ticket (ticket.read (all_of a.0.ticket))) _ b.0 b.1 in
    let n = bind_ok (due refusals.TicketNames (same_name (name_in_realm t.0.realm t.0.sname) own)) _ b.0 t.2 in
    let granted : t.0 ≡ b.0 = ok_is t.0 b.0 n.2 in
    subst (Opens keytab own) (ok_is _ x k.2) (record {
      service = found_by keytab own b.0.enc_part.kvno (etype_of b.0.enc_part.etype) c.0 (or_ok refusals.NoKey _ c.0 c.1);
      server = same_is (name_in_realm b.0.realm b.0.sname) own (rw granted at (due_ok refusals.TicketNames _ n.0 n.1));
      ticket_opens = opened_ok refusals.TicketClosed _ d.0 d.1;
      ticket_says = der_ok parts.Ticket _ f.0 f.1;
      session = or_ok refusals.KeyType _ g.0 g.1;
      verified = data_ok refusals.AuthClosed g.0 authenticator_usage a.0.authenticator h.0 h.1;
      says = der_ok parts.Authenticator _ k.0 k.1;
    })

-- what an authenticator claims that was taken
record Claims (bindings : Option (List ℕ)) (part : EncTicketPart) (said : Authenticator) (hash : List ℕ) : Type 0 where
  client : client_said said ≡ client_granted part
  carried : hash_carried said.cksum ≡ Ok hash
  bound : is_bound bindings hash ≡ true

claims : (bindings : Option (List ℕ)) (part : EncTicketPart) (said : Authenticator) (hash : List ℕ) → hash_claimed bindings part said ≡ Ok hash → Claims bindings part said hash
unfolding hash_claimed
claims bindings part said hash e =
    let a = bind_ok (subkey_in said.subkey) _ hash e in
    let b = bind_ok (due refusals.NameMatch (same_name (client_said said) (client_granted part))) _ hash a.2 in
    let c = bind_ok (hash_carried said.cksum) _ hash b.2 in
    let d = bind_ok (due refusals.Bindings (is_bound bindings c.0)) _ hash c.2 in
    let same : c.0 ≡ hash = ok_is c.0 hash d.2 in
    record {
      client = same_is (client_said said) (client_granted part) (due_ok refusals.NameMatch _ b.0 b.1);
      carried = rw same at c.1;
      bound = rw same at (due_ok refusals.Bindings _ d.0 d.1);
    }

pub judges : (keytab : List Entry) (own : Name) (now : ℕ) (bindings : Option (List ℕ)) (token : List ℕ) (j : Judged) → judged keytab own now bindings token ≡ Ok j → JudgesBy keytab own bindings token j
unfolding judged claim_judged
judges keytab own now bindings token j e =
    let a = bind_ok (exchange_of keytab own token) _ j e in
    let b = bind_ok (hash_claimed bindings a.0.part a.0.said) _ j a.2 in
    let c = bind_ok (timely now a.0.part a.0.said) _ j b.2 in
    let o = opens keytab own token a.0 a.1 in
    let q = claims bindings a.0.part a.0.said b.0 b.1 in
    let kept : judged_as own a.0.session a.0.part a.0.said b.0 ≡ j = ok_is _ j c.2 in
    let hash : b.0 ≡ j.hash = ap (λ (k : Judged). k.hash) kept in
    record {
      x = a.0;
      exchange = a.1;
      etype = o.service.etype_is;
      service = o.service.found_is;
      server = o.server;
      ticket_opens = o.ticket_opens;
      ticket_says = o.ticket_says;
      session = o.session;
      verified = o.verified;
      says = o.says;
      finds = ap verified_in a.1;
      client = q.client;
      hash = rw hash at q.carried;
      bound = rw hash at q.bound;
      kept = sym kept ∙ ap (λ (h : List ℕ). judged_as own a.0.session a.0.part a.0.said h) hash;
    }

reply_tag : (end : ApInit) (token octets : List ℕ) → reply_opened end token ≡ Ok octets → (tag : List ℕ) × VerifiesSealed end.session reply_usage octets tag
unfolding reply_opened
reply_tag end token octets e =
    let a = bind_ok (replied token) _ octets e in
    (a.0.enc_part.cipher, data_ok refusals.ReplyClosed end.session reply_usage a.0.enc_part octets a.2)

pub takes : (end : ApInit) (token : List ℕ) (done : MechDone) → reply_taken end token ≡ Ok done → TakesBy end token done
unfolding reply_taken part_taken
takes end token done e =
    let a = bind_ok (reply_opened end token) _ done e in
    let b = bind_ok (der_in parts.Reply (enc_ap_rep_part.read (all_of a.0))) _ done a.2 in
    let c = bind_ok (subkey_in b.0.subkey) _ done b.2 in
    let d = bind_ok (due refusals.ReplyStamp (is_stamped end b.0)) _ done c.2 in
    let stamped = both (eqb b.0.ctime (seconds_of end.stamp)) (eqb b.0.cusec (micros_of end.stamp)) (due_ok refusals.ReplyStamp _ d.0 d.1) in
    let tag = reply_tag end token a.0 a.1 in
    record {
      octets = a.0;
      tag = tag.0;
      said = b.0;
      verified = tag.1;
      says = der_ok parts.Reply _ b.0 b.1;
      finds = ap (reply_verified end) a.1;
      stamp = omega (arith, eqb-true _ _ stamped.0, eqb-true _ _ stamped.1);
      subkey = c.0;
      subkey_is = c.1;
      done_is = sym (ok_is _ done d.2);
    }
