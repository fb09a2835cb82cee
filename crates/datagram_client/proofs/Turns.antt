-- Turns of a creation over datagrams, as parts of a talk over the stream of their replies.
use Rattle.std.proofs.Common.{◌≡◌, ◌≢◌, ◌⊎◌, inl, inr, ℕ, zero, suc, ◌+◌, ◌-◌, ◌<◌, ◌≤◌, Bool, true, false, ◌&&◌, leb, IsErrOf, List, [], ◌∷◌, ◌++◌, length, map, refl, ap, sym, ◌∙◌, subst, arith, append_assoc, append-nil, Option, None, Some, Result, Ok, Err, flat_map}
use Rattle.std.proofs.lemmas.Bool.Decides.{nat_tests}
use Rattle.datagram_post.specs.declared.post.Post as posts
use Rattle.rpc_msgs.specs.Records.{last_fragment}
use Rattle.gss_client.specs.declared.terms.Terms.{Terms}
use Rattle.spnego_core.specs.declared.outcome.Outcome.{Outcome}
use Rattle.spnego_core.specs.declared.refusal.NegRefusal.{NegRefusal}
use Rattle.spnego_core.specs.declared.refusal.NegRefusal.TheVariants as negs
use Rattle.gss_client.specs.declared.refusal.ClientRefusal.{ClientRefusal}
use Rattle.gss_client.specs.declared.refusal.ClientRefusal.TheVariants as clients
use Rattle.gss_client.specs.declared.refusal.ReplyWhy.TheVariants.{Steps}
use Rattle.gss_client.specs.Calling.{creation_call}
use Rattle.gss_client.specs.Creation.{Machine, OfferOf, CreatedOf}
use Rattle.gss_client.specs.Creation as created
use Rattle.gss_client.specs.Hearing.{whole, next_of}
use Rattle.gss_client.specs.Judging.{creation_by}
use Rattle.gss_client.specs.Session.{SessionState, xid_after}
use Rattle.gss_client.specs.Start.{StartMeans}
use Rattle.gss_client.specs.Talk.{turns_by, begun, by_turn, creates_by, begins_over, created_over}
use Rattle.gss_client.specs.Talking.{Said, Talking, said, after, goes_on, ◌>>=◌, judges, exchanges, listens}
use Rattle.gss_client.proofs.NextRecord.{of-frame, of-nothing}
use Rattle.init_ends.specs.Ends.{EndMeans}
use Rattle.init_ends.specs.Initiating.{end_start, end_step}
use Rattle.datagram_client.specs.declared.refusal.PostRefusal.{PostRefusal}
use Rattle.datagram_client.specs.declared.refusal.PostRefusal.TheVariants as refusals
use Rattle.datagram_client.specs.Hearing.{answers, AreOther, Hears}
use Rattle.datagram_client.specs.Creating.{client_refusal, marked, heard_in, reply_in, IsUnsent, Asked, Says, EndsBy, Creates}
use Rattle.datagram_client.proofs.Judgements.{Judged, creation-judged}

-- ---- a call and its reply

both : (a b : Bool) → (a && b) ≡ true → a ≡ true
both true b e = refl
both false b e = e

fits : (xid : ℕ) (octets : List ℕ) → answers xid octets ≡ true → length octets ≤ 8192
fits xid octets e = let f : leb (length octets) 8192 ≡ true = both _ _ e in grind (arith, nat_tests, f)

heard-reply : (reply later : List ℕ) → length reply ≤ 131072 → next_of (last_fragment reply ++ later) ≡ whole reply later
heard-reply reply later size = of-frame (record { earlier = []; last = reply }) later (record { few = omega arith; size = size })

exchanged : (call reply later : List ℕ) → length reply ≤ 131072 → exchanges call (last_fragment reply ++ later) ≡ said (last_fragment call ++ []) (Ok reply) later
unfolding exchanges listens
exchanged call reply later size = rw (heard-reply reply later size) refl

unanswered : (call : List ℕ) → exchanges call [] ≡ said (last_fragment call ++ []) (Err clients.PeerEnded) []
unfolding exchanges listens
unanswered call = rw of-nothing refl

module _ {E : Type 0} (machine : Machine E) (terms : Terms) (first xid proc : ℕ) (offer : OfferOf E) where
  abbrev call-of : List ℕ
  call-of = creation_call terms xid proc offer.handle offer.token

  turned : (reply later : List ℕ) → length reply ≤ 131072 → turns_by machine terms xid proc offer (last_fragment reply ++ later) ≡ said (last_fragment call-of) (creation_by machine offer.end xid reply) later
  unfolding turns_by
  turned reply later size =
      ap (λ (s : Said (List ℕ)). goes_on s.written s.rest (λ (octets : List ℕ). judges (creation_by machine offer.end xid octets)) s.answer) (exchanged call-of reply later size)
      ∙ ap (λ (w : List ℕ). said w (creation_by machine offer.end xid reply) later) (append-nil (last_fragment call-of ++ []) ∙ append-nil (last_fragment call-of))

  unturned : turns_by machine terms xid proc offer [] ≡ said (last_fragment call-of ++ []) (Err clients.PeerEnded) []
  unfolding turns_by
  unturned = ap (λ (s : Said (List ℕ)). goes_on s.written s.rest (λ (octets : List ℕ). judges (creation_by machine offer.end xid octets)) s.answer) (unanswered call-of)

  one-turn : (left : ℕ) → 0 < left → creates_by machine left terms first xid proc offer ≡ (turns_by machine terms xid proc offer >>= by_turn terms first xid (creates_by machine (left - 1) terms first (xid_after xid) 2))
  unfolding creates_by
  one-turn zero h = absurd (omega arith)
  one-turn (suc left) h = let e : suc left - 1 ≡ left = omega arith in rw e refl

  -- by what the reply leads to
  replied : (left : ℕ) (reply later : List ℕ) → 0 < left → length reply ≤ 131072 → creates_by machine left terms first xid proc offer (last_fragment reply ++ later)
      ≡ goes_on (last_fragment call-of) later (by_turn terms first xid (creates_by machine (left - 1) terms first (xid_after xid) 2)) (creation_by machine offer.end xid reply)
  replied left reply later some size =
      ap (λ (part : Talking SessionState). part (last_fragment reply ++ later)) (one-turn left some)
      ∙ ap (λ (s : Said (CreatedOf E)). goes_on s.written s.rest (by_turn terms first xid (creates_by machine (left - 1) terms first (xid_after xid) 2)) s.answer) (turned reply later size)

  unreplied : (left : ℕ) → 0 < left → creates_by machine left terms first xid proc offer [] ≡ said (last_fragment call-of ++ []) (Err clients.PeerEnded) []
  unreplied left some =
      ap (λ (part : Talking SessionState). part []) (one-turn left some)
      ∙ ap (λ (s : Said (CreatedOf E)). goes_on s.written s.rest (by_turn terms first xid (creates_by machine (left - 1) terms first (xid_after xid) 2)) s.answer) unturned

-- what a part writes begins with what its first part wrote
further : {A B : Type 0} (written rest : List ℕ) (next : A → Talking B) (answer : Result A ClientRefusal) → (more : List ℕ) × ((goes_on written rest next answer).written ≡ written ++ more)
further written rest next (Ok x) = ((next x rest).written, refl)
further written rest next (Err refusal) = ([], sym (append-nil written))

-- ---- the whole of it behind a first reply

says-after : {A : Type 0} (part next : Talking A) (reply call : List ℕ) (replies calls : List (List ℕ)) (result : Result A PostRefusal) → part (marked (reply ∷ replies)) ≡ after (last_fragment call) (next (marked replies)) → Says next replies calls result → Says part (reply ∷ replies) (call ∷ calls) result
says-after part next reply call replies calls (Ok value) e s = e ∙ ap (λ t. after (last_fragment call) t) s
says-after part next reply call replies calls (Err refusals.PostFault) e s =
    (s.0, ap (λ (t : Said _). t.written) e ∙ (ap (λ (w : List ℕ). last_fragment call ++ w) s.1 ∙ sym (append_assoc (last_fragment call) (marked calls) s.0)))
says-after part next reply call replies calls (Err refusals.NoMemory) e s =
    (s.0, ap (λ (t : Said _). t.written) e ∙ (ap (λ (w : List ℕ). last_fragment call ++ w) s.1 ∙ sym (append_assoc (last_fragment call) (marked calls) s.0)))
says-after part next reply call replies calls (Err refusals.NoReply) e s = e ∙ ap (λ t. after (last_fragment call) t) s
says-after part next reply call replies calls (Err refusals.Flood) e s = e ∙ ap (λ t. after (last_fragment call) t) s
says-after part next reply call replies calls (Err refusals.Spent) e s = e ∙ ap (λ t. after (last_fragment call) t) s
says-after part next reply call replies calls (Err (refusals.Refused denial)) e s = e ∙ ap (λ t. after (last_fragment call) t) s
says-after part next reply call replies calls (Err (refusals.BadReply why)) e s = e ∙ ap (λ t. after (last_fragment call) t) s
says-after part next reply call replies calls (Err (refusals.Negotiation refusal)) e s = e ∙ ap (λ t. after (last_fragment call) t) s

module _ {P : Type 0} (post : posts.Ghosts P) where
  asked-ok : (call : List ℕ) (xid count count' : ℕ) (old new : P) (reply : List ℕ) → Asked post call xid count count' old new (Ok reply) → (post.sent new ≡ post.sent old ++ call ∷ []) × Hears xid count count' (post.heard old) (post.heard new) (Ok reply)
  asked-ok call xid count count' old new reply a = by a.sent
    where
      by : (post.sent new ≡ post.sent old ++ call ∷ []) × Hears xid count count' (post.heard old) (post.heard new) (Ok reply) ⊎ (post.sent new ≡ post.sent old) × (post.heard new ≡ post.heard old) × IsUnsent {A = List ℕ} (Ok reply)
          → (post.sent new ≡ post.sent old ++ call ∷ []) × Hears xid count count' (post.heard old) (post.heard new) (Ok reply)
      by (inl s) = s
      by (inr u) = absurd u.2

  -- one more turn
  pub went-on : {E : Type 0} (machine : Machine E) (left : ℕ) (terms : Terms) (first xid proc : ℕ) (offer next : OfferOf E) (count count' : ℕ) (old mid new : P) (reply : List ℕ) (result : Result SessionState PostRefusal)
      → 0 < left → creation_by machine offer.end xid reply ≡ Ok (created.Going next)
      → Asked post (creation_call terms xid proc offer.handle offer.token) xid count count' old mid (Ok reply)
      → Creates post (creates_by machine (left - 1) terms first (xid_after xid) 2 next) (xid_after xid) count' mid new result
      → Creates post (creates_by machine left terms first xid proc offer) xid count old new result
  went-on machine left terms first xid proc offer next count count' old mid new reply result some goes asked c =
      let s = asked-ok (creation_call terms xid proc offer.handle offer.token) xid count count' old mid reply asked in
      let call : List ℕ = creation_call terms xid proc offer.handle offer.token in
      let h = s.1 in
      let front : List (Option (List ℕ)) = map Some h.over ++ Some reply ∷ [] in record {
        turns = record { over = h.over; reply = reply } ∷ c.turns;
        over = c.over;
        last = c.last;
        calls = call ∷ c.calls;
        are = (h.other, h.ends.0, c.are);
        heard = c.heard ∙ (ap (λ (l : List (Option (List ℕ))). l ++ (flat_map heard_in c.turns ++ (map Some c.over ++ c.last))) h.ends.2
            ∙ (append_assoc (post.heard old) front (flat_map heard_in c.turns ++ (map Some c.over ++ c.last))
            ∙ ap (λ (l : List (Option (List ℕ))). post.heard old ++ l) (sym (append_assoc front (flat_map heard_in c.turns) (map Some c.over ++ c.last)))));
        sent = c.sent ∙ (ap (λ (l : List (List ℕ)). l ++ c.calls) s.0 ∙ append_assoc (post.sent old) (call ∷ []) c.calls);
        says = says-after (creates_by machine left terms first xid proc offer) (creates_by machine (left - 1) terms first (xid_after xid) 2 next) reply call (map reply_in c.turns) c.calls result
            (replied machine terms first xid proc offer left reply (marked (map reply_in c.turns)) some (omega (arith, fits xid reply h.ends.0))
            ∙ ap (λ r. goes_on (last_fragment call) (marked (map reply_in c.turns)) (by_turn terms first xid (creates_by machine (left - 1) terms first (xid_after xid) 2)) r) goes)
            c.says;
        ends = subst (λ (n : ℕ). EndsBy result c.over c.last n) (omega (arith, h.counted)) c.ends;
      }

  -- the reply decides
  decided : {E : Type 0} (machine : Machine E) (left : ℕ) (terms : Terms) (first xid proc : ℕ) (offer : OfferOf E) (count count' : ℕ) (old new : P) (reply : List ℕ) (result : Result SessionState PostRefusal)
      → 0 < left → Asked post (creation_call terms xid proc offer.handle offer.token) xid count count' old new (Ok reply)
      → Says (creates_by machine left terms first xid proc offer) (reply ∷ []) (creation_call terms xid proc offer.handle offer.token ∷ []) result
      → ((n : ℕ) → n < 1024 → EndsBy result [] [] n)
      → Creates post (creates_by machine left terms first xid proc offer) xid count old new result
  decided machine left terms first xid proc offer count count' old new reply result some asked says ends =
      let s = asked-ok (creation_call terms xid proc offer.handle offer.token) xid count count' old new reply asked in
      let h = s.1 in
      let front : List (Option (List ℕ)) = map Some h.over ++ Some reply ∷ [] in record {
        turns = record { over = h.over; reply = reply } ∷ [];
        over = [];
        last = [];
        calls = creation_call terms xid proc offer.handle offer.token ∷ [];
        are = (h.other, h.ends.0, tt);
        heard = h.ends.2 ∙ ap (λ (l : List (Option (List ℕ))). post.heard old ++ l) (sym (append-nil (front ++ []) ∙ append-nil front));
        sent = s.0;
        says = says;
        ends = ends (count + (length h.over + 0 + 0)) (omega (arith, h.counted, h.ends.1));
      }

  pub stood : {E : Type 0} (machine : Machine E) (left : ℕ) (terms : Terms) (first xid proc : ℕ) (offer : OfferOf E) (count count' : ℕ) (old new : P) (reply : List ℕ) (outcome : Outcome) (handle : List ℕ)
      → 0 < left → creation_by machine offer.end xid reply ≡ Ok (created.Stands outcome handle)
      → Asked post (creation_call terms xid proc offer.handle offer.token) xid count count' old new (Ok reply)
      → Creates post (creates_by machine left terms first xid proc offer) xid count old new (Ok (begun terms first (xid_after xid) outcome handle))
  stood machine left terms first xid proc offer count count' old new reply outcome handle some stands asked =
      let s = asked-ok (creation_call terms xid proc offer.handle offer.token) xid count count' old new reply asked in
      let size : length reply ≤ 8192 = fits xid reply s.1.ends.0 in
      let call : List ℕ = creation_call terms xid proc offer.handle offer.token in
      decided machine left terms first xid proc offer count count' old new reply (Ok (begun terms first (xid_after xid) outcome handle)) some asked
      (replied machine terms first xid proc offer left reply [] some (omega (arith, size))
      ∙ ap (λ r. goes_on (last_fragment call) [] (by_turn terms first xid (creates_by machine (left - 1) terms first (xid_after xid) 2)) r) stands)
      (λ n lt. (refl, refl, lt))

  pub refused : {E : Type 0} (machine : Machine E) (left : ℕ) (terms : Terms) (first xid proc : ℕ) (offer : OfferOf E) (count count' : ℕ) (old new : P) (reply : List ℕ) (refusal : PostRefusal) (why : ClientRefusal)
      → 0 < left → (why ≢ clients.NoMemory → creation_by machine offer.end xid reply ≡ Err why) → client_refusal refusal ≡ why
      → Asked post (creation_call terms xid proc offer.handle offer.token) xid count count' old new (Ok reply)
      → Creates post (creates_by machine left terms first xid proc offer) xid count old new (Err refusal)
  refused {E} machine left terms first xid proc offer count count' old new reply refusal why some answer is asked =
      by refusal (subst (λ (w : ClientRefusal). w ≢ clients.NoMemory → creation_by machine offer.end xid reply ≡ Err w) (sym is) answer)
    where
      size : length reply ≤ 8192
      size = fits xid reply (asked-ok (creation_call terms xid proc offer.handle offer.token) xid count count' old new reply asked).1.ends.0

      never : (w : ClientRefusal) → creation_by machine offer.end xid reply ≡ Err w → Judged {A = CreatedOf E} (Err w)
      never w e = subst (λ (r : Result (CreatedOf E) ClientRefusal). Judged r) e (creation-judged machine offer.end xid reply)

      said-so : (w : ClientRefusal) → creation_by machine offer.end xid reply ≡ Err w → creates_by machine left terms first xid proc offer (last_fragment reply ++ []) ≡ said (last_fragment (creation_call terms xid proc offer.handle offer.token) ++ []) (Err w) []
      said-so w e = replied machine terms first xid proc offer left reply [] some (omega (arith, size)) ∙ (ap (λ r. goes_on (last_fragment (creation_call terms xid proc offer.handle offer.token)) [] (by_turn terms first xid (creates_by machine (left - 1) terms first (xid_after xid) 2)) r) e ∙ ap (λ (l : List ℕ). said l (Err w) []) (sym (append-nil (last_fragment (creation_call terms xid proc offer.handle offer.token)))))

      by : (r : PostRefusal) → (client_refusal r ≢ clients.NoMemory → creation_by machine offer.end xid reply ≡ Err (client_refusal r)) → Creates post (creates_by machine left terms first xid proc offer) xid count old new (Err r)
      by refusals.PostFault a = absurd (never clients.LinkFault (a (λ e. cc)))
      by refusals.NoReply a = absurd (never clients.PeerEnded (a (λ e. cc)))
      by refusals.Flood a = absurd (never clients.PeerEnded (a (λ e. cc)))
      by refusals.Spent a = absurd (never clients.PeerEnded (a (λ e. cc)))
      by (refusals.Refused denial) a = decided machine left terms first xid proc offer count count' old new reply (Err (refusals.Refused denial)) some asked (said-so (clients.Refused denial) (a (λ e. cc))) (λ n lt. (refl, refl, lt))
      by (refusals.BadReply y) a = decided machine left terms first xid proc offer count count' old new reply (Err (refusals.BadReply y)) some asked (said-so (clients.BadReply y) (a (λ e. cc))) (λ n lt. (refl, refl, lt))
      by (refusals.Negotiation y) a = decided machine left terms first xid proc offer count count' old new reply (Err (refusals.Negotiation y)) some asked (said-so (clients.Negotiation y) (a (λ e. cc))) (λ n lt. (refl, refl, lt))
      by refusals.NoMemory a =
          let f = further (last_fragment (creation_call terms xid proc offer.handle offer.token)) [] (by_turn terms first xid (creates_by machine (left - 1) terms first (xid_after xid) 2)) (creation_by machine offer.end xid reply) in
          decided machine left terms first xid proc offer count count' old new reply (Err refusals.NoMemory) some asked
          (f.0, ap (λ (t : Said SessionState). t.written) (replied machine terms first xid proc offer left reply [] some (omega (arith, size))) ∙ (f.1 ∙ ap (λ (l : List ℕ). l ++ f.0) (sym (append-nil (last_fragment (creation_call terms xid proc offer.handle offer.token))))))
          (λ n lt. tt)

  -- no reply was heard
  pub unheard : {E : Type 0} (machine : Machine E) (left : ℕ) (terms : Terms) (first xid proc : ℕ) (offer : OfferOf E) (count count' : ℕ) (old new : P) (refusal : PostRefusal)
      → 0 < left → Asked post (creation_call terms xid proc offer.handle offer.token) xid count count' old new (Err refusal)
      → Creates post (creates_by machine left terms first xid proc offer) xid count old new (Err refusal)
  unheard {E} machine left terms first xid proc offer count count' old new refusal some asked = by refusal asked.sent
    where
      ended-so : (creates_by machine left terms first xid proc offer) [] ≡ said (last_fragment (creation_call terms xid proc offer.handle offer.token) ++ []) (Err clients.PeerEnded) []
      ended-so = unreplied machine terms first xid proc offer left some

      -- it was sent, and so it ended
      sent-so : (r : PostRefusal) (over : List (List ℕ)) (last : List (Option (List ℕ))) → post.sent new ≡ post.sent old ++ (creation_call terms xid proc offer.handle offer.token) ∷ [] → AreOther xid over → post.heard new ≡ post.heard old ++ (map Some over ++ last)
          → Says (creates_by machine left terms first xid proc offer) [] ((creation_call terms xid proc offer.handle offer.token) ∷ []) (Err r) → EndsBy {A = SessionState} (Err r) over last (count + (0 + length over)) → Creates post (creates_by machine left terms first xid proc offer) xid count old new (Err r)
      sent-so r over last sent other heard says ends = record { turns = []; over = over; last = last; calls = (creation_call terms xid proc offer.handle offer.token) ∷ []; are = other; heard = heard; sent = sent; says = says; ends = ends }

      unsent-so : (r : PostRefusal) → post.sent new ≡ post.sent old → post.heard new ≡ post.heard old → Says (creates_by machine left terms first xid proc offer) [] [] (Err r) → EndsBy {A = SessionState} (Err r) [] [] (count + (0 + 0)) → Creates post (creates_by machine left terms first xid proc offer) xid count old new (Err r)
      unsent-so r sent heard says ends = record { turns = []; over = []; last = []; calls = []; are = tt; heard = heard ∙ sym (append-nil (post.heard old)); sent = sent ∙ sym (append-nil (post.sent old)); says = says; ends = ends }

      by : (r : PostRefusal) → (post.sent new ≡ post.sent old ++ (creation_call terms xid proc offer.handle offer.token) ∷ []) × Hears xid count count' (post.heard old) (post.heard new) (Err r) ⊎ (post.sent new ≡ post.sent old) × (post.heard new ≡ post.heard old) × IsUnsent {A = List ℕ} (Err r) → Creates post (creates_by machine left terms first xid proc offer) xid count old new (Err r)
      by refusals.PostFault (inl s) = sent-so refusals.PostFault s.1.over [] s.0 s.1.other s.1.ends ([], ap (λ (t : Said SessionState). t.written) ended-so ∙ sym (append-nil (last_fragment (creation_call terms xid proc offer.handle offer.token) ++ []))) refl
      by refusals.PostFault (inr u) = unsent-so refusals.PostFault u.0 u.1 (((creates_by machine left terms first xid proc offer) []).written, refl) refl
      by refusals.NoReply (inl s) = sent-so refusals.NoReply s.1.over (None ∷ []) s.0 s.1.other s.1.ends.1 ended-so (refl, omega (arith, s.1.counted, s.1.ends.0))
      by refusals.NoReply (inr u) = absurd u.2
      by refusals.Flood (inl s) = sent-so refusals.Flood s.1.over [] s.0 s.1.other s.1.ends.1 ended-so (refl, omega (arith, s.1.counted, s.1.ends.0))
      by refusals.Flood (inr u) = absurd u.2
      by refusals.Spent (inl s) = absurd s.1.ends
      by refusals.Spent (inr u) = absurd u.2
      by (refusals.Refused denial) (inl s) = absurd s.1.ends
      by (refusals.Refused denial) (inr u) = absurd u.2
      by (refusals.BadReply why) (inl s) = absurd s.1.ends
      by (refusals.BadReply why) (inr u) = absurd u.2
      by (refusals.Negotiation y) (inl s) = absurd s.1.ends
      by (refusals.Negotiation y) (inr u) = absurd u.2
      by refusals.NoMemory (inl s) = sent-so refusals.NoMemory s.1.over s.1.ends.0 s.0 s.1.other s.1.ends.1 ([], ap (λ (t : Said SessionState). t.written) ended-so ∙ sym (append-nil (last_fragment (creation_call terms xid proc offer.handle offer.token) ++ []))) tt
      by refusals.NoMemory (inr u) = unsent-so refusals.NoMemory u.0 u.1 (((creates_by machine left terms first xid proc offer) []).written, refl) tt

  -- no turn is left
  pub no-turn : {E : Type 0} (machine : Machine E) (left : ℕ) (terms : Terms) (first xid proc : ℕ) (offer : OfferOf E) (count : ℕ) (old : P) → left ≡ 0 → count < 1024
      → Creates post (creates_by machine left terms first xid proc offer) xid count old old (Err (refusals.BadReply Steps))
  unfolding creates_by
  no-turn machine left terms first xid proc offer count old e few = record {
    turns = [];
    over = [];
    last = [];
    calls = [];
    are = tt;
    heard = sym (append-nil (post.heard old));
    sent = sym (append-nil (post.sent old));
    says = rw e refl;
    ends = (refl, refl, omega (arith, few));
  }

  -- ---- the start

  pub started : (start : StartMeans) (end : EndMeans) (token : List ℕ) (old new : P) (result : Result SessionState PostRefusal) → end_start start.setup ≡ Ok (end, token)
      → Creates post (creates_by end_step 16 start.terms start.first 1 1 (record { end = end; handle = []; token = token })) 1 0 old new result → Creates post (created_over start) 1 0 old new result
  unfolding created_over
  started start end token old new result e c = subst (λ (part : Talking SessionState). Creates post part 1 0 old new result) (sym (ap (begins_over start.terms start.first) e)) c

  unstarted-is : (start : StartMeans) (refusal : NegRefusal) → end_start start.setup ≡ Err refusal → created_over start ≡ judges (Err (clients.Negotiation refusal))
  unfolding created_over
  unstarted-is start refusal e = ap (begins_over start.terms start.first) e

  pub unstarted : (start : StartMeans) (why : NegRefusal) (refusal : PostRefusal) (old : P) → (why ≢ negs.NoMemory → end_start start.setup ≡ Err why) → (why ≢ negs.NoMemory → refusal ≡ refusals.Negotiation why) → (why ≡ negs.NoMemory → refusal ≡ refusals.NoMemory) → Creates post (created_over start) 1 0 old old (Err refusal)
  unstarted start why refusal old is negotiation memory = by why is negotiation memory
    where
      nothing : (r : PostRefusal) → Says (created_over start) [] [] (Err r) → EndsBy {A = SessionState} (Err r) [] [] (0 + (0 + 0)) → Creates post (created_over start) 1 0 old old (Err r)
      nothing r says ends = record { turns = []; over = []; last = []; calls = []; are = tt; heard = sym (append-nil (post.heard old)); sent = sym (append-nil (post.sent old)); says = says; ends = ends }

      refuses : (w : NegRefusal) → w ≢ negs.NoMemory → (w ≢ negs.NoMemory → end_start start.setup ≡ Err w) → (w ≢ negs.NoMemory → refusal ≡ refusals.Negotiation w) → Creates post (created_over start) 1 0 old old (Err refusal)
      refuses w some i n = subst (λ (r : PostRefusal). Creates post (created_over start) 1 0 old old (Err r)) (sym (n some))
          (nothing (refusals.Negotiation w) (ap (λ (part : Talking SessionState). part []) (unstarted-is start w (i some))) (refl, refl, omega arith))

      wants : refusal ≡ refusals.NoMemory → Creates post (created_over start) 1 0 old old (Err refusal)
      wants e = subst (λ (r : PostRefusal). Creates post (created_over start) 1 0 old old (Err r)) (sym e) (nothing refusals.NoMemory ((created_over start []).written, refl) tt)

      by : (w : NegRefusal) → (w ≢ negs.NoMemory → end_start start.setup ≡ Err w) → (w ≢ negs.NoMemory → refusal ≡ refusals.Negotiation w) → (w ≡ negs.NoMemory → refusal ≡ refusals.NoMemory) → Creates post (created_over start) 1 0 old old (Err refusal)
      by negs.NoMemory i n m = wants (m refl)
      by (negs.Defective x) i n m = refuses (negs.Defective x) (λ e. cc) i n
      by negs.Rejected i n m = refuses negs.Rejected (λ e. cc) i n
      by negs.MechNotMine i n m = refuses negs.MechNotMine (λ e. cc) i n
      by negs.NoCommonMech i n m = refuses negs.NoCommonMech (λ e. cc) i n
      by negs.MicMissing i n m = refuses negs.MicMissing (λ e. cc) i n
      by negs.MicBad i n m = refuses negs.MicBad (λ e. cc) i n
      by (negs.Mech x) i n m = refuses (negs.Mech x) (λ e. cc) i n

-- a judgement of a reply is no fault of the post
pub no-fault : {T A : Type 0} (refusal : PostRefusal) (why : ClientRefusal) (answer : Result A ClientRefusal) → client_refusal refusal ≡ why → (why ≢ clients.NoMemory → answer ≡ Err why) → Judged answer → IsErrOf {T = T} {E = PostRefusal} (Err refusal) refusals.PostFault → ⊥
no-fault {T} {A} refusal why answer is g j e =
    let p : refusal ≡ refusals.PostFault = cc in
    let w : why ≡ clients.LinkFault = sym is ∙ ap client_refusal p in
    let a : answer ≡ Err why = g (λ f. let c : clients.LinkFault ≡ clients.NoMemory = sym w ∙ f in cc) in
    subst (λ (r : Result A ClientRefusal). Judged r) (a ∙ ap (λ (d : ClientRefusal). Err d) w) j
