-- What each call in the log, and each end by a call, rests on: a record that was read, and what was found verified in it.
use Rattle.std.proofs.Common.{◌≡◌, ◌⊎◌, inl, inr, ℕ, ◌==◌, Bool, true, false, refl, sym, ◌∙◌, ap, subst, List, [], ◌∷◌, ◌++◌, map, max, slice_get, Option, Some, None, Result, Ok, Err}
use Rattle.std.specs.Prelude.{if◌then◌else◌}
use Rattle.std.proofs.lemmas.Option.{none-some}
use Rattle.krb_derive.specs.declared.key.Key.{Key}
use Rattle.krb_derive.specs.declared.sealing.OpenRefusal.{OpenRefusal}
use Rattle.krb_derive.specs.Making.{Making, found_in}
use Rattle.krb_derive.specs.Sealing.{opened}
use Rattle.krb_tokens.specs.declared.end.TokenEnd.{TokenEnd}
use Rattle.krb_tokens.specs.declared.end.TokenRefusal.{TokenRefusal}
use Rattle.krb_tokens.specs.declared.wrap.Unwrapped.{Unwrapped}
use Rattle.krb_tokens.specs.End.{other_side, seal_usage}
use Rattle.krb_tokens.specs.Mic.{checked_mic}
use Rattle.krb_tokens.specs.Wrap.{unwrapped, body_of}
use Rattle.krb_tokens.specs.Makings.{found_of_mic, found_of_content, found_of_wrap}
use Rattle.rpc_msgs.specs.Calls.{CallValue}
use Rattle.rpc_msgs.specs.declared.xdr_reader.XdrRefusal.{XdrRefusal}
use Rattle.rpcsec_msgs.specs.Bodies.{checked_at, sealed_at}
use Rattle.rpcsec_msgs.specs.Cred.{CredValue}
use Rattle.sha1.specs.Sha1.{sha1}
use Rattle.rpc_program.specs.Programs.{Serving}
use Rattle.scram_mech.specs.MechMaking.{OfType, MechMaking, AmongMakings, typed}
use Rattle.accept_core.specs.Stepping.{IsNext}
use Rattle.accept_book.specs.declared.book_answer.Lease.{Lease}
use Rattle.accept_core.specs.declared.entry.EndCause.TheVariants.{Destroyed}
use Rattle.accept_core.specs.declared.entry.Entry.TheVariants.{Call, Ended}
use Rattle.accept_book.specs.Booking.{lease_refused}
use Rattle.accept_core.specs.History.{entry_at}
use Rattle.accept_book.specs.declared.book_answer.Admitted.{Admitted}
use Rattle.accept_book.specs.RecordShown.{KeptAnswers, Admit, End, Asked, booked, AskedStep, AskedLook, AskedAdmit, AskedEnd, end_of}
use Rattle.world_laws.specs.declared.event.WorldEvent.{WorldEvent}
use Rattle.world_laws.specs.Deeds.{Deed}
use Rattle.world_laws.specs.State.{InHand, Context, World}
use Rattle.gss_server.specs.Asking.{BookAnswers}
use Rattle.told_apart.specs.Apart.{IsApart}
use Rattle.world_laws.specs.Lanes.{in_hand, ruling_of, question_of, secure_call_in, found_by, found_in_checked, found_in_sealed, found_in_body, found_in_header, found_in_call, found_in_end, Asks}
use Rattle.world_laws.specs.Events.{Happens, Begins}
use Rattle.world_laws.specs.Premises.{Marking, GuardedBasis, Guarded, WasMade, Unforged}
use Rattle.world_laws.proofs.Invariants.{FixedAs, Held}
use Rattle.world_laws.proofs.Happening.{Came, Idling, Moving, Laning, came}
use Rattle.world_laws.proofs.Growing.{Grows, grows, asks-past, fixed-grow, was-made-grows}
use Rattle.world_laws.proofs.Due.{Admitting, Ending, due-says}
use Rattle.world_laws.proofs.OriginDue.{admits-data}
use Rattle.world_laws.proofs.OriginLog.{Silent, silent-same, silent-stepped, entry-cases, taken-is}

-- ---- what is found in a record is under the lease's key

among-split : (front back : List Making) (m : MechMaking) → AmongMakings (map typed (front ++ back)) m → AmongMakings (map typed front) m ⊎ AmongMakings (map typed back) m
among-split [] back m a = inr a
among-split (x ∷ front) back m (inl e) = inl (inl e)
among-split (x ∷ front) back m (inr a) = elim (among-split front back m a) [ inl b ↦ inl (inr b) | inr b ↦ inr b ]

abbrev Under : Key → List Making → Type 0
Under key makings = (m : MechMaking) → AmongMakings (map typed makings) m → m.key ≡ OfType key

under-none : (key : Key) → Under key []
under-none key = λ m a. absurd a

under-one : (key : Key) (x : Making) → x.key ≡ key → Under key (x ∷ [])
under-one key x e = λ m a. one m a
  where
    one : (m : MechMaking) → AmongMakings (map typed (x ∷ [])) m → m.key ≡ OfType key
    one m (inl same) = ap (λ (k : MechMaking). k.key) same ∙ ap OfType e
    one m (inr none) = absurd none

under-both : (key : Key) (front back : List Making) → Under key front → Under key back → Under key (front ++ back)
under-both key front back p q = λ m a. elim (among-split front back m a) [ inl b ↦ p m b | inr b ↦ q m b ]

under-mic : (end : TokenEnd) (token octets : List ℕ) (r : Result (Unit {0}) TokenRefusal) → Under end.key (found_of_mic end token octets r)
under-mic end token octets (Ok done) = under-one end.key _ refl
under-mic end token octets (Err refusal) = under-none end.key

under-opened : (key : Key) (usage : ℕ) (r : Result (List ℕ) OpenRefusal) → Under key (found_in key usage r)
under-opened key usage (Ok octets) = under-one key _ refl
under-opened key usage (Err refusal) = under-none key

under-content : (end : TokenEnd) (token : List ℕ) (sealed : Bool) (content : List ℕ) → Under end.key (found_of_content end token sealed content)
under-content end token true content = under-opened end.key (seal_usage (other_side end.side)) (opened end.key (seal_usage (other_side end.side)) (body_of token))
under-content end token false content = under-one end.key _ refl

under-wrap : (end : TokenEnd) (token : List ℕ) (r : Result Unwrapped TokenRefusal) → Under end.key (found_of_wrap end token r)
under-wrap end token (Ok value) = under-content end token value.sealed value.content
under-wrap end token (Err refusal) = under-none end.key

under-header : (end : TokenEnd) (octets : List ℕ) (call : CallValue) → Under end.key (found_in_header end octets call)
under-header end octets call = under-mic end call.verf.body _ (checked_mic end call.verf.body _)

under-checked : (end : TokenEnd) (r : Result (List ℕ × List ℕ) XdrRefusal) → Under end.key (found_in_checked end r)
under-checked end (Ok body) = under-mic end body.1 body.0 (checked_mic end body.1 body.0)
under-checked end (Err refusal) = under-none end.key

under-sealed : (end : TokenEnd) (r : Result (List ℕ) XdrRefusal) → Under end.key (found_in_sealed end r)
under-sealed end (Ok token) = under-wrap end token (unwrapped end token)
under-sealed end (Err refusal) = under-none end.key

under-if : (key : Key) (b : Bool) (x y : List Making) → Under key x → Under key y → Under key (if b then x else y)
under-if key true x y p q = p
under-if key false x y p q = q

under-body : (end : TokenEnd) (service : ℕ) (body : List ℕ) → Under end.key (found_in_body end service body)
under-body end service body =
    under-if end.key (service == 2) _ _ (under-checked end (checked_at body)) (under-if end.key (service == 3) _ _ (under-sealed end (sealed_at body)) (under-none end.key))

under-call : (lease : Lease) (octets : List ℕ) (said : Option (CallValue × CredValue)) → Under lease.outcome.key (found_in_call lease octets said)
under-call lease octets None = under-none lease.outcome.key
under-call lease octets (Some said) =
    under-both lease.outcome.key _ _ (under-header (end_of lease) octets said.0) (under-body (end_of lease) said.1.service said.0.args)

under-end : (lease : Lease) (octets : List ℕ) (said : Option (CallValue × CredValue)) → Under lease.outcome.key (found_in_end lease octets said)
under-end lease octets None = under-none lease.outcome.key
under-end lease octets (Some said) = under-header (end_of lease) octets said.0

-- ---- the evidence

-- the context of a lease, and what was found in a record under its key
pub record Backed (marking : Marking) (w : World) (id : ℕ) (lease : Lease) (found : List Making) : Type 0 where
  pub place : ℕ
  pub context : Context
  pub there : slice_get w.fixed place ≡ Some context
  pub id_is : context.id ≡ id
  pub outcome_is : context.fixed.outcome ≡ lease.outcome
  pub made : GuardedBasis marking context.fixed.basis → (m : MechMaking) → AmongMakings (map typed found) m → WasMade w m

pub record CallBacked (marking : Marking) (w : World) (id seq procedure : ℕ) (digest : List ℕ) : Type 0 where
  pub octets : List ℕ
  pub kept : KeptAnswers
  pub lease : Lease
  pub serves : Serving
  pub apart : IsApart serves.program
  pub said : List ℕ
  pub digest_is : digest ≡ sha1 said
  pub due : Admitting octets kept serves lease seq procedure said
  pub of_data : (due.cred.proc == 0) ≡ true
  pub backed : Backed marking w id lease (found_in_call lease octets (secure_call_in octets))

pub record EndBacked (marking : Marking) (w : World) (id seq : ℕ) : Type 0 where
  pub octets : List ℕ
  pub kept : KeptAnswers
  pub lease : Lease
  pub serves : Serving
  pub due : Ending octets kept serves lease seq
  pub backed : Backed marking w id lease (found_in_end lease octets (secure_call_in octets))

pub record Evidence (marking : Marking) (w : World) : Type 0 where
  pub calls : (place id seq procedure : ℕ) (digest : List ℕ) → entry_at place w.book.core.history ≡ Some (Call id seq procedure digest) → CallBacked marking w id seq procedure digest
  pub ends : (place id seq : ℕ) → entry_at place w.book.core.history ≡ Some (Ended id (Destroyed seq)) → EndBacked marking w id seq

backed-on : (marking : Marking) (old new : World) (id : ℕ) (lease : Lease) (found : List Making) → Grows old new → Backed marking old id lease found → Backed marking new id lease found
backed-on marking old new id lease found g b = record {
  place = b.place;
  context = b.context;
  there = fixed-grow old new b.place b.context g b.there;
  id_is = b.id_is;
  outcome_is = b.outcome_is;
  made = λ guarded m a. was-made-grows old new m g (b.made guarded m a);
}

call-on : (marking : Marking) (old new : World) (id seq procedure : ℕ) (digest : List ℕ) → Grows old new → CallBacked marking old id seq procedure digest → CallBacked marking new id seq procedure digest
call-on marking old new id seq procedure digest g c =
    record { octets = c.octets; kept = c.kept; lease = c.lease; serves = c.serves; apart = c.apart; said = c.said; digest_is = c.digest_is; due = c.due; of_data = c.of_data; backed = backed-on marking old new id c.lease _ g c.backed }

end-on : (marking : Marking) (old new : World) (id seq : ℕ) → Grows old new → EndBacked marking old id seq → EndBacked marking new id seq
end-on marking old new id seq g c = record { octets = c.octets; kept = c.kept; lease = c.lease; serves = c.serves; due = c.due; backed = backed-on marking old new id c.lease _ g c.backed }

-- ---- at the start

pub evidence-start : (marking : Marking) (w : World) → Begins w → Evidence marking w
evidence-start marking w b = record {
  calls = λ place id seq procedure digest e. absurd (none-some (Call id seq procedure digest) (subst (λ h. entry_at place h ≡ Some (Call id seq procedure digest)) b.empty e));
  ends = λ place id seq e. absurd (none-some (Ended id (Destroyed seq)) (subst (λ h. entry_at place h ≡ Some (Ended id (Destroyed seq))) b.empty e));
}

-- ---- an event that adds no call

silent-evidence : (marking : Marking) (old new : World) → Grows old new → Silent old.book.core.history new.book.core.history → Evidence marking old → Evidence marking new
silent-evidence marking old new g silent e = record {
  calls = λ place id seq procedure digest at. call-on marking old new id seq procedure digest g (e.calls place id seq procedure digest (silent place (Call id seq procedure digest) at tt));
  ends = λ place id seq at. end-on marking old new id seq g (e.ends place id seq (silent place (Ended id (Destroyed seq)) at tt));
}

-- ---- a question about a lease in hand

-- the lease in hand is of a context that was fixed
lease-fixed : (w : World) (lane : ℕ) (hand : Option InHand) (octets : List ℕ) (now : ℕ) (draws : List ℕ) (lease : Lease) → Held w → slice_get w.lanes lane ≡ Some hand
    → (in_hand hand octets now draws).kept.looked ≡ Some (Ok lease) → FixedAs w lease.id lease.outcome lease.ends
lease-fixed w lane None octets now draws lease held there looked = absurd (none-some (Ok lease) looked)
lease-fixed w lane (Some hand) octets now draws lease held there looked = held.leases lane hand lease there looked

-- what was found under its key was handed out
backs : (marking : Marking) (old new : World) (deed : Deed) (lease : Lease) (found : List Making) → Grows old new → Unforged marking old deed → deed.found ≡ map typed found → Under lease.outcome.key found
    → FixedAs old lease.id lease.outcome lease.ends → Backed marking new lease.id lease found
backs marking old new deed lease found g unforged is under fixed = record {
  place = fixed.place;
  context = fixed.context;
  there = fixed-grow old new fixed.place fixed.context g fixed.there;
  id_is = fixed.id_is;
  outcome_is = fixed.outcome_is;
  made = λ guarded m a. was-made-grows old new m g (unforged.made m (subst (λ (ms : List MechMaking). AmongMakings ms m) (sym is) a)
      (subst (Guarded marking old.fixed) (sym (under m a)) (inr (record {
        context = fixed.context;
        listed = record { place = fixed.place; there = fixed.there };
        guarded = guarded;
        is_key = ap (λ o. o.key) fixed.outcome_is;
      }))));
}

same-call : (id seq procedure : ℕ) (digest : List ℕ) (i s p : ℕ) (d : List ℕ) → Call id seq procedure digest ≡ Call i s p d → (id ≡ i) × (seq ≡ s) × (procedure ≡ p) × (digest ≡ d)
same-call id seq procedure digest i s p d e = (cc, cc, cc, cc)

same-end : (id seq i s : ℕ) → Ended id (Destroyed seq) ≡ Ended i (Destroyed s) → (id ≡ i) × (seq ≡ s)
same-end id seq i s e = (cc, cc)

call-no-end : (id seq procedure : ℕ) (digest : List ℕ) (i s : ℕ) → Call id seq procedure digest ≡ Ended i (Destroyed s) → ⊥
call-no-end id seq procedure digest i s e = absurd cc

call-added : (marking : Marking) (old new : World) (id seq procedure : ℕ) (digest : List ℕ) → Grows old new → new.book.core.history ≡ Call id seq procedure digest ∷ old.book.core.history
    → CallBacked marking new id seq procedure digest → Evidence marking old → Evidence marking new
call-added marking old new id seq procedure digest g is backed e = record {
  calls = λ place i s p d at. by place i s p d (entry-cases (Call id seq procedure digest) old.book.core.history place (Call i s p d) (subst (λ h. entry_at place h ≡ Some (Call i s p d)) is at));
  ends = λ place i s at. last place i s (entry-cases (Call id seq procedure digest) old.book.core.history place (Ended i (Destroyed s)) (subst (λ h. entry_at place h ≡ Some (Ended i (Destroyed s))) is at));
}
  where
    by : (place i s p : ℕ) (d : List ℕ) → (Call id seq procedure digest ≡ Call i s p d) ⊎ (entry_at place old.book.core.history ≡ Some (Call i s p d)) → CallBacked marking new i s p d
    by place i s p d (inl same) = let q = same-call id seq procedure digest i s p d same in
        subst (λ (k : ℕ). CallBacked marking new k s p d) q.0 (subst (λ (k : ℕ). CallBacked marking new id k p d) q.1
        (subst (λ (k : ℕ). CallBacked marking new id seq k d) q.2 (subst (λ (k : List ℕ). CallBacked marking new id seq procedure k) q.3 backed)))
    by place i s p d (inr before) = call-on marking old new i s p d g (e.calls place i s p d before)

    last : (place i s : ℕ) → (Call id seq procedure digest ≡ Ended i (Destroyed s)) ⊎ (entry_at place old.book.core.history ≡ Some (Ended i (Destroyed s))) → EndBacked marking new i s
    last place i s (inl same) = absurd (call-no-end id seq procedure digest i s same)
    last place i s (inr before) = end-on marking old new i s g (e.ends place i s before)

end-added : (marking : Marking) (old new : World) (id seq : ℕ) → Grows old new → new.book.core.history ≡ Ended id (Destroyed seq) ∷ old.book.core.history
    → EndBacked marking new id seq → Evidence marking old → Evidence marking new
end-added marking old new id seq g is backed e = record {
  calls = λ place i s p d at. by place i s p d (entry-cases (Ended id (Destroyed seq)) old.book.core.history place (Call i s p d) (subst (λ h. entry_at place h ≡ Some (Call i s p d)) is at));
  ends = λ place i s at. last place i s (entry-cases (Ended id (Destroyed seq)) old.book.core.history place (Ended i (Destroyed s)) (subst (λ h. entry_at place h ≡ Some (Ended i (Destroyed s))) is at));
}
  where
    by : (place i s p : ℕ) (d : List ℕ) → (Ended id (Destroyed seq) ≡ Call i s p d) ⊎ (entry_at place old.book.core.history ≡ Some (Call i s p d)) → CallBacked marking new i s p d
    by place i s p d (inl same) = absurd (call-no-end i s p d id seq (sym same))
    by place i s p d (inr before) = call-on marking old new i s p d g (e.calls place i s p d before)

    last : (place i s : ℕ) → (Ended id (Destroyed seq) ≡ Ended i (Destroyed s)) ⊎ (entry_at place old.book.core.history ≡ Some (Ended i (Destroyed s))) → EndBacked marking new i s
    last place i s (inl same) = let q = same-end id seq i s same in subst (λ (k : ℕ). EndBacked marking new k s) q.0 (subst (λ (k : ℕ). EndBacked marking new id k) q.1 backed)
    last place i s (inr before) = end-on marking old new i s g (e.ends place i s before)

-- ---- a lane's question, by its answer

asks-evidence : (marking : Marking) (old : World) (lane : ℕ) (hand : Option InHand) (octets : List ℕ) (now : ℕ) (draws : List ℕ) (deed : Deed) (new : World) → IsApart old.serves.program → Held old → Unforged marking old deed → Grows old new
    → slice_get old.lanes lane ≡ Some hand → (a : Asks old lane (in_hand hand octets now draws) deed new) → Evidence marking old → Evidence marking new
asks-evidence marking old lane hand octets now draws deed new apart held unforged g there a e = by a.asked a.due a.answers a.found a.is_past
  where
    own : InHand
    own = in_hand hand octets now draws

    by : (asked : Asked Admitted) → (ruling_of old.serves own).due ≡ Some (question_of asked) → BookAnswers old.book (booked asked) new.book → deed.found ≡ found_by old.book a.past own asked
        → IsNext old.book.core.table (max old.book.core.cache.greatest own.kept.now) a.past → Evidence marking new
    by (AskedStep id token at drawn answer) due answers found is_past =
        silent-evidence marking old new g (silent-stepped old.book new.book id a.past token at drawn answer (asks-past old.serves old.book a.past own (AskedStep id token at drawn answer) due is_past) answers) e
    by (AskedLook id at answer) due answers found is_past = silent-evidence marking old new g (silent-same old.book.core.history new.book.core.history answers.looked.history) e
    by (AskedAdmit lease seq service procedure said (Err refusal)) due answers found is_past =
        silent-evidence marking old new g (silent-same old.book.core.history new.book.core.history (ap (λ b. b.core.history) answers.unchanged)) e
    by (AskedAdmit lease seq service procedure said (Ok admitted)) due answers found is_past =
        let says : Admitting own.octets own.kept old.serves lease seq procedure said = due-says own.octets own.kept old.serves (Admit lease seq service procedure said) due in
        call-added marking old new lease.id seq procedure (sha1 said) g
        (taken-is (lease_refused old.book.core lease seq) _ admitted.receipt (Call lease.id seq procedure (sha1 said)) old.book.core.history new.book.core.history answers.answer answers.history)
        (record {
          octets = own.octets;
          kept = own.kept;
          lease = lease;
          serves = old.serves;
          apart = apart;
          said = said;
          digest_is = refl;
          due = says;
          of_data = admits-data own.octets own.kept old.serves says.call says.cred lease seq service procedure said says.read says.cred_read due;
          backed = backs marking old new deed lease (found_in_call lease own.octets (secure_call_in own.octets)) g unforged found (under-call lease own.octets (secure_call_in own.octets))
              (lease-fixed old lane hand octets now draws lease held there says.looked);
        }) e
    by (AskedEnd lease seq (Err refusal)) due answers found is_past =
        silent-evidence marking old new g (silent-same old.book.core.history new.book.core.history (ap (λ b. b.core.history) answers.unchanged)) e
    by (AskedEnd lease seq (Ok receipt)) due answers found is_past =
        let says : Ending own.octets own.kept old.serves lease seq = due-says own.octets own.kept old.serves (End lease seq) due in
        end-added marking old new lease.id seq g
        (taken-is (lease_refused old.book.core lease seq) _ receipt (Ended lease.id (Destroyed seq)) old.book.core.history new.book.core.history answers.answer answers.history)
        (record {
          octets = own.octets;
          kept = own.kept;
          lease = lease;
          serves = old.serves;
          due = says;
          backed = backs marking old new deed lease (found_in_end lease own.octets (secure_call_in own.octets)) g unforged found (under-end lease own.octets (secure_call_in own.octets))
              (lease-fixed old lane hand octets now draws lease held there says.looked);
        }) e

-- ---- an event

came-evidence : (marking : Marking) (old : World) (deed : Deed) (new : World) → IsApart old.serves.program → Held old → Unforged marking old deed → Grows old new → Came old deed new → Evidence marking old → Evidence marking new
came-evidence marking old deed new apart held unforged g (Idling i) e = silent-evidence marking old new g (silent-same old.book.core.history new.book.core.history (ap (λ (w : World). w.book.core.history) i.1)) e
came-evidence marking old deed new apart held unforged g (Moving i moved move (inl m)) e = silent-evidence marking old new g (silent-same old.book.core.history new.book.core.history (ap (λ (w : World). w.book.core.history) m.1)) e
came-evidence marking old deed new apart held unforged g (Moving i moved move (inr m)) e = silent-evidence marking old new g (silent-same old.book.core.history new.book.core.history (ap (λ (w : World). w.book.core.history) m.1)) e
came-evidence marking old deed new apart held unforged g (Laning lane hand octets now draws there (inl a)) e =
    silent-evidence marking old new g (silent-same old.book.core.history new.book.core.history (ap (λ (w : World). w.book.core.history) a.new_is)) e
came-evidence marking old deed new apart held unforged g (Laning lane hand octets now draws there (inr a)) e = asks-evidence marking old lane hand octets now draws deed new apart held unforged g there a e

pub evidence-step : (marking : Marking) (old : World) (event : WorldEvent) (deed : Deed) (new : World) → IsApart old.serves.program → Held old → Unforged marking old deed → Happens old event deed new → Evidence marking old → Evidence marking new
evidence-step marking old event deed new apart held unforged h e =
    came-evidence marking old deed new apart held unforged (grows old event deed new h) (came old event deed new h) e
