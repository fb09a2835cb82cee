-- An honest call that comes first is taken.
use Rattle.std.proofs.Common.{◌≡◌, ◌⊎◌, inl, inr, ℕ, true, refl, sym, ◌∙◌, ap, subst, arith, List, ◌∷◌, length, Option, Some, None, Result, Ok, Err, is_ok}
use Rattle.std.proofs.lemmas.Option.{none-some}
use Rattle.sha1.specs.Sha1.{sha1}
use Rattle.accept_core.specs.declared.answer.AdmitRefusal.{AdmitRefusal}
use Rattle.accept_book.specs.declared.book_answer.Lease.{Lease}
use Rattle.accept_book.specs.declared.book_answer.Admitted.{Admitted}
use Rattle.accept_core.specs.declared.entry.Receipt.{Receipt}
use Rattle.accept_core.specs.declared.entry.Entry.{Entry}
use Rattle.accept_core.specs.declared.entry.Entry.TheVariants.{Call}
use Rattle.accept_core.specs.Answers.{or_refused, after}
use Rattle.accept_book.specs.Booking.{BookOf, lease_refused}
use Rattle.accept_book.specs.BookAnswers.{BookAdmitted}
use Rattle.accept_book.specs.Honest.{HonestLaw, HonestRuled, IsDone}
use Rattle.rpc_msgs.specs.Replies.{ReplyValue, reply_octets}
use Rattle.rpcsec_bodies.specs.declared.service.Service.{Service}
use Rattle.rpcsec_bodies.specs.Service.{service_of}
use Rattle.rpc_program.specs.Programs.{result_in}
use Rattle.rpc_program.specs.declared.outcome.Outcome.{Outcome}
use Rattle.rpc_program.specs.declared.outcome.Outcome.TheVariants as outcomes
use Rattle.accept_book.specs.RecordShown.{KeptAnswers, Question, Negotiate, Look, Admit, End, Asked, AskedStep, AskedLook, AskedAdmit, AskedEnd, with_ok, booked, Ruling}
use Rattle.accept_book.specs.RecordRule.{record_ruling}
use Rattle.gss_server.specs.Asking.{BookAnswers}
use Rattle.world_laws.specs.declared.event.Happened.{Happened}
use Rattle.world_laws.specs.declared.event.Happened.TheVariants.{Sent, Completed, Stepped, Refused, Nothing}
use Rattle.world_laws.specs.Deeds.{Deed}
use Rattle.world_laws.specs.State.{InHand, World}
use Rattle.world_laws.specs.Lanes.{question_of, ruling_of, hand_after, IsAnswer, Follows, AnswersAtOnce, Asks, LaneMoves}
use Rattle.world_laws.specs.Events.{LanesBy}
use Rattle.world_laws.specs.Arrival.{Arrives, IsEnded, IsTaken, TakesInHand}
use Rattle.world_laws.proofs.Undecided.{undecided, few-asked, unanswered}

-- ---- the question is the admission

-- what a book has of an answer
abbrev receipted : Result Admitted AdmitRefusal → Result Receipt AdmitRefusal
receipted answer = with_ok (λ (admitted : Admitted). admitted.receipt) answer

-- what a book may answer to an admission
abbrev AdmitAnswers : BookOf → BookOf → Result Receipt AdmitRefusal → Question → Type 0
AdmitAnswers old new answer (Negotiate id token now draws) = Unit {0}
AdmitAnswers old new answer (Look id now) = Unit {0}
AdmitAnswers old new answer (Admit lease seq service procedure args) = BookAdmitted old new lease seq procedure (sha1 args) answer
AdmitAnswers old new answer (End lease seq) = Unit {0}

-- the answer to the admission that was due, and the record with it
record Answered (old new : BookOf) (hand : InHand) (lease : Lease) (n procedure : ℕ) (args : List ℕ) (asked : Asked Admitted) : Type 0 where
  answer : Result Admitted AdmitRefusal
  admits : BookAdmitted old new lease n procedure (sha1 args) (receipted answer)
  kept : (hand_after hand asked).kept.admitted ≡ Some answer
  looked : (hand_after hand asked).kept.looked ≡ hand.kept.looked
  octets : (hand_after hand asked).octets ≡ hand.octets

same-question : (a b : Question) → Some a ≡ Some b → a ≡ b
same-question a b e = cc

answered : (old new : BookOf) (hand : InHand) (lease : Lease) (n : ℕ) (service : Service) (procedure : ℕ) (args : List ℕ) (asked : Asked Admitted) → Some (question_of asked) ≡ Some (Admit lease n service procedure args)
    → BookAnswers old (booked asked) new → Answered old new hand lease n procedure args asked
answered old new hand lease n service procedure args (AskedStep id token now draws answer) e b = absurd cc
answered old new hand lease n service procedure args (AskedLook id now answer) e b = absurd cc
answered old new hand lease n service procedure args (AskedAdmit l s v p ds answer) e b = record {
  answer = answer;
  admits = subst (AdmitAnswers old new (receipted answer)) (same-question (Admit l s v p ds) (Admit lease n service procedure args) e) b;
  kept = refl;
  looked = refl;
  octets = refl;
}
answered old new hand lease n service procedure args (AskedEnd l s answer) e b = absurd cc

-- ---- the book admits it

unrefused : (r : Option AdmitRefusal) (x : Receipt) (result : Result Receipt AdmitRefusal) → result ≡ or_refused r x → is_ok result ≡ true → r ≡ None
unrefused None x result e ok = refl
unrefused (Some refusal) x result e ok = absurd (let bad : is_ok (or_refused (Some refusal) x) ≡ true = ap is_ok (sym e) ∙ ok in cc)

logged : (r : Option AdmitRefusal) (entry : Entry) (h new : List Entry) → r ≡ None → new ≡ after r entry h → new ≡ entry ∷ h
logged None entry h new none is = is
logged (Some refusal) entry h new none is = absurd cc

record IsOkWith (result : Result Admitted AdmitRefusal) : Type 0 where
  admitted : Admitted
  is : result ≡ Ok admitted

ok-with : (result : Result Admitted AdmitRefusal) → is_ok (receipted result) ≡ true → IsOkWith result
ok-with (Ok admitted) e = record { admitted = admitted; is = refl }
ok-with (Err refusal) e = absurd cc

-- ---- the reply

replied : (r : Ruling) (octets : List ℕ) → r.reply ≡ Some octets → (answer : Option Happened) → IsAnswer r answer → (answer ≡ None) ⊎ IsEnded answer
replied r octets e None is = inl refl
replied r octets e (Some (Sent reply)) is = inr (inl (reply, refl))
replied r octets e (Some (Stepped rule)) is = absurd (none-some octets (sym is.0 ∙ e))
replied r octets e (Some (Completed outcome)) is = absurd is
replied r octets e (Some Refused) is = absurd is
replied r octets e (Some Nothing) is = absurd is

lost : (r : Ruling) → r.rule ≡ 25 → r.reply ≡ None → (answer : Option Happened) → IsAnswer r answer → (answer ≡ None) ⊎ IsEnded answer
lost r rule none None is = inl refl
lost r rule none (Some (Sent reply)) is = absurd (none-some reply (sym none ∙ is.0))
lost r rule none (Some (Stepped number)) is = inr (inr (ap (λ (n : ℕ). Some (Stepped n)) (is.1 ∙ rule)))
lost r rule none (Some (Completed outcome)) is = absurd is
lost r rule none (Some Refused) is = absurd is
lost r rule none (Some Nothing) is = absurd is

-- ---- the event

taken-by : (lease : Lease) → HonestLaw lease → (old : World) (lane n procedure : ℕ) (args : List ℕ) (deed : Deed) (new : World) → (a : Arrives old lane lease n procedure args) → LaneMoves old lane a.hand deed new
    → (deed.answer ≡ None) ⊎ IsTaken old deed new lease n procedure args
taken-by lease law old lane n procedure args deed new a moves = by moves
  where
    service : Service
    service = service_of a.honest.cred.service

    due : (ruling_of old.serves a.hand).due ≡ Some (Admit lease n service procedure args)
    due = (law a.hand.octets a.hand.kept old.serves n procedure args a.honest lease.id a.handle a.looked).due a.unasked

    at-once : AnswersAtOnce old lane a.hand deed new → (deed.answer ≡ None) ⊎ IsTaken old deed new lease n procedure args
    at-once o = inl (unanswered (ruling_of old.serves a.hand) deed.answer (undecided a.hand.octets a.hand.kept old.serves (Admit lease n service procedure args) due) o.answer)

    -- the ruling with the answer
    ruled : (kept : KeptAnswers) → kept.looked ≡ Some (Ok lease) → HonestRuled a.hand.octets kept old.serves lease n procedure args a.honest.call a.honest.cred lease.id
    ruled kept looked = law a.hand.octets kept old.serves n procedure args a.honest lease.id a.handle looked

    done : (kept : KeptAnswers) (reply : ReplyValue) → IsDone (record_ruling a.hand.octets kept old.serves) reply → IsAnswer (record_ruling a.hand.octets kept old.serves) deed.answer → (deed.answer ≡ None) ⊎ IsEnded deed.answer
    done kept reply d answer = replied (record_ruling a.hand.octets kept old.serves) (reply_octets reply) d.replied deed.answer answer

    -- by what became of the call
    ended : (kept : KeptAnswers) → HonestRuled a.hand.octets kept old.serves lease n procedure args a.honest.call a.honest.cred lease.id → (admitted : Admitted) → kept.admitted ≡ Some (Ok admitted)
        → IsAnswer (record_ruling a.hand.octets kept old.serves) deed.answer → (o : Outcome) → admitted.outcome ≡ o → (deed.answer ≡ None) ⊎ IsEnded deed.answer
    ended kept r admitted is answer outcomes.Args e = done kept _ (r.done admitted args is (ap (result_in args) e)) answer
    ended kept r admitted is answer (outcomes.Done result) e = done kept _ (r.done admitted result is (ap (result_in args) e)) answer
    ended kept r admitted is answer (outcomes.Refused why) e = done kept _ (r.unserved admitted why is e) answer
    ended kept r admitted is answer (outcomes.Mismatch low high) e = done kept _ (r.mismatch admitted low high is e) answer
    ended kept r admitted is answer outcomes.Gone e =
        let l = r.lost admitted is e in
        lost (record_ruling a.hand.octets kept old.serves) l.0 l.1 deed.answer answer
    ended kept r admitted is answer outcomes.NoMemory e = inl (unanswered (record_ruling a.hand.octets kept old.serves) deed.answer (r.memory admitted is e) answer)

    finish : (result : Result Admitted AdmitRefusal) (w : IsOkWith result) (b : BookAdmitted old.book new.book lease n procedure (sha1 args) (receipted result)) (kept : KeptAnswers) → kept.looked ≡ Some (Ok lease)
        → kept.admitted ≡ Some result → (left : Option InHand) → Follows old.serves (record { octets = a.hand.octets; kept = kept }) deed.answer left → (deed.answer ≡ None) ⊎ IsTaken old deed new lease n procedure args
    finish result w b kept looked admitted left (inl more) =
        let few = few-asked a.hand.octets kept old.serves more.0 more.1 in
        let two = ap length ((ruled kept looked).asked result admitted) in
        absurd (omega (arith, few, two))
    finish result w b kept looked admitted left (inr answer) = elim (ended kept (ruled kept looked) w.admitted (admitted ∙ ap Some w.is) answer.0 w.admitted.outcome refl) [
      | inl none ↦ inl none
      | inr told ↦ inr (record {
        answered = told;
        logged = logged (lease_refused old.book.core lease n) (Call lease.id n procedure (sha1 args)) old.book.core.history new.book.core.history
            (unrefused (lease_refused old.book.core lease n) _ (receipted result) b.answer (ap (λ (r : Result Admitted AdmitRefusal). is_ok (receipted r)) w.is)) b.history;
      })
    ]

    asks : Asks old lane a.hand deed new → (deed.answer ≡ None) ⊎ IsTaken old deed new lease n procedure args
    asks q =
        let r = answered old.book new.book a.hand lease n service procedure args q.asked (sym q.due ∙ due) q.answers in
        finish r.answer (ok-with r.answer (r.admits.exactly.1 a.free)) r.admits (hand_after a.hand q.asked).kept (r.looked ∙ a.looked) r.kept q.left q.follows

    by : LaneMoves old lane a.hand deed new → (deed.answer ≡ None) ⊎ IsTaken old deed new lease n procedure args
    by (inl o) = at-once o
    by (inr q) = asks q

pub arrival : (lease : Lease) → HonestLaw lease → TakesInHand lease
arrival lease law old lane n procedure args octets now draws deed new a happens =
    taken-by lease law old lane n procedure args deed new a (subst (λ hand. LanesBy old lane octets now draws hand deed new) a.there happens.did)
