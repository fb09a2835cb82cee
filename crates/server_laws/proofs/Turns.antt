-- A record that a book answered is a turn or two of a lane.
use Rattle.std.proofs.Common.{◌≡◌, ◌∙◌, ◌⊎◌, inl, inr, ℕ, zero, suc, ◌<◌, false, true≢false, refl, ap, sym, subst, arith, List, [], ◌∷◌, length, max, slice_get, slice_set, Option, Some, None, Result}
use Rattle.std.proofs.lemmas.Option.{same_Some}
use Rattle.accept_book.specs.Booking.{BookOf}
use Rattle.accept_core.specs.declared.answer.AdmitRefusal.{AdmitRefusal}
use Rattle.accept_core.specs.declared.answer.LookRefusal.{LookRefusal}
use Rattle.accept_book.specs.declared.book_answer.Lease.{Lease}
use Rattle.accept_book.specs.declared.book_answer.Negotiated.{Negotiated}
use Rattle.accept_book.specs.declared.book_answer.Admitted.{Admitted}
use Rattle.rpc_program.specs.Programs.{Serving}
use Rattle.rpcsec_bodies.specs.declared.service.Service.{Service}
use Rattle.accept_core.specs.declared.entry.Receipt.{Receipt}
use Rattle.accept_book.specs.RecordShown.{KeptAnswers, Question, Negotiate, Look, Admit, End, Asked, AskedStep, AskedLook, AskedAdmit, AskedEnd, booked, Ruling, decided}
use Rattle.accept_book.specs.RecordRule.{record_ruling}
use Rattle.gss_server.specs.Answers.{may_wait}
use Rattle.gss_server.specs.Asking.{Asking, BookAnswers}
use Rattle.world_laws.specs.declared.event.Happened.{Happened}
use Rattle.world_laws.specs.declared.event.Happened.TheVariants.{Sent, Stepped}
use Rattle.world_laws.specs.declared.event.WorldEvent.TheVariants.{Lane}
use Rattle.std.specs.List.{AllByRecursion}
use Rattle.gss_server.specs.Hearing.{serving}
use Rattle.world_laws.specs.Apart.{ToldApart}
use Rattle.world_laws.specs.Deeds.{Deed}
use Rattle.world_laws.specs.Events.{IsBook, LanesBy, Happens}
use Rattle.world_laws.specs.Lanes.{in_hand, question_of, ruling_of, hand_after, IsAnswer, with_lane, LaneMoves}
use Rattle.world_laws.specs.State.{InHand, World}
use Rattle.world_runs.specs.Turning.{AtOnce, ByBook, Turned}
use Rattle.world_runs.proofs.LaneTurns.{hand_with, lane-moved}
use Rattle.accept_core.proofs.Nexts.{next-of}
use Rattle.world_laws.proofs.RulingPlan.{Late, Rules, Admits, Ends, Plan, Decides, Steps, Looks, Decision, Ruled, ruled, plan_by, late_by, rulings, record-planned}
use Rattle.world_laws.proofs.Slices.{set-same}
use Rattle.server_laws.specs.Beside.{asked_in}
use Rattle.server_laws.specs.Served.{LegalAnswers, IsOver, Answered, Serves, ruling_at}
use Rattle.server_seating.proofs.Heard.{Heard, AllHear, none-heard}
use Rattle.server_laws.proofs.Widths.{same-asked, same-over}

-- a rule where the book answered a question, behind what a look was answered before
abbrev ruling_after : Ruled → Option (Result Lease LookRefusal) → Asked Admitted → Ruling
ruling_after f looked (AskedStep id token now draws answer) = f (Some answer) looked None None
ruling_after f looked (AskedLook id now answer) = f None (Some answer) None None
ruling_after f looked (AskedAdmit lease seq service procedure args answer) = f None looked (Some answer) None
ruling_after f looked (AskedEnd lease seq answer) = f None looked None (Some answer)

-- ---- one question, or none

-- what is answered to a record that is over
answer-of : (r : Ruling) → IsOver r → (answer : Option Happened) × IsAnswer r answer
answer-of r (inl decided) = go r.reply refl
  where
    go : (reply : Option (List ℕ)) → r.reply ≡ reply → (answer : Option Happened) × IsAnswer r answer
    go None e = (Some (Stepped r.rule), (e, refl, decided))
    go (Some octets) e = (Some (Sent octets), (e, decided))
answer-of r (inr wanted) = (None, wanted)

-- nothing is over while another question than an admission is due
waits-on : (question : Question) (asked : List (Asked Admitted)) → may_wait (Some question) ≡ false → IsOver (record { rule = 0; reply = None; asked = asked; due = Some question }) → ⊥
waits-on question asked e (inl decided) = let bad : 0 < 0 = decided in absurd (omega (arith, bad))
waits-on question asked e (inr wanted) = true≢false (sym wanted ∙ e)

-- the rulings of a record by four answers
abbrev told : Serving → List ℕ → ℕ → List ℕ → Ruled
told serves octets now draws = rulings octets now draws serves

at-once : (serves : Serving) (book : BookOf) (octets : List ℕ) (now : ℕ) (draws : List ℕ) (answer : Option Happened) → IsAnswer (told serves octets now draws None None None None) answer
    → AtOnce serves book (hand_with octets now draws None) book None answer
at-once serves book octets now draws answer is = record { answers = is; unchanged = refl; nothing = refl }

-- a turn in which the book is asked this question
abbrev pub Taken : Serving → BookOf → InHand → BookOf → Option InHand → Option Happened → Asked Admitted → Type 0
Taken serves old hand new left answer one = (turn : ByBook serves old hand new left answer) × (turn.asked ≡ one)

after-is : (serves : Serving) (octets : List ℕ) (now : ℕ) (draws : List ℕ) (looked : Option (Result Lease LookRefusal)) (asked : Asked Admitted)
    → ruling_after (told serves octets now draws) looked asked ≡ ruling_of serves (hand_after (hand_with octets now draws looked) asked)
after-is serves octets now draws looked (AskedStep id token moment drawn answer) = refl
after-is serves octets now draws looked (AskedLook id moment answer) = refl
after-is serves octets now draws looked (AskedAdmit lease seq service procedure args answer) = refl
after-is serves octets now draws looked (AskedEnd lease seq answer) = refl

one-asked : (serves : Serving) (book new : BookOf) (octets : List ℕ) (now : ℕ) (draws : List ℕ) (looked : Option (Result Lease LookRefusal)) (one : Asked Admitted) (answer : Option Happened) → ToldApart one
    → (told serves octets now draws None looked None None).due ≡ Some (question_of one) → BookAnswers book (booked one) new → IsAnswer (ruling_after (told serves octets now draws) looked one) answer
    → Taken serves book (hand_with octets now draws looked) new None answer one
one-asked serves book new octets now draws looked one answer apart due answers is =
    let past = next-of book.core.table (max book.core.cache.greatest now) in (
      record {
        asked = one;
        due = due;
        past = past.0;
        is_past = past.1;
        answers = answers;
        told = apart;
        follows = inr (subst (λ (r : Ruling). IsAnswer r answer) (after-is serves octets now draws looked one) is, refl);
      },
      refl,
    )

look-asked : (serves : Serving) (book new : BookOf) (octets : List ℕ) (now : ℕ) (draws : List ℕ) (id at : ℕ) (answer : Result Lease LookRefusal) (question : Question)
    → (told serves octets now draws None None None None).due ≡ Some (Look id at) → BookAnswers book (AskedLook id at answer) new
    → (told serves octets now draws None (Some answer) None None).due ≡ Some question
    → Taken serves book (hand_with octets now draws None) new (Some (hand_with octets now draws (Some answer))) (Some (Stepped 0)) (AskedLook id at answer)
look-asked serves book new octets now draws id at answer question due answers next =
    let past = next-of book.core.table (max book.core.cache.greatest now) in
    (record { asked = AskedLook id at answer; due = due; past = past.0; is_past = past.1; answers = answers; told = tt; follows = inl (question, next, refl, refl) }, refl)

-- ---- what a record asks, whatever the book is

-- nothing: it is answered at once
pub record AsksNone (serves : Serving) (octets : List ℕ) (now : ℕ) (draws : List ℕ) (asked : List (Asked Admitted)) : Type 0 where
  pub none : asked ≡ []
  pub answer : Option Happened
  pub turned : (book : BookOf) → AtOnce serves book (hand_with octets now draws None) book None answer

-- one question, with whose answer it is answered
pub record AsksOne (serves : Serving) (octets : List ℕ) (now : ℕ) (draws : List ℕ) (asked : List (Asked Admitted)) : Type 0 where
  pub one : Asked Admitted
  pub only : asked ≡ one ∷ []
  pub answer : Option Happened
  pub turned : (old new : BookOf) → BookAnswers old (booked one) new → Taken serves old (hand_with octets now draws None) new None answer one

-- the second of two questions, behind a look
pub record AsksMore (serves : Serving) (octets : List ℕ) (now : ℕ) (draws : List ℕ) (looked : Option (Result Lease LookRefusal)) (one : Asked Admitted) : Type 0 where
  pub answer : Option Happened
  pub turned : (old new : BookOf) → BookAnswers old (booked one) new → Taken serves old (hand_with octets now draws looked) new None answer one

-- a look, and one more question
pub record AsksTwo (serves : Serving) (octets : List ℕ) (now : ℕ) (draws : List ℕ) (asked : List (Asked Admitted)) : Type 0 where
  pub look : Asked Admitted
  pub one : Asked Admitted
  pub both : asked ≡ look ∷ one ∷ []
  pub looked : Option (Result Lease LookRefusal)
  pub first : (old new : BookOf) → BookAnswers old (booked look) new → Taken serves old (hand_with octets now draws None) new (Some (hand_with octets now draws looked)) (Some (Stepped 0)) look
  pub second : AsksMore serves octets now draws looked one

abbrev pub Script : Serving → List ℕ → ℕ → List ℕ → List (Asked Admitted) → Type 0
Script serves octets now draws asked = AsksNone serves octets now draws asked ⊎ (AsksOne serves octets now draws asked ⊎ AsksTwo serves octets now draws asked)

-- what the rulings are
abbrev Is : Serving → List ℕ → ℕ → List ℕ → Plan → Type 0
Is serves octets now draws plan =
    (n : Option Negotiated) (l : Option (Result Lease LookRefusal)) (a : Option (Result Admitted AdmitRefusal)) (e : Option (Result Receipt AdmitRefusal))
    → told serves octets now draws n l a e ≡ plan_by plan n l a e

due-of : (r q : Ruling) (question : Question) → r ≡ q → q.due ≡ Some question → r.due ≡ Some question
due-of r q question is due = ap (λ (x : Ruling). x.due) is ∙ due

one-more : (serves : Serving) (octets : List ℕ) (now : ℕ) (draws : List ℕ) (looked : Option (Result Lease LookRefusal)) (one : Asked Admitted) (r : Ruling)
    → (told serves octets now draws None looked None None).due ≡ Some (question_of one) → ruling_after (told serves octets now draws) looked one ≡ r → IsOver r → ToldApart one
    → AsksMore serves octets now draws looked one
one-more serves octets now draws looked one r due is over apart =
    let a = answer-of r over in
    record {
      answer = a.0;
      turned = λ old new answers. one-asked serves old new octets now draws looked one a.0 apart due answers (subst (λ (x : Ruling). IsAnswer x a.0) (sym is) a.1);
    }

one-script : (serves : Serving) (octets : List ℕ) (now : ℕ) (draws : List ℕ) (one : Asked Admitted) (r : Ruling)
    → (told serves octets now draws None None None None).due ≡ Some (question_of one) → ruling_after (told serves octets now draws) None one ≡ r → IsOver r → ToldApart one
    → Script serves octets now draws (one ∷ [])
one-script serves octets now draws one r due is over apart =
    let m = one-more serves octets now draws None one r due is over apart in
    inr (inl (record { one = one; only = refl; answer = m.answer; turned = m.turned }))

two-script : (serves : Serving) (octets : List ℕ) (now : ℕ) (draws : List ℕ) (id at : ℕ) (looked : Result Lease LookRefusal) (one : Asked Admitted) (r : Ruling)
    → (told serves octets now draws None None None None).due ≡ Some (Look id at) → (told serves octets now draws None (Some looked) None None).due ≡ Some (question_of one)
    → ruling_after (told serves octets now draws) (Some looked) one ≡ r → IsOver r → ToldApart one
    → Script serves octets now draws (AskedLook id at looked ∷ one ∷ [])
two-script serves octets now draws id at looked one r due further is over apart =
    inr (inr (record {
      look = AskedLook id at looked;
      one = one;
      both = refl;
      looked = Some looked;
      first = λ old new answers. look-asked serves old new octets now draws id at looked (question_of one) due answers further;
      second = one-more serves octets now draws (Some looked) one r further is over apart;
    }))

look-script : (serves : Serving) (octets : List ℕ) (now : ℕ) (draws : List ℕ) (id at : ℕ) (by : Result Lease LookRefusal → Late) (looked : Result Lease LookRefusal) (late : Late)
    (a : Option (Result Admitted AdmitRefusal)) (e : Option (Result Receipt AdmitRefusal))
    → Is serves octets now draws (Looks id at by) → by looked ≡ late → IsOver (late_by late a e) → AllByRecursion ToldApart (late_by late a e).asked → Script serves octets now draws (AskedLook id at looked ∷ (late_by late a e).asked)
look-script serves octets now draws id at by looked (Rules d) a e is late over apart =
    one-script serves octets now draws (AskedLook id at looked) _ (due-of _ _ (Look id at) (is None None None None) refl)
    (is None (Some looked) None None ∙ ap (λ (x : Late). plan_by (Looks id at (λ y. x)) None (Some looked) None None) late) over tt
look-script serves octets now draws id at by looked (Admits lease seq service procedure args by2) None e is late over apart =
    one-script serves octets now draws (AskedLook id at looked) _ (due-of _ _ (Look id at) (is None None None None) refl)
    (is None (Some looked) None None ∙ ap (λ (x : Late). plan_by (Looks id at (λ y. x)) None (Some looked) None None) late) over tt
look-script serves octets now draws id at by looked (Admits lease seq service procedure args by2) (Some x) e is late over apart =
    two-script serves octets now draws id at looked (AskedAdmit lease seq service procedure args x) _ (due-of _ _ (Look id at) (is None None None None) refl)
    (due-of _ _ (Admit lease seq service procedure args) (is None (Some looked) None None ∙ ap (λ (y : Late). plan_by (Looks id at (λ z. y)) None (Some looked) None None) late) refl)
    (is None (Some looked) (Some x) None ∙ ap (λ (y : Late). plan_by (Looks id at (λ z. y)) None (Some looked) (Some x) None) late) over apart.0
look-script serves octets now draws id at by looked (Ends lease seq by2) a None is late over apart =
    absurd (waits-on (End lease seq) [] refl over)
look-script serves octets now draws id at by looked (Ends lease seq by2) a (Some x) is late over apart =
    two-script serves octets now draws id at looked (AskedEnd lease seq x) _ (due-of _ _ (Look id at) (is None None None None) refl)
    (due-of _ _ (End lease seq) (is None (Some looked) None None ∙ ap (λ (y : Late). plan_by (Looks id at (λ z. y)) None (Some looked) None None) late) refl)
    (is None (Some looked) None (Some x) ∙ ap (λ (y : Late). plan_by (Looks id at (λ z. y)) None (Some looked) None (Some x)) late) over tt

plan-script : (serves : Serving) (octets : List ℕ) (now : ℕ) (draws : List ℕ) (plan : Plan)
    (n : Option Negotiated) (l : Option (Result Lease LookRefusal)) (a : Option (Result Admitted AdmitRefusal)) (e : Option (Result Receipt AdmitRefusal))
    → Is serves octets now draws plan → IsOver (plan_by plan n l a e) → AllByRecursion ToldApart (plan_by plan n l a e).asked → Script serves octets now draws (plan_by plan n l a e).asked
plan-script serves octets now draws (Decides d) n l a e is over apart =
    let x = answer-of (ruled d) over in
    inl (record { none = refl; answer = x.0; turned = λ book. at-once serves book octets now draws x.0 (subst (λ (r : Ruling). IsAnswer r x.0) (sym (is None None None None)) x.1) })
plan-script serves octets now draws (Steps id token at drawn by) None l a e is over apart = absurd (waits-on (Negotiate id token at drawn) [] refl over)
plan-script serves octets now draws (Steps id token at drawn by) (Some answer) l a e is over apart =
    one-script serves octets now draws (AskedStep id token at drawn answer) _ (due-of _ _ (Negotiate id token at drawn) (is None None None None) refl)
    (is (Some answer) None None None) over tt
plan-script serves octets now draws (Looks id at by) n None a e is over apart = absurd (waits-on (Look id at) [] refl over)
plan-script serves octets now draws (Looks id at by) n (Some looked) a e is over apart = look-script serves octets now draws id at by looked (by looked) a e is refl over apart.1

told-script : (serves : Serving) (octets : List ℕ) (kept : KeptAnswers) → IsOver (record_ruling octets kept serves) → AllByRecursion ToldApart (record_ruling octets kept serves).asked → Script serves octets kept.now kept.draws (record_ruling octets kept serves).asked
told-script serves octets kept over apart =
    let p = record-planned octets kept.now kept.draws serves in
    let is : record_ruling octets kept serves ≡ plan_by p.plan kept.negotiated kept.looked kept.admitted kept.ended = p.is kept.negotiated kept.looked kept.admitted kept.ended in
    subst (λ (r : Ruling). Script serves octets kept.now kept.draws r.asked) (sym is)
    (plan-script serves octets kept.now kept.draws p.plan kept.negotiated kept.looked kept.admitted kept.ended p.is (subst IsOver is over) (subst (λ (r : Ruling). AllByRecursion ToldApart r.asked) is apart))

-- its questions are those of the world's width
pub record-script : (serves : Serving) (width : ℕ) (hand : InHand) → IsOver (ruling_at (serving serves.program width) hand) → AllByRecursion ToldApart (ruling_at (serving serves.program width) hand).asked
    → Script serves hand.octets hand.kept.now hand.kept.draws (ruling_at (serving serves.program width) hand).asked
record-script serves width hand over apart =
    let same = same-asked hand.octets hand.kept serves width in
    subst (λ (xs : List (Asked Admitted)). Script serves hand.octets hand.kept.now hand.kept.draws xs) same
    (told-script serves hand.octets hand.kept (same-over hand.octets hand.kept serves width over) (subst (λ (xs : List (Asked Admitted)). AllByRecursion ToldApart xs) (sym same) apart))

-- ---- what the book was asked where its answers were told otherwise

-- a record over whose question the book decides, or has no memory, is over
over-of : (rule : ℕ) (reply : Option (List ℕ)) → IsOver (decided rule reply)
over-of zero None = inr refl
over-of zero (Some octets) = inr refl
over-of (suc rule) reply = inl (omega arith)

same-look : (first : Asked Admitted) (id now : ℕ) (answer : Result Lease LookRefusal) → Heard first (AskedLook id now answer) → first ≡ AskedLook id now answer
same-look first id now answer (inl same) = sym same
same-look first id now answer (inr held) = absurd (let bad : AskedLook id now answer ≡ AskedStep held.1.id held.1.token held.1.now held.1.draws (record { answer = held.0; receipts = held.1.step.receipts }) = held.1.told in cc)

same-admit : (first : Asked Admitted) (lease : Lease) (seq : ℕ) (service : Service) (procedure : ℕ) (args : List ℕ) (answer : Result Admitted AdmitRefusal) → Heard first (AskedAdmit lease seq service procedure args answer) → first ≡ AskedAdmit lease seq service procedure args answer
same-admit first lease seq service procedure args answer (inl same) = sym same
same-admit first lease seq service procedure args answer (inr held) =
    absurd (let bad : AskedAdmit lease seq service procedure args answer ≡ AskedStep held.1.id held.1.token held.1.now held.1.draws (record { answer = held.0; receipts = held.1.step.receipts }) = held.1.told in cc)

same-end : (first : Asked Admitted) (lease : Lease) (seq : ℕ) (answer : Result Receipt AdmitRefusal) → Heard first (AskedEnd lease seq answer) → first ≡ AskedEnd lease seq answer
same-end first lease seq answer (inl same) = sym same
same-end first lease seq answer (inr held) =
    absurd (let bad : AskedEnd lease seq answer ≡ AskedStep held.1.id held.1.token held.1.now held.1.draws (record { answer = held.0; receipts = held.1.step.receipts }) = held.1.told in cc)

-- the step of the book, where a step was told
record Step (first : Asked Admitted) (id : Option ℕ) (token : List ℕ) (now : ℕ) (draws : List ℕ) : Type 0 where
  answer : Negotiated
  is : first ≡ AskedStep id token now draws answer

step-heard : (first : Asked Admitted) (id : Option ℕ) (token : List ℕ) (now : ℕ) (draws : List ℕ) (answer : Negotiated) → Heard first (AskedStep id token now draws answer) → Step first id token now draws
step-heard first id token now draws answer (inl same) = record { answer = answer; is = sym same }
step-heard first id token now draws answer (inr held) =
    let told : AskedStep id token now draws answer ≡ AskedStep held.1.id held.1.token held.1.now held.1.draws (record { answer = held.0; receipts = held.1.step.receipts }) = held.1.told in
    let asked : first ≡ AskedStep held.1.id held.1.token held.1.now held.1.draws held.1.step = held.1.asked in
    let a : held.1.id ≡ id = cc in
    let b : held.1.token ≡ token = cc in
    let c : held.1.now ≡ now = cc in
    let d : held.1.draws ≡ draws = cc in
    record { answer = held.1.step; is = asked ∙ (λ i. AskedStep (a i) (b i) (c i) (d i) held.1.step) }

late-heard : (late : Late) (a : Option (Result Admitted AdmitRefusal)) (e : Option (Result Receipt AdmitRefusal)) (firsts : List (Asked Admitted)) → AllHear firsts (late_by late a e).asked → firsts ≡ (late_by late a e).asked
late-heard (Rules d) a e firsts h = none-heard firsts h
late-heard (Admits lease seq service procedure args by) None e firsts h = none-heard firsts h
late-heard (Admits lease seq service procedure args by) (Some answer) e [] h = absurd h
late-heard (Admits lease seq service procedure args by) (Some answer) e (first ∷ firsts) h = λ i. same-admit first lease seq service procedure args answer h.0 i ∷ none-heard firsts h.1 i
late-heard (Ends lease seq by) a None firsts h = none-heard firsts h
late-heard (Ends lease seq by) a (Some answer) [] h = absurd h
late-heard (Ends lease seq by) a (Some answer) (first ∷ firsts) h = λ i. same-end first lease seq answer h.0 i ∷ none-heard firsts h.1 i

look-heard : (id at : ℕ) (by : Result Lease LookRefusal → Late) (l : Option (Result Lease LookRefusal)) (a : Option (Result Admitted AdmitRefusal)) (e : Option (Result Receipt AdmitRefusal)) (firsts : List (Asked Admitted))
    → AllHear firsts (plan_by (Looks id at by) None l a e).asked → firsts ≡ (plan_by (Looks id at by) None l a e).asked
look-heard id at by None a e firsts h = none-heard firsts h
look-heard id at by (Some looked) a e [] h = absurd h
look-heard id at by (Some looked) a e (first ∷ firsts) h = λ i. same-look first id at looked h.0 i ∷ late-heard (by looked) a e firsts h.1 i

step-script : (serves : Serving) (octets : List ℕ) (now : ℕ) (draws : List ℕ) (id : Option ℕ) (token : List ℕ) (at : ℕ) (drawn : List ℕ) (by : Negotiated → Decision) (answer : Negotiated) (firsts : List (Asked Admitted))
    → Is serves octets now draws (Steps id token at drawn by) → AllHear firsts (AskedStep id token at drawn answer ∷ []) → Script serves octets now draws firsts
step-script serves octets now draws id token at drawn by answer [] is h = absurd h
step-script serves octets now draws id token at drawn by answer (first ∷ firsts) is h =
    let s = step-heard first id token at drawn answer h.0 in
    subst (λ (xs : List (Asked Admitted)). Script serves octets now draws xs) (λ i. sym s.is i ∷ sym (none-heard firsts h.1) i)
    (one-script serves octets now draws (AskedStep id token at drawn s.answer) _ (due-of _ _ (Negotiate id token at drawn) (is None None None None) refl)
    (is (Some s.answer) None None None) (over-of (by s.answer).rule (by s.answer).reply) tt)

plan-heard : (serves : Serving) (octets : List ℕ) (now : ℕ) (draws : List ℕ) (plan : Plan)
    (n : Option Negotiated) (l : Option (Result Lease LookRefusal)) (a : Option (Result Admitted AdmitRefusal)) (e : Option (Result Receipt AdmitRefusal)) (firsts : List (Asked Admitted))
    → Is serves octets now draws plan → IsOver (plan_by plan n l a e) → AllHear firsts (plan_by plan n l a e).asked → AllByRecursion ToldApart firsts → Script serves octets now draws firsts
plan-heard serves octets now draws (Decides d) n l a e firsts is over h apart =
    subst (λ (xs : List (Asked Admitted)). Script serves octets now draws xs) (sym (none-heard firsts h)) (plan-script serves octets now draws (Decides d) n l a e is over tt)
plan-heard serves octets now draws (Steps id token at drawn by) None l a e firsts is over h apart = absurd (waits-on (Negotiate id token at drawn) [] refl over)
plan-heard serves octets now draws (Steps id token at drawn by) (Some answer) l a e firsts is over h apart = step-script serves octets now draws id token at drawn by answer firsts is h
plan-heard serves octets now draws (Looks id at by) n l a e firsts is over h apart =
    let same = look-heard id at by l a e firsts h in
    subst (λ (xs : List (Asked Admitted)). Script serves octets now draws xs) (sym same)
    (plan-script serves octets now draws (Looks id at by) n l a e is over (subst (λ (xs : List (Asked Admitted)). AllByRecursion ToldApart xs) same apart))

-- the questions of a record, as the book answered them
pub heard-script : (serves : Serving) (hand : InHand) (firsts : List (Asked Admitted)) → IsOver (ruling_at serves hand) → AllHear firsts (ruling_at serves hand).asked → AllByRecursion ToldApart firsts
    → Script serves hand.octets hand.kept.now hand.kept.draws firsts
heard-script serves hand firsts over h apart =
    let kept = hand.kept in
    let p = record-planned hand.octets kept.now kept.draws serves in
    let is : record_ruling hand.octets kept serves ≡ plan_by p.plan kept.negotiated kept.looked kept.admitted kept.ended = p.is kept.negotiated kept.looked kept.admitted kept.ended in
    plan-heard serves hand.octets kept.now kept.draws p.plan kept.negotiated kept.looked kept.admitted kept.ended firsts p.is (subst IsOver is over) (subst (λ (r : Ruling). AllHear firsts r.asked) is h) apart

-- ---- the turns of a record

-- one turn, or two with a look in the first
pub record InOne (serves : Serving) (octets : List ℕ) (now : ℕ) (draws : List ℕ) (old new : BookOf) : Type 0 where
  pub answer : Option Happened
  pub turned : Turned serves old (hand_with octets now draws None) new None answer
  pub legal : IsBook new

pub record InTwo (serves : Serving) (octets : List ℕ) (now : ℕ) (draws : List ℕ) (old new : BookOf) : Type 0 where
  pub middle : BookOf
  pub looked : Option (Result Lease LookRefusal)
  pub first : Turned serves old (hand_with octets now draws None) middle (Some (hand_with octets now draws looked)) (Some (Stepped 0))
  pub middle_legal : IsBook middle
  pub answer : Option Happened
  pub second : Turned serves middle (hand_with octets now draws looked) new None answer
  pub legal : IsBook new

abbrev Come : Serving → List ℕ → ℕ → List ℕ → BookOf → BookOf → Type 0
Come serves octets now draws old new = InOne serves octets now draws old new ⊎ InTwo serves octets now draws old new

none-comes : (serves : Serving) (octets : List ℕ) (now : ℕ) (draws : List ℕ) (old new : BookOf) (asked : List (Asked Admitted)) → IsBook old → (s : AsksNone serves octets now draws asked) → new ≡ old → Come serves octets now draws old new
none-comes serves octets now draws old new asked legal s last =
    inl (record {
      answer = s.answer;
      turned = subst (λ (b : BookOf). Turned serves old (hand_with octets now draws None) b None s.answer) (sym last) (inl (s.turned old));
      legal = subst IsBook (sym last) legal;
    })

one-comes : (serves : Serving) (octets : List ℕ) (now : ℕ) (draws : List ℕ) (old new : BookOf) (asked : List (Asked Admitted)) (s : AsksOne serves octets now draws asked) → Asking LegalAnswers old (s.one ∷ []) new → Come serves octets now draws old new
one-comes serves octets now draws old new asked s a =
    subst (λ (b : BookOf). Come serves octets now draws old b) (sym a.2)
    (inl (record { answer = s.answer; turned = inr (s.turned old a.0 a.1.0.0).0; legal = a.1.1 }))

two-comes : (serves : Serving) (octets : List ℕ) (now : ℕ) (draws : List ℕ) (old new : BookOf) (asked : List (Asked Admitted)) (s : AsksTwo serves octets now draws asked) → Asking LegalAnswers old (s.look ∷ s.one ∷ []) new
    → Come serves octets now draws old new
two-comes serves octets now draws old new asked s a =
    subst (λ (b : BookOf). Come serves octets now draws old b) (sym a.2.2)
    (inr (record {
      middle = a.0;
      looked = s.looked;
      first = inr (s.first old a.0 a.1.0.0).0;
      middle_legal = a.1.1;
      answer = s.second.answer;
      second = inr (s.second.turned a.0 a.2.0 a.2.1.0.0).0;
      legal = a.2.1.1;
    }))

comes : (serves : Serving) (octets : List ℕ) (now : ℕ) (draws : List ℕ) (old new : BookOf) (asked : List (Asked Admitted)) → IsBook old → Script serves octets now draws asked → Asking LegalAnswers old asked new → Come serves octets now draws old new
comes serves octets now draws old new asked legal (inl s) a =
    none-comes serves octets now draws old new asked legal s (subst (λ (xs : List (Asked Admitted)). Asking LegalAnswers old xs new) s.none a)
comes serves octets now draws old new asked legal (inr (inl s)) a =
    one-comes serves octets now draws old new asked s (subst (λ (xs : List (Asked Admitted)). Asking LegalAnswers old xs new) s.only a)
comes serves octets now draws old new asked legal (inr (inr s)) a =
    two-comes serves octets now draws old new asked s (subst (λ (xs : List (Asked Admitted)). Asking LegalAnswers old xs new) s.both a)

-- ---- the events of a record

set-back : {A : Type 0} (xs : List A) (i : ℕ) (x : A) → slice_get xs i ≡ Some x → slice_set xs i x ≡ xs
set-back [] i x there = refl
set-back (y ∷ xs) zero x there = ap (λ z. z ∷ xs) (sym (same_Some y x there))
set-back (y ∷ xs) (suc i) x there = ap (λ zs. y ∷ zs) (set-back xs i x there)

set-twice : {A : Type 0} (xs : List A) (i : ℕ) (x y : A) → slice_set (slice_set xs i x) i y ≡ slice_set xs i y
set-twice [] i x y = refl
set-twice (z ∷ xs) zero x y = refl
set-twice (z ∷ xs) (suc i) x y = ap (λ zs. z ∷ zs) (set-twice xs i x y)

-- what a turn asks the book
abbrev pub turn_asked : (serves : Serving) (old : BookOf) (hand : InHand) (new : BookOf) (left : Option InHand) (answer : Option Happened) → Turned serves old hand new left answer → List (Asked Receipt)
turn_asked serves old hand new left answer (inl once) = []
turn_asked serves old hand new left answer (inr by) = booked by.asked ∷ []

-- so its lane moves, and asks that
moved : (w : World) (lane : ℕ) (hand : InHand) (book : BookOf) (left : Option InHand) (answer : Option Happened) (t : Turned w.serves w.book hand book left answer)
    → (deed : Deed) × (moves : LaneMoves w lane hand deed (with_lane w lane left book deed)) × (asked_in w lane hand deed (with_lane w lane left book deed) moves ≡ turn_asked w.serves w.book hand book left answer t)
moved w lane hand book left answer (inl t) = ((lane-moved w lane hand book left answer (inl t)).0, (lane-moved w lane hand book left answer (inl t)).2, refl)
moved w lane hand book left answer (inr t) = ((lane-moved w lane hand book left answer (inr t)).0, (lane-moved w lane hand book left answer (inr t)).2, refl)

-- a lane's event
pub record Goes (w : World) (lane : ℕ) (octets : List ℕ) (now : ℕ) (draws : List ℕ) (before left : Option InHand) (book : BookOf) (asked : List (Asked Receipt)) : Type 0 where
  pub deed : Deed
  pub happens : Happens w (Lane lane octets now draws) deed (with_lane w lane left book deed)
  pub moves : LaneMoves w lane (in_hand before octets now draws) deed (with_lane w lane left book deed)
  pub asks : asked_in w lane (in_hand before octets now draws) deed (with_lane w lane left book deed) moves ≡ asked

pub goes : (w : World) (lane : ℕ) (octets : List ℕ) (now : ℕ) (draws : List ℕ) (before left : Option InHand) (book : BookOf) (answer : Option Happened)
    → slice_get w.lanes lane ≡ Some before → length draws ≡ 82 → (t : Turned w.serves w.book (in_hand before octets now draws) book left answer) → IsBook book
    → Goes w lane octets now draws before left book (turn_asked w.serves w.book (in_hand before octets now draws) book left answer t)
goes w lane octets now draws before left book answer there drawn turned legal =
    let m = moved w lane (in_hand before octets now draws) book left answer turned in record {
      deed = m.0;
      happens = record {
        proper = drawn;
        did = subst (λ (hand : Option (Option InHand)). LanesBy w lane octets now draws hand m.0 (with_lane w lane left book m.0)) (sym there) m.1;
        book = legal;
      };
      moves = m.1;
      asks = m.2;
    }

one-serves : (w : World) (lane : ℕ) (octets : List ℕ) (kept : KeptAnswers) (book : BookOf) → slice_get w.lanes lane ≡ Some None → length kept.draws ≡ 82
    → InOne w.serves octets kept.now kept.draws w.book book → Serves lane (record { octets = octets; kept = kept }) w book
one-serves w lane octets kept book free drawn t =
    let g = goes w lane octets kept.now kept.draws None None book t.answer free drawn t.turned t.legal in record {
      events = Lane lane octets kept.now kept.draws ∷ [];
      only = (refl, tt);
      next = with_lane w lane None book g.deed;
      run = (record { deed = g.deed; world = with_lane w lane None book g.deed; happens = g.happens }, refl);
      booked = refl;
      facts = refl;
      stages = refl;
      lanes = set-back w.lanes lane None free;
    }

two-serves : (w : World) (lane : ℕ) (octets : List ℕ) (kept : KeptAnswers) (book : BookOf) → slice_get w.lanes lane ≡ Some None → length kept.draws ≡ 82
    → InTwo w.serves octets kept.now kept.draws w.book book → Serves lane (record { octets = octets; kept = kept }) w book
two-serves w lane octets kept book free drawn t =
    let hand = hand_with octets kept.now kept.draws t.looked in
    let g = goes w lane octets kept.now kept.draws None (Some hand) t.middle (Some (Stepped 0)) free drawn t.first t.middle_legal in
    let middle = with_lane w lane (Some hand) t.middle g.deed in
    let h = goes middle lane octets kept.now kept.draws (Some hand) None book t.answer (set-same w.lanes lane (Some hand) None free) drawn t.second t.legal in record {
      events = Lane lane octets kept.now kept.draws ∷ Lane lane octets kept.now kept.draws ∷ [];
      only = (refl, (refl, tt));
      next = with_lane middle lane None book h.deed;
      run = (
        record { deed = g.deed; world = middle; happens = g.happens },
        (record { deed = h.deed; world = with_lane middle lane None book h.deed; happens = h.happens }, refl),
      );
      booked = refl;
      facts = refl;
      stages = refl;
      lanes = set-twice w.lanes lane (Some hand) None ∙ set-back w.lanes lane None free;
    }

-- what a book answered so is told apart
apart-asked : (asked : List (Asked Admitted)) (old new : BookOf) → Asking LegalAnswers old asked new → AllByRecursion ToldApart asked
apart-asked [] old new a = tt
apart-asked (one ∷ more) old new a = (a.1.0.1, apart-asked more a.0 new a.2)

-- the record is served
pub serves : (w : World) (lane width : ℕ) (hand : InHand) (book : BookOf) → IsBook w.book → slice_get w.lanes lane ≡ Some None → Answered LegalAnswers (serving w.serves.program width) hand w.book book → Serves lane hand w book
serves w lane width hand book legal free a =
    let apart = apart-asked (ruling_at (serving w.serves.program width) hand).asked w.book book a.asked in
    elim (comes w.serves hand.octets hand.kept.now hand.kept.draws w.book book (ruling_at (serving w.serves.program width) hand).asked legal (record-script w.serves width hand a.over apart) a.asked) [
      | inl one ↦ one-serves w lane hand.octets hand.kept book free a.drawn one
      | inr two ↦ two-serves w lane hand.octets hand.kept book free a.drawn two
    ]
