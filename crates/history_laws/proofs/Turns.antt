-- Each question keeps that a book's contexts are what its log says and what the machine makes by their steps.
use Rattle.std.proofs.Common.{◌≡◌, ◌≢◌, ◌⊎◌, ◌∙◌, ℕ, ◌+◌, max, Bool, true, false, ◌==◌, refl, ap, sym, subst, arith, inl, inr, List, [], ◌∷◌, ◌++◌, Option, Some, None, Result, Ok, Err}
use Rattle.std.specs.Prelude.{if◌then◌else◌}
use Rattle.std.proofs.lemmas.Bool.{cases_eq, cases_Bool, eq-eqb, ne_eqb}
use Rattle.spnego_core.specs.declared.accept_end.AcceptEnd.{AcceptEnd}
use Rattle.spnego_core.specs.declared.accept_end.AcceptEnd.TheVariants as ends
use Rattle.spnego_core.specs.declared.outcome.Outcome.{Outcome}
use Rattle.spnego_core.specs.declared.setup.AcceptSetup.{AcceptSetup}
use Rattle.context_table.specs.declared.slot.Slot.{Slot}
use Rattle.context_table.specs.Places.{Places, slot_at, live_of, Marks}
use Rattle.accept_core.specs.declared.answer.AdmitRefusal.{AdmitRefusal}
use Rattle.accept_core.specs.declared.answer.LookRefusal.{LookRefusal}
use Rattle.accept_core.specs.declared.answer.LookRefusal.TheVariants as looks
use Rattle.accept_core.specs.declared.entry.EndCause.TheVariants.{Destroyed}
use Rattle.accept_core.specs.declared.entry.Entry.{Entry}
use Rattle.accept_core.specs.declared.entry.Entry.TheVariants.{Opened, Auth, Went, Settled, Call, Ended}
use Rattle.accept_core.specs.declared.entry.Receipt.{Receipt}
use Rattle.accept_core.proofs.Appended.{silent}
use Rattle.accept_core.specs.Answers.{or_refused, after, receipt_of}
use Rattle.accept_core.specs.Entering.{given, gained}
use Rattle.accept_core.specs.History.{Standing, Unknown, Open, Whole, Over, standing, living, opened}
use Rattle.accept_core.specs.Legal.{Legal}
use Rattle.accept_core.specs.Stepping.{Context, context_of}
use Rattle.accept_book.specs.declared.book_answer.Lease.{Lease}
use Rattle.accept_book.specs.declared.book_answer.NegAnswer.{NegAnswer}
use Rattle.accept_book.specs.declared.book_answer.NegAnswer.TheVariants as answers
use Rattle.accept_book.specs.declared.book_answer.Negotiated.{Negotiated}
use Rattle.accept_book.specs.Booking.{BookOf, Outcomes, raised, LeasedBy, changed, spends, negotiated, lease_refused}
use Rattle.accept_book.specs.BookAnswers.{IsOutcome, BookStepped, BookLooked, BookAdmitted, BookEnded}
use Rattle.sha1.specs.Sha1.{sha1}
use Rattle.rpcsec_bodies.specs.declared.service.Service.{Service}
use Rattle.accept_book.specs.RecordShown.{Asked, AskedStep, AskedLook, AskedAdmit, AskedEnd}
use Rattle.gss_server.specs.Asking.{BookAnswers}
use Rattle.history_laws.specs.Before.{Step, is_for, steps_of, Made, Negotiates, Settles, made_in, Gives, IsGiven}
use Rattle.history_laws.specs.Seen.{StepSeen, Seen}
use Rattle.history_laws.proofs.Answering.{memory-cases, answers-setup, answers-live}
use Rattle.history_laws.proofs.Contexts.{Matches, Fits, Ready, fits-memory, fits-negotiated}
use Rattle.history_laws.proofs.Growth.{fronts-one}
use Rattle.history_laws.proofs.Histories.{Fronts}
use Rattle.history_laws.proofs.Leases.{look-seen, number-refused, lease-seen}
use Rattle.accept_core.proofs.Nexts.{next-of}
use Rattle.history_laws.proofs.Steps.{added, made_with, made_after, steps-more, made-more, made-none, given-more}
use Rattle.history_laws.proofs.Tokens.{SeenOf, seen-negotiated}
use Rattle.history_laws.proofs.Views.{before_in}

abbrev Known : Type 0
Known = Context AcceptEnd Outcome

-- ---- what is kept along a history

-- the contexts match, and as many live as the log says; an id that isn't opened has no steps; and what a look gave is what the machine settled
pub record Kept (book : BookOf) (asked : List (Asked Receipt)) : Type 0 where
  pub each : (id : ℕ) → Matches (made_in book.setup id asked) (standing id book.core.history) (context_of (slot_at book.core.table id))
  pub lives : live_of book.core.table ≡ living book.core.history
  pub unstepped : (id : ℕ) → standing id book.core.history ≡ Unknown → steps_of id asked ≡ []
  pub leases : (lease : Lease) → IsGiven lease asked → made_in book.setup lease.id asked ≡ Some (Settles lease.outcome lease.ends)

-- ---- an id that is known stays known

if-known : (b : Bool) (x y : Standing) → x ≢ Unknown → (if b then x else y) ≡ Unknown → y ≡ Unknown
if-known true x y known e = absurd (known e)
if-known false x y known e = e

unknown-one : (entry : Entry) (h : List Entry) (id : ℕ) → standing id (entry ∷ h) ≡ Unknown → standing id h ≡ Unknown
unknown-one (Opened i at) h id e = if-known (i == id) _ (standing id h) (λ f. cc) e
unknown-one (Auth i mark at) h id e = e
unknown-one (Went i at) h id e = e
unknown-one (Settled i mech names lasts at) h id e = if-known (i == id) _ (standing id h) (λ f. cc) e
unknown-one (Call i seq procedure args) h id e = e
unknown-one (Ended i cause) h id e = if-known (i == id) _ (standing id h) (λ f. cc) e

unknown-all : (more h : List Entry) (id : ℕ) → standing id (more ++ h) ≡ Unknown → standing id h ≡ Unknown
unknown-all [] h id e = e
unknown-all (entry ∷ more) h id e = unknown-all more h id (unknown-one entry (more ++ h) id e)

unknown-before : (old new : List Entry) (id : ℕ) → Fronts old new → standing id new ≡ Unknown → standing id old ≡ Unknown
unknown-before old new id f e = unknown-all f.more old id (ap (standing id) (sym f.is) ∙ e)

-- ---- one question more, given what it made of the contexts

-- what a question made of the contexts of a book
pub record Turned (old new : BookOf) (asked : List (Asked Receipt)) (one : Asked Receipt) : Type 0 where
  pub each : (id : ℕ) → Matches (made_after old.setup (made_in old.setup id asked) id one) (standing id new.core.history) (context_of (slot_at new.core.table id))
  pub known : (id : ℕ) → standing id new.core.history ≡ Unknown → added id one ≡ []
  pub settled : (id : ℕ) (outcome : Outcome) (until : ℕ) → made_in old.setup id asked ≡ Some (Settles outcome until) → made_after old.setup (made_in old.setup id asked) id one ≡ Some (Settles outcome until)
  pub gives : (lease : Lease) → Gives lease one → made_in old.setup lease.id asked ≡ Some (Settles lease.outcome lease.ends)

made-new : (old new : BookOf) (asked : List (Asked Receipt)) (one : Asked Receipt) (id : ℕ) → BookAnswers old one new → made_in new.setup id (asked ++ one ∷ []) ≡ made_after old.setup (made_in old.setup id asked) id one
made-new old new asked one id b = ap (λ (s : AcceptSetup). made_in s id (asked ++ one ∷ [])) (answers-setup old new one b) ∙ made-more old.setup id asked one

both-empty : (xs ys : List Step) → xs ≡ [] → ys ≡ [] → xs ++ ys ≡ []
both-empty xs ys e f = λ i. e i ++ f i

pub kept-more : (old new : BookOf) (asked : List (Asked Receipt)) (one : Asked Receipt) → BookAnswers old one new → Kept old asked → Turned old new asked one → Kept new (asked ++ one ∷ [])
kept-more old new asked one b k t = record {
  each = λ id. subst (λ (m : Option Made). Matches m (standing id new.core.history) (context_of (slot_at new.core.table id))) (sym (made-new old new asked one id b)) (t.each id);
  lives = answers-live old new one k.lives b;
  unstepped = λ id e. steps-more id asked one ∙ both-empty (steps_of id asked) (added id one) (k.unstepped id (unknown-before old.core.history new.core.history id (fronts-one old new one b) e)) (t.known id e);
  leases = λ lease given. made-new old new asked one lease.id b ∙ t.settled lease.id lease.outcome lease.ends (by lease (given-more lease asked one given));
}
  where
    by : (lease : Lease) → IsGiven lease asked ⊎ Gives lease one → made_in old.setup lease.id asked ≡ Some (Settles lease.outcome lease.ends)
    by lease (inl before) = k.leases lease before
    by lease (inr now) = t.gives lease now

-- ---- a token

pub ready-in : (old : BookOf) (asked : List (Asked Receipt)) (now : ℕ) → Legal old.core.width old.core.history → Kept old asked → Ready (raised old.core now) (λ id. made_in old.setup id asked)
ready-in old asked now legal k =
    let s = silent old.core.width old.core.history (opened old.core.history + 1) legal (omega arith) in
    record { each = k.each; first = s.stands; fresh = made-none old.setup (opened old.core.history + 1) asked (k.unstepped (opened old.core.history + 1) s.stands) }

-- what a token came to
record Came (old : BookOf) (asked : List (Asked Receipt)) (id : Option ℕ) (token : List ℕ) (now : ℕ) (draws : List ℕ) (result : Negotiated) (new : BookOf) : Type 0 where
  outcome : Outcomes
  fits : Fits old.setup (raised old.core now) (λ k. made_in old.setup k asked) (record { token = token; now = now; draws = draws }) outcome
  seen : SeenOf old asked id token now draws outcome
  is : IsOutcome (raised old.core now) outcome result new.core

came : (old new : BookOf) (asked : List (Asked Receipt)) (id : Option ℕ) (token : List ℕ) (now : ℕ) (draws : List ℕ) (result : Negotiated) → Legal old.core.width old.core.history → Kept old asked
    → BookStepped old new id token now draws result → Came old asked id token now draws result new
came old new asked id token now draws result legal k b =
    let past = next-of old.core.table (max old.core.cache.greatest now) in
    let ready = ready-in old asked now legal k in
    elim (memory-cases result.answer) [
      | inl short ↦ record {
        outcome = spends id old.core.history answers.NoMemory;
        fits = fits-memory old.setup (raised old.core now) (λ k. made_in old.setup k asked) _ id ready;
        seen = refl;
        is = b.comes.memory short;
      }
      | inr enough ↦ record {
        outcome = negotiated old.setup (raised old.core now) id past.0 token now draws;
        fits = fits-negotiated old.setup (raised old.core now) (λ k. made_in old.setup k asked) id past.0 token now draws ready;
        seen = seen-negotiated old asked id past.0 token now draws (record { ready = ready; is_past = past.1; lives = k.lives });
        is = b.comes.outcome past.0 (λ first. past.1) enough;
      }
    ]

no-steps : (b : Bool) (step : Step) → b ≡ false → (if b then step ∷ [] else []) ≡ []
no-steps b step e = rw e refl

kept-made : (setup : AcceptSetup) (made : Option Made) (step : Step) (b : Bool) → b ≡ false → made_with setup made step b ≡ made
kept-made setup made step b e = ap (made_with setup made step) e

stepped-turned : (old new : BookOf) (asked : List (Asked Receipt)) (id : Option ℕ) (token : List ℕ) (now : ℕ) (draws : List ℕ) (result : Negotiated) → Came old asked id token now draws result new
    → Turned old new asked (AskedStep id token now draws result)
stepped-turned old new asked id token now draws result c =
    let step : Step = record { token = token; now = now; draws = draws } in
    record {
      each = λ k. subst (λ (x : Option Known). Matches (made_with old.setup (made_in old.setup k asked) step (is_for k result.answer)) (standing k new.core.history) x) (sym (c.is.contexts k))
          (subst (λ (h : List Entry). Matches (made_with old.setup (made_in old.setup k asked) step (is_for k result.answer)) (standing k h) (changed c.outcome.change k (context_of (slot_at old.core.table k)))) (sym c.is.history)
          (subst (λ (a : NegAnswer). Matches (made_with old.setup (made_in old.setup k asked) step (is_for k a)) (standing k c.outcome.history) (changed c.outcome.change k (context_of (slot_at old.core.table k)))) (sym c.is.answer) (c.fits.each k)));
      known = λ k e. elim (cases_Bool (is_for k result.answer)) [
        | inl for ↦ absurd (c.fits.known k (ap (is_for k) (sym c.is.answer) ∙ for) (ap (standing k) (sym c.is.history) ∙ e))
        | inr not ↦ no-steps (is_for k result.answer) step not
      ];
      settled = λ k outcome until e. kept-made old.setup (made_in old.setup k asked) step (is_for k result.answer) (ap (is_for k) c.is.answer ∙ c.fits.unsettled k outcome until e) ∙ e;
      gives = λ lease no. absurd no;
    }

stepped-seen : (old new : BookOf) (asked : List (Asked Receipt)) (id : Option ℕ) (token : List ℕ) (now : ℕ) (draws : List ℕ) (result : Negotiated) → BookStepped old new id token now draws result
    → Came old asked id token now draws result new → Seen (before_in old asked) (AskedStep id token now draws result)
stepped-seen old new asked id token now draws result b c =
    subst (λ (r : List Receipt). StepSeen (before_in old asked) id token now draws result.answer r) (sym b.comes.receipts)
    (subst (λ (h : List Entry). StepSeen (before_in old asked) id token now draws result.answer (gained _ h)) (sym c.is.history)
    (subst (λ (a : NegAnswer). StepSeen (before_in old asked) id token now draws a (gained _ c.outcome.history)) (sym c.is.answer) c.seen))

-- ---- a look

-- contexts and log are as they were
same-each : (old new : BookOf) (asked : List (Asked Receipt)) → Kept old asked → new.core.table ≡ old.core.table → new.core.history ≡ old.core.history
    → (id : ℕ) → Matches (made_in old.setup id asked) (standing id new.core.history) (context_of (slot_at new.core.table id))
same-each old new asked k table log id =
    subst (λ (t : Places AcceptEnd Outcome). Matches (made_in old.setup id asked) (standing id new.core.history) (context_of (slot_at t id))) (sym table)
    (subst (λ (h : List Entry). Matches (made_in old.setup id asked) (standing id h) (context_of (slot_at old.core.table id))) (sym log) (k.each id))

not-refused : (lease : Lease) (refusal : LookRefusal) → ◌≡◌ {A = Result Lease LookRefusal} (Ok lease) (Err refusal) → ⊥
not-refused lease refusal e = cc

leased-id : (stands : Standing) (id now : ℕ) (lease : Lease) → LeasedBy stands id now (Ok lease) → lease.id ≡ id
leased-id Unknown id now lease b = absurd (not-refused lease looks.NoContext b)
leased-id (Open at) id now lease b = absurd (not-refused lease looks.NotReady b)
leased-id (Whole mech names lasts) id now lease b = b.1.id
leased-id Over id now lease b = absurd (not-refused lease looks.NoContext b)

looked-gives : (old new : BookOf) (asked : List (Asked Receipt)) (id now : ℕ) (lease : Lease) (result : Result Lease LookRefusal) → Kept old asked → BookLooked old new id now result → result ≡ Ok lease
    → made_in old.setup lease.id asked ≡ Some (Settles lease.outcome lease.ends)
looked-gives old new asked id now lease result k b e =
    let seen = look-seen old new asked id now result (k.each id) b in
    ap (λ (n : ℕ). made_in old.setup n asked) (leased-id (standing id old.core.history) id now lease (subst (LeasedBy (standing id old.core.history) id now) e b.answer)) ∙ seen.by_steps lease e

looked-turned : (old new : BookOf) (asked : List (Asked Receipt)) (id now : ℕ) (result : Result Lease LookRefusal) → Kept old asked → BookLooked old new id now result → Turned old new asked (AskedLook id now result)
looked-turned old new asked id now result k b = record {
  each = same-each old new asked k b.looked.table b.looked.history;
  known = λ id e. refl;
  settled = λ id outcome until e. e;
  gives = λ lease e. looked-gives old new asked id now lease result k b e;
}

-- ---- what takes a number

marked-context : (before after : Option (Slot AcceptEnd Outcome)) (seq : ℕ) → Marks before after seq → context_of after ≡ context_of before
marked-context (Some before) (Some after) seq m = λ i. Some (record { state = m.state i; ends = m.ends i })
marked-context (Some before) None seq m = absurd m
marked-context None after seq m = absurd m

standing-after : (refusal : Option AdmitRefusal) (entry : Entry) (h : List Entry) (id : ℕ) → standing id (entry ∷ h) ≡ standing id h → standing id (after refusal entry h) ≡ standing id h
standing-after None entry h id e = e
standing-after (Some refusal) entry h id e = refl

-- a call leaves the contexts as they were
admitted-context : (old new : BookOf) (lease : Lease) (seq procedure : ℕ) (args : List ℕ) (result : Result Receipt AdmitRefusal) → BookAdmitted old new lease seq procedure args result
    → (id : ℕ) → context_of (slot_at new.core.table id) ≡ context_of (slot_at old.core.table id)
admitted-context old new lease seq procedure args (Ok x) b id = elim (cases_eq lease.id id) [
  | inl e ↦ subst (λ (k : ℕ). context_of (slot_at new.core.table k) ≡ context_of (slot_at old.core.table k)) e (marked-context (slot_at old.core.table lease.id) (slot_at new.core.table lease.id) seq (b.slot refl))
  | inr ne ↦ ap context_of (b.others.others id ne)
]
admitted-context old new lease seq procedure args (Err refusal) b id = ap (λ (x : BookOf). context_of (slot_at x.core.table id)) b.unchanged

admitted-turned : (old new : BookOf) (asked : List (Asked Receipt)) (lease : Lease) (seq : ℕ) (service : Service) (procedure : ℕ) (args : List ℕ) (result : Result Receipt AdmitRefusal) → Kept old asked
    → BookAdmitted old new lease seq procedure (sha1 args) result → Turned old new asked (AskedAdmit lease seq service procedure args result)
admitted-turned old new asked lease seq service procedure args result k b = record {
  each = λ id.
      subst (λ (c : Option Known). Matches (made_in old.setup id asked) (standing id new.core.history) c) (sym (admitted-context old new lease seq procedure (sha1 args) result b id))
      (subst (λ (s : Standing). Matches (made_in old.setup id asked) s (context_of (slot_at old.core.table id)))
      (sym (ap (standing id) b.history ∙ standing-after (lease_refused old.core lease seq) (Call lease.id seq procedure (sha1 args)) old.core.history id refl)) (k.each id));
  known = λ id e. refl;
  settled = λ id outcome until e. e;
  gives = λ other no. absurd no;
}

-- an end leaves all contexts but its own
none-refused : {X : Type 0} (x : X) (y : X) (refusal : Option AdmitRefusal) → Ok x ≡ or_refused refusal y → refusal ≡ None
none-refused x y None e = refl
none-refused {X} x y (Some refusal) e = absurd (other x refusal e)
  where
    other : (x : X) (refusal : AdmitRefusal) → ◌≡◌ {A = Result X AdmitRefusal} (Ok x) (Err refusal) → ⊥
    other x refusal e = cc

ended-log : (old new : BookOf) (lease : Lease) (seq : ℕ) (x : Receipt) → BookEnded old new lease seq (Ok x) → new.core.history ≡ Ended lease.id (Destroyed seq) ∷ old.core.history
ended-log old new lease seq x b =
    b.history ∙ ap (λ (r : Option AdmitRefusal). after r (Ended lease.id (Destroyed seq)) old.core.history) (none-refused x _ (lease_refused old.core lease seq) b.answer)

gone-own : (made : Option Made) (id : ℕ) (stands : Standing) (slot : Option (Slot AcceptEnd Outcome)) → slot ≡ None → Matches made (if id == id then Over else stands) (context_of slot)
gone-own made id stands slot none = rw (eq-eqb id id refl, none) tt

gone-other : (made : Option Made) (id other : ℕ) (stands : Standing) (context : Option Known) → id ≢ other → Matches made stands context → Matches made (if id == other then Over else stands) context
gone-other made id other stands context ne m = rw (ne_eqb id other ne) m

ended-each : (old new : BookOf) (asked : List (Asked Receipt)) (lease : Lease) (seq : ℕ) (result : Result Receipt AdmitRefusal) → Kept old asked → BookEnded old new lease seq result
    → (id : ℕ) → Matches (made_in old.setup id asked) (standing id new.core.history) (context_of (slot_at new.core.table id))
ended-each old new asked lease seq (Ok x) k b id =
    subst (λ (h : List Entry). Matches (made_in old.setup id asked) (standing id h) (context_of (slot_at new.core.table id))) (sym (ended-log old new lease seq x b))
    (elim (cases_eq lease.id id) [
      | inl e ↦ subst (λ (j : ℕ). Matches (made_in old.setup j asked) (if lease.id == j then Over else standing j old.core.history) (context_of (slot_at new.core.table j))) e
          (gone-own (made_in old.setup lease.id asked) lease.id (standing lease.id old.core.history) (slot_at new.core.table lease.id) (b.gone refl))
      | inr ne ↦ subst (λ (s : Option (Slot AcceptEnd Outcome)). Matches (made_in old.setup id asked) (if lease.id == id then Over else standing id old.core.history) (context_of s)) (sym (b.others.others id ne))
          (gone-other (made_in old.setup id asked) lease.id id (standing id old.core.history) (context_of (slot_at old.core.table id)) ne (k.each id))
    ])
ended-each old new asked lease seq (Err refusal) k b id =
    subst (λ (x : BookOf). Matches (made_in old.setup id asked) (standing id x.core.history) (context_of (slot_at x.core.table id))) (sym b.unchanged) (k.each id)

ended-turned : (old new : BookOf) (asked : List (Asked Receipt)) (lease : Lease) (seq : ℕ) (result : Result Receipt AdmitRefusal) → Kept old asked → BookEnded old new lease seq result
    → Turned old new asked (AskedEnd lease seq result)
ended-turned old new asked lease seq result k b = record {
  each = ended-each old new asked lease seq result k b;
  known = λ id e. refl;
  settled = λ id outcome until e. e;
  gives = λ other no. absurd no;
}

-- ---- a lease that was given has an id that is known

settled-steps : (setup : AcceptSetup) (id : ℕ) (asked : List (Asked Receipt)) (outcome : Outcome) (until : ℕ) → made_in setup id asked ≡ Some (Settles outcome until) → steps_of id asked ≢ []
settled-steps setup id asked outcome until is none = let f : Some (Negotiates ends.New) ≡ Some (Settles outcome until) = sym (made-none setup id asked none) ∙ is in absurd cc

lease-known : (old : BookOf) (asked : List (Asked Receipt)) (lease : Lease) → Kept old asked → IsGiven lease asked → standing lease.id old.core.history ≢ Unknown
lease-known old asked lease k given e = settled-steps old.setup lease.id asked lease.outcome lease.ends (k.leases lease given) (k.unstepped lease.id e)

-- ---- any question

pub question-seen : (old new : BookOf) (asked : List (Asked Receipt)) (one : Asked Receipt) → Legal old.core.width old.core.history → Kept old asked → BookAnswers old one new → Seen (before_in old asked) one
question-seen old new asked (AskedStep id token now draws answer) legal k b =
    stepped-seen old new asked id token now draws answer b (came old new asked id token now draws answer legal k b)
question-seen old new asked (AskedLook id now answer) legal k b = look-seen old new asked id now answer (k.each id) b
question-seen old new asked (AskedAdmit lease seq service procedure args answer) legal k b = record {
  exactly = b.answer ∙ ap (λ (r : Option AdmitRefusal). or_refused r (receipt_of old.core.history (Call lease.id seq procedure (sha1 args)))) (number-refused old asked lease seq (k.each lease.id));
  leased = λ given. lease-seen old asked lease seq (k.each lease.id) (k.leases lease given) (lease-known old asked lease k given);
}
question-seen old new asked (AskedEnd lease seq answer) legal k b = record {
  exactly = b.answer ∙ ap (λ (r : Option AdmitRefusal). or_refused r (receipt_of old.core.history (Ended lease.id (Destroyed seq)))) (number-refused old asked lease seq (k.each lease.id));
  leased = λ given. lease-seen old asked lease seq (k.each lease.id) (k.leases lease given) (lease-known old asked lease k given);
}

pub question-kept : (old new : BookOf) (asked : List (Asked Receipt)) (one : Asked Receipt) → Legal old.core.width old.core.history → Kept old asked → BookAnswers old one new → Kept new (asked ++ one ∷ [])
question-kept old new asked one legal k b = kept-more old new asked one b k (by one b)
  where
    by : (one : Asked Receipt) → BookAnswers old one new → Turned old new asked one
    by (AskedStep id token now draws answer) b = stepped-turned old new asked id token now draws answer (came old new asked id token now draws answer legal k b)
    by (AskedLook id now answer) b = looked-turned old new asked id now answer k b
    by (AskedAdmit lease seq service procedure args answer) b = admitted-turned old new asked lease seq service procedure args answer k b
    by (AskedEnd lease seq answer) b = ended-turned old new asked lease seq answer k b
