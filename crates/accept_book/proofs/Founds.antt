-- What a book's token comes to, by the step that was taken.
use Rattle.std.proofs.Common.{◌≡◌, ◌≢◌, ◌⊎◌, ℕ, ◌+◌, Bool, true, false, ◌==◌, nat_lt, nat_le, if◌then◌else◌, List, length, Option, None, Some, refl, sym, subst, inl, inr}
use Rattle.std.specs.Prelude.{Result, Ok, Err, is_none, ◌&&◌, IfSome}
use Rattle.std.proofs.lemmas.Bool.{cases_Bool, eq-eqb, ne_eqb}
use Rattle.spnego_core.specs.declared.outcome.Outcome.{Outcome}
use Rattle.spnego_core.specs.declared.refusal.NegRefusal.{NegRefusal}
use Rattle.spnego_core.specs.declared.setup.AcceptSetup.{AcceptSetup}
use Rattle.spnego_core.specs.declared.accept_end.AcceptEnd.{AcceptEnd}
use Rattle.spnego_core.specs.declared.accept_end.AcceptEnd.TheVariants as ends
use Rattle.spnego_core.specs.Accepting.{Accepted, accept_step}
use Rattle.spnego_core.specs.AcceptLaws.{GoodAccept}
use Rattle.context_table.specs.declared.slot.Slot.{Slot}
use Rattle.context_table.specs.declared.slot.SlotState.{SlotState}
use Rattle.context_table.specs.declared.slot.SlotState.TheVariants.{Negotiating, Held, Complete}
use Rattle.context_table.specs.Places.{slot_at, live_of, state_of}
use Rattle.accept_core.specs.declared.answer.MarkRefusal.{MarkRefusal}
use Rattle.accept_book.specs.declared.book_answer.BookRefusal.{BookRefusal}
use Rattle.accept_book.specs.declared.book_answer.BookRefusal.TheVariants as refusals
use Rattle.accept_core.specs.History.{Standing, Unknown, Open, Whole, Over, standing, taken_of, IsOpen}
use Rattle.accept_core.specs.Entering.{mark_refused}
use Rattle.accept_core.specs.Stepping.{Context, context_of}
use Rattle.accept_book.specs.Booking.{Stands, Outcomes, Becomes, changed, without, mark_of, settled_of, leaves, by_mark, by_step, later_step, begun, opened_by, gone_on_by, negotiated}
use Rattle.accept_book.specs.Found.{unless_refused, took, first_took, later_took, took_by, step_taken, end_before, stepped_from}
use Rattle.accept_book.specs.BookLaws.{GoodContext, AllGood, Refuses}

pub record TakenIs (setup : AcceptSetup) (book : Stands) (id past : Option ℕ) (token : List ℕ) (now : ℕ) (draws : List ℕ) (outcomes : Outcomes) (accepted : Accepted) : Type 0 where
  pub step : accept_step setup (stepped_from book id) token now draws ≡ Ok accepted
  pub negotiates : IfSome id (λ number. IsOpen (standing number book.history))
  pub is : outcomes ≡ by_mark book id past (mark_of accepted.step) (settled_of accepted.step) None

-- refused where no step was taken, else as the step says
abbrev pub Comes : AcceptSetup → Stands → Option ℕ → Option ℕ → List ℕ → ℕ → List ℕ → Outcomes → Option Accepted → Type 0
Comes setup book id past token now draws outcomes None = Refuses outcomes
Comes setup book id past token now draws outcomes (Some accepted) = TakenIs setup book id past token now draws outcomes accepted

marked : (setup : AcceptSetup) (book : Stands) (id past : Option ℕ) (token : List ℕ) (now : ℕ) (draws : List ℕ) (accepted : Accepted) (refusal : Option MarkRefusal)
    → accept_step setup (stepped_from book id) token now draws ≡ Ok accepted → IfSome id (λ number. IsOpen (standing number book.history))
    → Comes setup book id past token now draws (by_mark book id past (mark_of accepted.step) (settled_of accepted.step) refusal) (unless_refused refusal accepted)
marked setup book id past token now draws accepted None step negotiates = record { step = step; negotiates = negotiates; is = refl }
marked setup book id past token now draws accepted (Some refusal) step negotiates = record { refusal = _; answer = refl; ended = id; change = refl }

stepped : (setup : AcceptSetup) (book : Stands) (id past : Option ℕ) (token : List ℕ) (now : ℕ) (draws : List ℕ) (r : Result Accepted NegRefusal)
    → accept_step setup (stepped_from book id) token now draws ≡ r → IfSome id (λ number. IsOpen (standing number book.history))
    → Comes setup book id past token now draws (by_step book id past r) (took book r)
stepped setup book id past token now draws (Err refusal) step negotiates = record { refusal = _; answer = refl; ended = id; change = refl }
stepped setup book id past token now draws (Ok accepted) step negotiates =
    marked setup book id past token now draws accepted (mark_refused book.capacity book.greatest (taken_of book.history) (mark_of accepted.step)) step negotiates

left : (h : List _) (refusal : BookRefusal) → Refuses (leaves h refusal)
left h refusal = record { refusal = refusal; answer = refl; ended = None; change = refl }

by_test : (setup : AcceptSetup) (book : Stands) (id past : Option ℕ) (token : List ℕ) (now : ℕ) (draws : List ℕ) (b : Bool) (x y : Outcomes) (p q : Option Accepted)
    → Comes setup book id past token now draws x p → Comes setup book id past token now draws y q
    → Comes setup book id past token now draws (if b then x else y) (if b then p else q)
by_test setup book id past token now draws true x y p q f g = f
by_test setup book id past token now draws false x y p q f g = g

first_comes : (setup : AcceptSetup) (book : Stands) (past : Option ℕ) (token : List ℕ) (now : ℕ) (draws : List ℕ)
    → Comes setup book None past token now draws (begun setup book past token now draws) (first_took setup book past token now draws)
first_comes setup book past token now draws =
    by_test setup book None past token now draws (nat_lt book.limit (length book.history + 4)) _ _ None _ (left book.history refusals.LogFull)
    (by_test setup book None past token now draws (nat_le book.table.limit (live_of book.table) && is_none past) _ _ None _ (left book.history refusals.TableFull)
    (stepped setup book None past token now draws (accept_step setup ends.New token now draws) refl tt))

later_is : (setup : AcceptSetup) (state : Option AcceptEnd) (token : List ℕ) (now : ℕ) (draws : List ℕ)
    → accept_step setup (end_before state) token now draws ≡ later_step setup state token now draws
later_is setup None token now draws = refl
later_is setup (Some end) token now draws = refl

opened_comes : (setup : AcceptSetup) (book : Stands) (id : ℕ) (past : Option ℕ) (token : List ℕ) (now : ℕ) (draws : List ℕ) → IsOpen (standing id book.history)
    → Comes setup book (Some id) past token now draws (opened_by setup book id past token now draws) (later_took setup book id token now draws)
opened_comes setup book id past token now draws whole =
    by_test setup book (Some id) past token now draws (nat_lt book.limit (length book.history + 4)) _ _ None _ (left book.history refusals.LogFull)
    (stepped setup book (Some id) past token now draws (later_step setup (state_of (slot_at book.table id)) token now draws) (later_is setup (state_of (slot_at book.table id)) token now draws) whole)

later_comes : (stands : Standing) (setup : AcceptSetup) (book : Stands) (id : ℕ) (past : Option ℕ) (token : List ℕ) (now : ℕ) (draws : List ℕ) → standing id book.history ≡ stands
    → Comes setup book (Some id) past token now draws (gone_on_by stands setup book id past token now draws) (took_by stands setup book id token now draws)
later_comes Unknown setup book id past token now draws e = left book.history refusals.NoContext
later_comes (Open at) setup book id past token now draws e = opened_comes setup book id past token now draws (subst IsOpen (sym e) tt)
later_comes (Whole mech names until) setup book id past token now draws e = left book.history refusals.AlreadyComplete
later_comes Over setup book id past token now draws e = left book.history refusals.NoContext

pub comes : (setup : AcceptSetup) (book : Stands) (id past : Option ℕ) (token : List ℕ) (now : ℕ) (draws : List ℕ)
    → Comes setup book id past token now draws (negotiated setup book id past token now draws) (step_taken setup book id past token now draws)
comes setup book None past token now draws = first_comes setup book past token now draws
comes setup book (Some id) past token now draws = later_comes (standing id book.history) setup book id past token now draws refl

pub taken_is : (setup : AcceptSetup) (book : Stands) (id past : Option ℕ) (token : List ℕ) (now : ℕ) (draws : List ℕ) (accepted : Accepted)
    → step_taken setup book id past token now draws ≡ Some accepted → TakenIs setup book id past token now draws (negotiated setup book id past token now draws) accepted
taken_is setup book id past token now draws accepted e =
    subst (Comes setup book id past token now draws (negotiated setup book id past token now draws)) e (comes setup book id past token now draws)

pub refused_is : (setup : AcceptSetup) (book : Stands) (id past : Option ℕ) (token : List ℕ) (now : ℕ) (draws : List ℕ)
    → step_taken setup book id past token now draws ≡ None → Refuses (negotiated setup book id past token now draws)
refused_is setup book id past token now draws e =
    subst (Comes setup book id past token now draws (negotiated setup book id past token now draws)) e (comes setup book id past token now draws)

-- ---- the other contexts

pub without_is : (lapsed : Option ℕ) (other : ℕ) (before : Option (Context AcceptEnd Outcome)) → (without lapsed other before ≡ before) ⊎ (without lapsed other before ≡ None)
without_is None other before = inl refl
without_is (Some gone) other before = elim (cases_Bool (gone == other)) [ inl e ↦ rw e (inr refl) | inr e ↦ rw e (inl refl) ]

pub others_are : (lapsed : Option ℕ) (own other : ℕ) (after : Context AcceptEnd Outcome) (before : Option (Context AcceptEnd Outcome)) → own ≢ other
    → (changed (Becomes lapsed own after) other before ≡ before) ⊎ (changed (Becomes lapsed own after) other before ≡ None)
others_are lapsed own other after before ne = rw (ne_eqb own other ne) (without_is lapsed other before)

pub own_is : (lapsed : Option ℕ) (own : ℕ) (after : Context AcceptEnd Outcome) (before : Option (Context AcceptEnd Outcome)) → changed (Becomes lapsed own after) own before ≡ Some after
own_is lapsed own after before = rw (eq-eqb own own refl) refl

-- ---- good ends

good_slot : (setup : AcceptSetup) (slot : Option (Slot AcceptEnd Outcome)) → GoodContext setup (context_of slot) → GoodAccept setup (end_before (state_of slot))
good_slot setup None good = tt
good_slot setup (Some slot) good = go slot.state good
  where
    go : (state : SlotState AcceptEnd Outcome) → GoodContext setup (Some (record { state = state; ends = slot.ends })) → GoodAccept setup (end_before (state_of (Some (record slot { state = state }))))
    go (Negotiating end) good = good
    go Held good = tt
    go (Complete outcome) good = tt

pub good_from : (setup : AcceptSetup) (book : Stands) (id : Option ℕ) → AllGood setup book.table → GoodAccept setup (stepped_from book id)
good_from setup book None good = tt
good_from setup book (Some id) good = good_slot setup (slot_at book.table id) (good id)
