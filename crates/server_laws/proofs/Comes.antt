-- What a token makes of the contexts is what it makes of the log.
use Rattle.std.proofs.Common.{◌≡◌, ◌≢◌, ◌∙◌, ℕ, ◌+◌, ◌≤◌, Bool, true, false, ◌==◌, refl, ap, sym, subst, arith, inl, inr, List, [], ◌∷◌, length, Option, Some, None, Result, Ok, Err}
use Rattle.std.specs.List.{slice_get}
use Rattle.std.specs.Prelude.{◌&&◌, if◌then◌else◌, nat_lt, nat_le, is_none, IfSome}
use Rattle.std.proofs.lemmas.Bool.{cases_eq, eq-eqb, ne_eqb}
use Rattle.gss_base.specs.declared.mark.Mark.{Mark}
use Rattle.spnego_core.specs.declared.accept_end.AcceptEnd.{AcceptEnd}
use Rattle.spnego_core.specs.declared.accept_end.AcceptEnd.TheVariants as ends
use Rattle.spnego_core.specs.declared.accept_end.AcceptStep.{AcceptStep}
use Rattle.spnego_core.specs.declared.accept_end.AcceptStep.TheVariants as steps
use Rattle.spnego_core.specs.declared.accept_end.Answered.{Answered}
use Rattle.spnego_core.specs.declared.accept_end.Answered.TheVariants as afters
use Rattle.spnego_core.specs.declared.outcome.Outcome.{Outcome}
use Rattle.spnego_core.specs.declared.refusal.NegRefusal.{NegRefusal}
use Rattle.spnego_core.specs.declared.setup.AcceptSetup.{AcceptSetup}
use Rattle.spnego_core.specs.Accepting.{Accepted, accept_step}
use Rattle.context_table.specs.declared.slot.Slot.{Slot}
use Rattle.context_table.specs.declared.slot.SlotState.{SlotState}
use Rattle.context_table.specs.declared.slot.SlotState.TheVariants.{Negotiating, Held, Complete}
use Rattle.context_table.specs.Slots.{state_taken}
use Rattle.context_table.specs.Places.{Places, slot_at, live_of, state_of}
use Rattle.accept_core.specs.declared.answer.MarkRefusal.{MarkRefusal}
use Rattle.accept_core.specs.declared.answer.Next.{Next}
use Rattle.accept_core.specs.declared.answer.Next.TheVariants as nexts
use Rattle.accept_book.specs.declared.book_answer.BookRefusal.{BookRefusal}
use Rattle.accept_book.specs.declared.book_answer.BookRefusal.TheVariants as refusals
use Rattle.accept_book.specs.declared.book_answer.NegAnswer.{NegAnswer}
use Rattle.accept_core.specs.declared.entry.Entry.{Entry}
use Rattle.accept_core.specs.declared.entry.Entry.TheVariants.{Opened}
use Rattle.accept_core.specs.History.{Standing, Unknown, Open, Whole, Over, standing, numbers, opened, latest, taken_of, IsGone}
use Rattle.accept_core.specs.Entering.{id_of, lapsed, noted, finished, entered, mark_refused}
use Rattle.accept_core.specs.Replays.{SameState, end_of_opened}
use Rattle.accept_core.specs.Aging.{in_use}
use Rattle.accept_core.specs.Stepping.{goes_by, gone_of, is_crowded, settles, Context, context_of, context_after, until_of, ends_at}
use Rattle.accept_book.specs.Booking.{by_outcome, names_of, Stands, Outcomes, Becomes, changed, without, leaves, spends, next_answered, next_of, answer_with, mark_of, settled_of, by_mark, by_step, later_step, begun, opened_by, gone_on_by, negotiated}

-- ---- contexts and the log

abbrev Known : Type 0
Known = Context AcceptEnd Outcome

-- a context is what the log says of its id
abbrev pub SameContext : Option (Context AcceptEnd Outcome) → Standing → Type 0
SameContext None stands = IsGone stands
SameContext (Some context) stands = SameState by_outcome stands context.state context.ends

-- a book whose contexts are what its log says, and whose next id has no calls
pub record Ready (book : Stands) : Type 0 where
  pub each : (id : ℕ) → SameContext (context_of (slot_at book.table id)) (standing id book.history)
  pub past : latest book.history ≤ book.greatest
  pub next : numbers (opened book.history + 1) book.history ≡ []

-- an outcome: its contexts are what its log says, no call was added, and a context that wasn't there has no calls
pub record Fine (book : Stands) (o : Outcomes) : Type 0 where
  pub each : (id : ℕ) → SameContext (changed o.change id (context_of (slot_at book.table id))) (standing id o.history)
  pub calls : (id : ℕ) → numbers id o.history ≡ numbers id book.history
  pub fresh : (id : ℕ) → context_of (slot_at book.table id) ≡ None → IfSome (changed o.change id None) (λ context. numbers id book.history ≡ [])
  pub past : latest o.history ≤ book.greatest

fine-leaves : (book : Stands) (refusal : BookRefusal) → Ready book → Fine book (leaves book.history refusal)
fine-leaves book refusal r = record { each = r.each; calls = λ id. refl; fresh = λ id none. tt; past = r.past }

gone-each : (b : Bool) (before : Option Known) (stands : Standing) → SameContext before stands → SameContext (if b then None else before) (if b then Over else stands)
gone-each true before stands same = tt
gone-each false before stands same = same

none-if : (b : Bool) (P : Known → Type 0) → IfSome (if b then None else None) P
none-if true P = tt
none-if false P = tt

pub fine-spends : (book : Stands) (id : Option ℕ) (answer : NegAnswer) → Ready book → Fine book (spends id book.history answer)
fine-spends book None answer r = record { each = r.each; calls = λ id. refl; fresh = λ id none. tt; past = r.past }
fine-spends book (Some gone) answer r = record {
  each = λ id. gone-each (gone == id) (context_of (slot_at book.table id)) (standing id book.history) (r.each id);
  calls = λ id. refl;
  fresh = λ id none. none-if (gone == id) _;
  past = r.past;
}

-- ---- the entries of a step

-- what a step settles is named as the log names it
abbrev Named : Next AcceptEnd Outcome → Type 0
Named (nexts.Going state) = Unit {0}
Named (nexts.Settled mech names value ends) = (value.mech ≡ mech) × (names_of value ≡ names)

named-answered : (after : Answered) → Named (next_answered after)
named-answered (afters.More end token) = tt
named-answered (afters.Done outcome lasts token) = (refl, refl)

named-of : (step : AcceptStep) → Named (next_of step)
named-of (steps.More end token) = tt
named-of (steps.Done outcome lasts token) = (refl, refl)
named-of (steps.WantsAuth pause) = named-answered pause.after

standing-noted : (mark : Option Mark) (own now id : ℕ) (h : List Entry) → standing id (noted mark own now h) ≡ standing id h
standing-noted None own now id h = refl
standing-noted (Some mark) own now id h = refl

numbers-noted : (mark : Option Mark) (own now id : ℕ) (h : List Entry) → numbers id (noted mark own now h) ≡ numbers id h
numbers-noted None own now id h = refl
numbers-noted (Some mark) own now id h = refl

latest-noted : (mark : Option Mark) (own now : ℕ) (h : List Entry) → latest h ≤ now → latest (noted mark own now h) ≤ now
latest-noted None own now h le = le
latest-noted (Some mark) own now h le = omega arith

standing-finished : (first : Bool) (next : Next AcceptEnd Outcome) (own now id : ℕ) (h : List Entry) → own ≢ id → standing id (finished first next own now h) ≡ standing id h
standing-finished true (nexts.Going state) own now id h ne = refl
standing-finished false (nexts.Going state) own now id h ne = refl
standing-finished true (nexts.Settled mech names value ends) own now id h ne = rw (ne_eqb own id ne) refl
standing-finished false (nexts.Settled mech names value ends) own now id h ne = rw (ne_eqb own id ne) refl

numbers-finished : (first : Bool) (next : Next AcceptEnd Outcome) (own now id : ℕ) (h : List Entry) → numbers id (finished first next own now h) ≡ numbers id h
numbers-finished true (nexts.Going state) own now id h = refl
numbers-finished false (nexts.Going state) own now id h = refl
numbers-finished true (nexts.Settled mech names value ends) own now id h = refl
numbers-finished false (nexts.Settled mech names value ends) own now id h = refl

latest-finished : (first : Bool) (next : Next AcceptEnd Outcome) (own now : ℕ) (h : List Entry) → latest h ≤ now → latest (finished first next own now h) ≤ now
latest-finished true (nexts.Going state) own now h le = le
latest-finished false (nexts.Going state) own now h le = omega arith
latest-finished true (nexts.Settled mech names value ends) own now h le = omega arith
latest-finished false (nexts.Settled mech names value ends) own now h le = omega arith

-- the own context
own-settled : (own now : ℕ) (value : Outcome) (names : List ℕ) (until : ℕ) (h : List Entry) (context : Known) (settled : Standing)
    → SameContext (Some context) settled → SameContext (Some context) (if own == own then settled else standing own h)
own-settled own now value names until h context settled same = rw (eq-eqb own own refl) same

own-going : (state : AcceptEnd) (until at : ℕ) (stands : Standing) → stands ≡ Open at → until ≡ end_of_opened at → SameContext (Some (record { state = Negotiating state; ends = until })) stands
own-going state until at stands is ends = subst (λ (s : Standing). SameContext (Some (record { state = Negotiating state; ends = until })) s) (sym is) ends

own-context : (first : Bool) (next : Next AcceptEnd Outcome) (own now until at : ℕ) (h : List Entry) → Named next → standing own h ≡ Open at → until ≡ end_of_opened at
    → SameContext (Some (context_after until next)) (standing own (finished first next own now h))
own-context true (nexts.Going state) own now until at h named is ends = own-going state until at (standing own h) is ends
own-context false (nexts.Going state) own now until at h named is ends = own-going state until at (standing own h) is ends
own-context true (nexts.Settled mech names value lasts) own now until at h named is ends =
    own-settled own now value names until h (context_after until (nexts.Settled mech names value lasts)) (Whole mech names lasts) (named.0, named.1, refl)
own-context false (nexts.Settled mech names value lasts) own now until at h named is ends =
    own-settled own now value names until h (context_after until (nexts.Settled mech names value lasts)) (Whole mech names lasts) (named.0, named.1, refl)

-- ---- a first token

lapse-each : (gone : Option ℕ) (id : ℕ) (h : List Entry) (before : Option Known) → SameContext before (standing id h) → SameContext (without gone id before) (standing id (lapsed gone h))
lapse-each None id h before same = same
lapse-each (Some gone) id h before same = gone-each (gone == id) before (standing id h) same

numbers-lapsed : (gone : Option ℕ) (id : ℕ) (h : List Entry) → numbers id (lapsed gone h) ≡ numbers id h
numbers-lapsed None id h = refl
numbers-lapsed (Some gone) id h = refl

latest-lapsed : (gone : Option ℕ) (h : List Entry) → latest (lapsed gone h) ≡ latest h
latest-lapsed None h = refl
latest-lapsed (Some gone) h = refl

none-without : (gone : Option ℕ) (id : ℕ) (P : Known → Type 0) → IfSome (without gone id None) P
none-without None id P = tt
none-without (Some gone) id P = none-if (gone == id) P

opened-own : (own now : ℕ) (h : List Entry) → standing own (Opened own now ∷ h) ≡ Open now
opened-own own now h = rw (eq-eqb own own refl) refl

fine-first : (book : Stands) (past : Option ℕ) (mark : Option Mark) (step : AcceptStep) → Ready book → Fine book (by_mark book None past mark step None)
fine-first book past mark step r =
    let own = opened book.history + 1 in
    let now = book.greatest in
    let next = next_of step in
    let gone = goes_by None next past book.history book.table in
    let before = lapsed gone book.history in
    let opens = noted mark own now (Opened own now ∷ before) in
    let after = context_after (until_of None now book.table) next in
    record {
      each = λ id. elim (cases_eq own id) [
        | inl e ↦
            subst (λ (k : ℕ). SameContext (if own == k then Some after else without gone k (context_of (slot_at book.table k))) (standing k (finished true next own now opens))) e
            (rw (eq-eqb own own refl) (own-context true next own now (end_of_opened now) now opens (named-of step) (standing-noted mark own now own (Opened own now ∷ before) ∙ opened-own own now before) refl))
        | inr ne ↦
            rw (ne_eqb own id ne) (subst (λ (s : Standing). SameContext (without gone id (context_of (slot_at book.table id))) s)
            (sym (standing-finished true next own now id opens ne ∙ (standing-noted mark own now id (Opened own now ∷ before) ∙ other id ne)))
            (lapse-each gone id book.history (context_of (slot_at book.table id)) (r.each id)))
      ];
      calls = λ id. numbers-finished true next own now id opens ∙ (numbers-noted mark own now id (Opened own now ∷ before) ∙ numbers-lapsed gone id book.history);
      fresh = λ id none. elim (cases_eq own id) [
        | inl e ↦ rw (eq-eqb own id e) (subst (λ (k : ℕ). numbers k book.history ≡ []) e r.next)
        | inr ne ↦ rw (ne_eqb own id ne) (none-without gone id _)
      ];
      past = latest-finished true next own now opens (latest-noted mark own now (Opened own now ∷ before) (omega arith));
    }
  where
    other : (id : ℕ) → opened book.history + 1 ≢ id → standing id (Opened (opened book.history + 1) book.greatest ∷ lapsed (goes_by None (next_of step) past book.history book.table) book.history) ≡ standing id (lapsed (goes_by None (next_of step) past book.history book.table) book.history)
    other id ne = rw (ne_eqb (opened book.history + 1) id ne) refl

-- ---- a later token, of a context that negotiates

state-ends : (state : SlotState AcceptEnd Outcome) (until at : ℕ) → SameState by_outcome (Open at) state until → until ≡ end_of_opened at
state-ends (Negotiating end) until at same = same
state-ends Held until at same = same
state-ends (Complete value) until at same = absurd same

slot-ends : (slot : Option (Slot AcceptEnd Outcome)) (at : ℕ) → SameContext (context_of slot) (Open at) → ends_at slot ≡ end_of_opened at
slot-ends None at same = absurd same
slot-ends (Some slot) at same = state-ends slot.state slot.ends at same

-- a step that goes on ends none
own-later : (past : Option ℕ) (limit : ℕ) (next : Next AcceptEnd Outcome) (mark : Option Mark) (id now until at : ℕ) (h : List Entry) → Named next → standing id h ≡ Open at → until ≡ end_of_opened at
    → SameContext (Some (context_after until next)) (standing id (finished false next id now (noted mark id now (lapsed (gone_of (is_crowded (settles next) h limit) false (slice_get (in_use h) 0) past) h))))
own-later past limit (nexts.Going state) mark id now until at h named is ends =
    own-context false (nexts.Going state) id now until at (noted mark id now h) named (standing-noted mark id now id h ∙ is) ends
own-later past limit (nexts.Settled mech names value lasts) mark id now until at h named is ends =
    own-settled id now value names until (noted mark id now (lapsed (gone_of (is_crowded true h limit) false (slice_get (in_use h) 0) past) h)) (context_after until (nexts.Settled mech names value lasts)) (Whole mech names lasts) (named.0, named.1, refl)

fine-later : (book : Stands) (id : ℕ) (past : Option ℕ) (mark : Option Mark) (step : AcceptStep) (at : ℕ) → Ready book → standing id book.history ≡ Open at
    → Fine book (by_mark book (Some id) past mark step None)
fine-later book id past mark step at r is =
    let now = book.greatest in
    let next = next_of step in
    let gone = goes_by (Some id) next past book.history book.table in
    let before = lapsed gone book.history in
    let opens = noted mark id now before in
    let after = context_after (ends_at (slot_at book.table id)) next in
    let own : SameContext (context_of (slot_at book.table id)) (Open at) = subst (λ (s : Standing). SameContext (context_of (slot_at book.table id)) s) is (r.each id) in
    record {
      each = λ other. elim (cases_eq id other) [
        | inl e ↦
            subst (λ (k : ℕ). SameContext (if id == k then Some after else without gone k (context_of (slot_at book.table k))) (standing k (finished false next id now opens))) e
            (rw (eq-eqb id id refl) (own-later past book.table.limit next mark id now (ends_at (slot_at book.table id)) at book.history (named-of step) is (slot-ends (slot_at book.table id) at own)))
        | inr ne ↦
            rw (ne_eqb id other ne) (subst (λ (s : Standing). SameContext (without gone other (context_of (slot_at book.table other))) s)
            (sym (standing-finished false next id now other opens ne ∙ standing-noted mark id now other before))
            (lapse-each gone other book.history (context_of (slot_at book.table other)) (r.each other)))
      ];
      calls = λ other. numbers-finished false next id now other opens ∙ (numbers-noted mark id now other before ∙ numbers-lapsed gone other book.history);
      fresh = λ other none. elim (cases_eq id other) [
        | inl e ↦ absurd (subst (λ (c : Option Known). SameContext c (Open at)) (ap (λ (k : ℕ). context_of (slot_at book.table k)) e ∙ none) own)
        | inr ne ↦ rw (ne_eqb id other ne) (none-without gone other _)
      ];
      past = latest-finished false next id now opens (latest-noted mark id now before (subst (λ (n : ℕ). n ≤ now) (sym (latest-lapsed gone book.history)) r.past));
    }

-- ---- all tokens

-- a later token's context negotiates
abbrev Opens : Option ℕ → List Entry → Type 0
Opens None h = Unit {0}
Opens (Some id) h = (at : ℕ) × (standing id h ≡ Open at)

fine-mark : (book : Stands) (id past : Option ℕ) (mark : Option Mark) (step : AcceptStep) (refusal : Option MarkRefusal) → Ready book → Opens id book.history
    → Fine book (by_mark book id past mark step refusal)
fine-mark book id past mark step (Some refusal) r opens = fine-spends book id _ r
fine-mark book None past mark step None r opens = fine-first book past mark step r
fine-mark book (Some id) past mark step None r opens = fine-later book id past mark step opens.0 r opens.1

fine-step : (book : Stands) (id past : Option ℕ) (taken : Result Accepted NegRefusal) → Ready book → Opens id book.history → Fine book (by_step book id past taken)
fine-step book id past (Err refusal) r opens = fine-spends book id _ r
fine-step book id past (Ok accepted) r opens =
    fine-mark book id past (mark_of accepted.step) (settled_of accepted.step) (mark_refused book.capacity book.greatest (taken_of book.history) (mark_of accepted.step)) r opens

fine-if : (book : Stands) (b : Bool) (x y : Outcomes) → Fine book x → Fine book y → Fine book (if b then x else y)
fine-if book true x y p q = p
fine-if book false x y p q = q

fine-begun : (setup : AcceptSetup) (book : Stands) (past : Option ℕ) (token : List ℕ) (now : ℕ) (draws : List ℕ) → Ready book → Fine book (begun setup book past token now draws)
fine-begun setup book past token now draws r =
    fine-if book (nat_lt book.limit (length book.history + 4)) _ _ (fine-leaves book refusals.LogFull r)
    (fine-if book (nat_le book.table.limit (live_of book.table) && is_none past) _ _ (fine-leaves book refusals.TableFull r)
    (fine-step book None past (accept_step setup ends.New token now draws) r tt))

fine-opened : (setup : AcceptSetup) (book : Stands) (id : ℕ) (past : Option ℕ) (token : List ℕ) (now : ℕ) (draws : List ℕ) (at : ℕ) → Ready book → standing id book.history ≡ Open at
    → Fine book (opened_by setup book id past token now draws)
fine-opened setup book id past token now draws at r is =
    fine-if book (nat_lt book.limit (length book.history + 4)) _ _ (fine-leaves book refusals.LogFull r)
    (fine-step book (Some id) past (later_step setup (state_of (slot_at book.table id)) token now draws) r (at, is))

fine-gone : (stands : Standing) (setup : AcceptSetup) (book : Stands) (id : ℕ) (past : Option ℕ) (token : List ℕ) (now : ℕ) (draws : List ℕ) → Ready book → standing id book.history ≡ stands
    → Fine book (gone_on_by stands setup book id past token now draws)
fine-gone Unknown setup book id past token now draws r is = fine-leaves book refusals.NoContext r
fine-gone (Open at) setup book id past token now draws r is = fine-opened setup book id past token now draws at r is
fine-gone (Whole mech names until) setup book id past token now draws r is = fine-leaves book refusals.AlreadyComplete r
fine-gone Over setup book id past token now draws r is = fine-leaves book refusals.NoContext r

pub fine-negotiated : (setup : AcceptSetup) (book : Stands) (id past : Option ℕ) (token : List ℕ) (now : ℕ) (draws : List ℕ) → Ready book → Fine book (negotiated setup book id past token now draws)
fine-negotiated setup book None past token now draws r = fine-begun setup book past token now draws r
fine-negotiated setup book (Some id) past token now draws r = fine-gone (standing id book.history) setup book id past token now draws r refl

-- ---- what a token comes to hangs on a few of the table's values alone

-- two tables that differ in windows alone
pub record Alike (t u : Places AcceptEnd Outcome) : Type 0 where
  pub limit : t.limit ≡ u.limit
  pub live : live_of t ≡ live_of u
  pub each : (id : ℕ) → context_of (slot_at t id) ≡ context_of (slot_at u id)

abbrev pub on : Stands → Places AcceptEnd Outcome → Stands
on book table = record { history = book.history; limit = book.limit; table = table; capacity = book.capacity; greatest = book.greatest }

abbrev ends_in : Option Known → ℕ
ends_in None = 0
ends_in (Some context) = context.ends

ends-by : (slot : Option (Slot AcceptEnd Outcome)) → ends_at slot ≡ ends_in (context_of slot)
ends-by None = refl
ends-by (Some slot) = refl

abbrev state_in : Option Known → Option AcceptEnd
state_in None = None
state_in (Some context) = state_taken context.state

state-by : (slot : Option (Slot AcceptEnd Outcome)) → state_of slot ≡ state_in (context_of slot)
state-by None = refl
state-by (Some slot) = refl

alike-ends : (t u : Places AcceptEnd Outcome) (id : ℕ) → Alike t u → ends_at (slot_at t id) ≡ ends_at (slot_at u id)
alike-ends t u id a = ends-by (slot_at t id) ∙ (ap ends_in (a.each id) ∙ sym (ends-by (slot_at u id)))

alike-state : (t u : Places AcceptEnd Outcome) (id : ℕ) → Alike t u → state_of (slot_at t id) ≡ state_of (slot_at u id)
alike-state t u id a = state-by (slot_at t id) ∙ (ap state_in (a.each id) ∙ sym (state-by (slot_at u id)))

alike-until : (t u : Places AcceptEnd Outcome) (id : Option ℕ) (now : ℕ) → Alike t u → until_of id now t ≡ until_of id now u
alike-until t u None now a = refl
alike-until t u (Some id) now a = alike-ends t u id a

mark-same : (book : Stands) (t u : Places AcceptEnd Outcome) (id past : Option ℕ) (mark : Option Mark) (step : AcceptStep) (refusal : Option MarkRefusal) → Alike t u
    → by_mark (on book t) id past mark step refusal ≡ by_mark (on book u) id past mark step refusal
mark-same book t u id past mark step (Some refusal) a = refl
mark-same book t u id past mark step None a =
    let gone : goes_by id (next_of step) past book.history t ≡ goes_by id (next_of step) past book.history u = λ i.
    gone_of (is_crowded (settles (next_of step)) book.history (a.limit i)) (is_none id && nat_le (a.limit i) (a.live i)) (slice_get (in_use book.history) 0) past in
    λ i. record {
      answer = answer_with (id_of id book.history) step;
      history = entered id (gone i) mark (next_of step) book.greatest book.history;
      change = Becomes (gone i) (id_of id book.history) (context_after (alike-until t u id book.greatest a i) (next_of step));
    }

step-same : (book : Stands) (t u : Places AcceptEnd Outcome) (id past : Option ℕ) (taken : Result Accepted NegRefusal) → Alike t u → by_step (on book t) id past taken ≡ by_step (on book u) id past taken
step-same book t u id past (Err refusal) a = refl
step-same book t u id past (Ok accepted) a =
    mark-same book t u id past (mark_of accepted.step) (settled_of accepted.step) (mark_refused book.capacity book.greatest (taken_of book.history) (mark_of accepted.step)) a

begun-same : (setup : AcceptSetup) (book : Stands) (t u : Places AcceptEnd Outcome) (past : Option ℕ) (token : List ℕ) (now : ℕ) (draws : List ℕ) → Alike t u
    → begun setup (on book t) past token now draws ≡ begun setup (on book u) past token now draws
begun-same setup book t u past token now draws a = λ i.
    if nat_lt book.limit (length book.history + 4) then leaves book.history refusals.LogFull
    else if nat_le (a.limit i) (a.live i) && is_none past then leaves book.history refusals.TableFull
    else step-same book t u None past (accept_step setup ends.New token now draws) a i

opened-same : (setup : AcceptSetup) (book : Stands) (t u : Places AcceptEnd Outcome) (id : ℕ) (past : Option ℕ) (token : List ℕ) (now : ℕ) (draws : List ℕ) → Alike t u
    → opened_by setup (on book t) id past token now draws ≡ opened_by setup (on book u) id past token now draws
opened-same setup book t u id past token now draws a =
    let by : by_step (on book t) (Some id) past (later_step setup (state_of (slot_at t id)) token now draws) ≡ by_step (on book u) (Some id) past (later_step setup (state_of (slot_at u id)) token now draws) =
    ap (λ (end : Option AcceptEnd). by_step (on book t) (Some id) past (later_step setup end token now draws)) (alike-state t u id a)
    ∙ step-same book t u (Some id) past (later_step setup (state_of (slot_at u id)) token now draws) a in
    λ i. if nat_lt book.limit (length book.history + 4) then leaves book.history refusals.LogFull else by i

gone-same : (stands : Standing) (setup : AcceptSetup) (book : Stands) (t u : Places AcceptEnd Outcome) (id : ℕ) (past : Option ℕ) (token : List ℕ) (now : ℕ) (draws : List ℕ) → Alike t u
    → gone_on_by stands setup (on book t) id past token now draws ≡ gone_on_by stands setup (on book u) id past token now draws
gone-same Unknown setup book t u id past token now draws a = refl
gone-same (Open at) setup book t u id past token now draws a = opened-same setup book t u id past token now draws a
gone-same (Whole mech names until) setup book t u id past token now draws a = refl
gone-same Over setup book t u id past token now draws a = refl

pub negotiated-same : (setup : AcceptSetup) (book : Stands) (t u : Places AcceptEnd Outcome) (id past : Option ℕ) (token : List ℕ) (now : ℕ) (draws : List ℕ) → Alike t u
    → negotiated setup (on book t) id past token now draws ≡ negotiated setup (on book u) id past token now draws
negotiated-same setup book t u None past token now draws a = begun-same setup book t u past token now draws a
negotiated-same setup book t u (Some id) past token now draws a = gone-same (standing id book.history) setup book t u id past token now draws a
