-- What a token comes to is what stands before it.
use Rattle.std.proofs.Common.{◌≡◌, ◌∙◌, ℕ, ◌+◌, ◌<◌, ◌≤◌, max, Bool, true, false, refl, ap, sym, subst, inl, inr, arith, List, [], length, Option, Some, None, Result, Ok, Err}
use Rattle.std.specs.List.{slice_get}
use Rattle.std.specs.Prelude.{◌&&◌, if◌then◌else◌, nat_lt, nat_le, is_none, IfSome, IsSomeAnd}
use Rattle.std.proofs.lemmas.Bool.{ltb-true, ltb-false, leb-true, leb-false, and_parts, eq-eqb, true≢false}
use Rattle.std.proofs.lemmas.Option.{none-some}
use Rattle.gss_base.specs.declared.mark.Mark.{Mark}
use Rattle.replay_cache.specs.Taking.{skew}
use Rattle.spnego_core.specs.declared.accept_end.AcceptEnd.{AcceptEnd}
use Rattle.spnego_core.specs.declared.accept_end.AcceptEnd.TheVariants as ends
use Rattle.spnego_core.specs.declared.outcome.Outcome.{Outcome}
use Rattle.spnego_core.specs.declared.refusal.NegRefusal.{NegRefusal}
use Rattle.spnego_core.specs.Accepting.{Accepted, accept_step}
use Rattle.context_table.specs.declared.slot.Slot.{Slot}
use Rattle.context_table.specs.declared.slot.SlotState.{SlotState}
use Rattle.context_table.specs.declared.slot.SlotState.TheVariants.{Negotiating, Held, Complete}
use Rattle.context_table.specs.Slots.{waits}
use Rattle.context_table.specs.Places.{slot_at, live_of, state_of, IsPast, IsWaiting, is_waiting}
use Rattle.accept_core.specs.declared.answer.MarkRefusal.{MarkRefusal}
use Rattle.accept_core.specs.declared.answer.MarkRefusal.TheVariants as marks
use Rattle.accept_core.specs.declared.entry.Entry.{Entry}
use Rattle.accept_core.specs.declared.entry.Receipt.{Receipt}
use Rattle.accept_core.specs.History.{Standing, Unknown, Open, Whole, Over, standing, living, taken_of, IsGone, IsOpen, is_whole}
use Rattle.accept_core.specs.Entering.{gained, id_of, entered, mark_refused}
use Rattle.accept_core.specs.declared.answer.Next.{Next}
use Rattle.accept_core.specs.Aging.{in_use}
use Rattle.accept_core.specs.Stepping.{context_of, IsNext, gone_of, is_crowded, settles}
use Rattle.accept_core.proofs.Steps.{gained-none}
use Rattle.accept_book.specs.declared.book_answer.NegAnswer.{NegAnswer}
use Rattle.accept_book.specs.declared.book_answer.NegAnswer.TheVariants as answers
use Rattle.accept_book.specs.Booking.{BookOf, Stands, Outcomes, raised, mark_of, next_of, settled_of, answer_with, refusal_of_mark, by_mark, by_step, later_step, begun, opened_by, gone_on_by, negotiated}
use Rattle.accept_book.specs.RecordShown.{Asked}
use Rattle.history_laws.specs.Before.{Before, Made, is_for, made_in, ends_by, IsOver, Lasts, PastBy, OpenBy, NextBy}
use Rattle.history_laws.specs.Seen.{IsDue, StepsTo, MarkRefused, StandsAt, IsFull, StepTaken, StepSeen}
use Rattle.history_laws.proofs.Contexts.{MatchesState, Matches, Ready, opens, later-is}
use Rattle.history_laws.proofs.Marks.{RefusedMark, why-refused, held-stands}
use Rattle.history_laws.proofs.Near.{near, stale}
use Rattle.history_laws.proofs.Steps.{for-own}
use Rattle.history_laws.proofs.Views.{before_in}

-- ---- which context is past its end, by the log

gone-ends : (stands : Standing) → IsGone stands → ends_by stands ≡ None
gone-ends Unknown g = refl
gone-ends (Open at) g = absurd g
gone-ends (Whole mech names ends) g = absurd g
gone-ends Over g = refl

state-ends : (made : Option Made) (stands : Standing) (state : SlotState AcceptEnd Outcome) (until : ℕ) → MatchesState made stands state until → ends_by stands ≡ Some until
state-ends made stands (Negotiating end) until m = ap ends_by m.1 ∙ ap (λ (n : ℕ). Some n) (sym m.2)
state-ends made stands Held until m = absurd m
state-ends made stands (Complete outcome) until m = ap ends_by m.0

slot-lasts : (made : Option Made) (stands : Standing) (slot : Option (Slot AcceptEnd Outcome)) (now : ℕ) → Matches made stands (context_of slot) → IfSome slot (λ s. now ≤ s.ends) → Lasts (ends_by stands) now
slot-lasts made stands None now m h = subst (λ (e : Option ℕ). Lasts e now) (sym (gone-ends stands m)) tt
slot-lasts made stands (Some slot) now m h = subst (λ (e : Option ℕ). Lasts e now) (sym (state-ends made stands slot.state slot.ends m)) h

slot-over : (made : Option Made) (stands : Standing) (slot : Option (Slot AcceptEnd Outcome)) (now : ℕ) → Matches made stands (context_of slot) → IsSomeAnd slot (λ s. s.ends < now) → IsOver (ends_by stands) now
slot-over made stands None now m h = absurd h
slot-over made stands (Some slot) now m h = subst (λ (e : Option ℕ). IsOver e now) (sym (state-ends made stands slot.state slot.ends m)) h

past-by : (book : Stands) (mades : ℕ → Option Made) (past : Option ℕ) → Ready book mades → IsPast book.table book.greatest past → PastBy book.history book.greatest past
past-by book mades None r h = λ id. slot-lasts (mades id) (standing id book.history) (slot_at book.table id) book.greatest (r.each id) (h id)
past-by book mades (Some id) r h = (
  slot-over (mades id) (standing id book.history) (slot_at book.table id) book.greatest (r.each id) h.0,
  λ other lt. slot-lasts (mades other) (standing other book.history) (slot_at book.table other) book.greatest (r.each other) (h.1 other lt),
)

off : false ≡ true → ⊥
off e = true≢false (sym e)

-- ---- which context negotiates and was opened first, by the log

state-waits : (made : Option Made) (stands : Standing) (state : SlotState AcceptEnd Outcome) (until : ℕ) → MatchesState made stands state until → waits state ≡ true → IsOpen stands
state-waits made stands (Negotiating end) until m w = subst IsOpen (sym m.1) tt
state-waits made stands Held until m w = absurd m
state-waits made stands (Complete outcome) until m w = absurd (off w)

state-rests : (made : Option Made) (stands : Standing) (state : SlotState AcceptEnd Outcome) (until : ℕ) → MatchesState made stands state until → waits state ≡ false → IsOpen stands → ⊥
state-rests made stands (Negotiating end) until m w still = true≢false w
state-rests made stands Held until m w still = m
state-rests made stands (Complete outcome) until m w still = subst IsOpen m.0 still

gone-closed : (stands : Standing) → IsGone stands → IsOpen stands → ⊥
gone-closed Unknown g still = still
gone-closed (Open at) g still = g
gone-closed (Whole mech names ends) g still = g
gone-closed Over g still = still

slot-waits : (made : Option Made) (stands : Standing) (slot : Option (Slot AcceptEnd Outcome)) → Matches made stands (context_of slot) → is_waiting slot ≡ true → IsOpen stands
slot-waits made stands None m w = absurd (off w)
slot-waits made stands (Some slot) m w = state-waits made stands slot.state slot.ends m w

slot-rests : (made : Option Made) (stands : Standing) (slot : Option (Slot AcceptEnd Outcome)) → Matches made stands (context_of slot) → is_waiting slot ≡ false → IsOpen stands → ⊥
slot-rests made stands None m w still = gone-closed stands m still
slot-rests made stands (Some slot) m w still = state-rests made stands slot.state slot.ends m w still

open-by : (book : Stands) (mades : ℕ → Option Made) (waiting : Option ℕ) → Ready book mades → IsWaiting book.table waiting → OpenBy book.history waiting
open-by book mades None r none = λ id still. slot-rests (mades id) (standing id book.history) (slot_at book.table id) (r.each id) (none id) still
open-by book mades (Some id) r w = (
  slot-waits (mades id) (standing id book.history) (slot_at book.table id) (r.each id) w.0,
  λ other lt still. slot-rests (mades other) (standing other book.history) (slot_at book.table other) (r.each other) (w.1 other lt) still,
)

next-by : (book : Stands) (mades : ℕ → Option Made) (past : Option ℕ) → Ready book mades → IsNext book.table book.greatest past → NextBy book.table.limit book.history book.greatest past
next-by book mades None r n = (past-by book mades None r n.0, λ many. open-by book mades None r (n.1 many))
next-by book mades (Some id) r (inl is) = inl (past-by book mades (Some id) r is)
next-by book mades (Some id) r (inr w) = inr (past-by book mades None r w.0, w.1, open-by book mades (Some id) r w.2)

-- ---- what is seen of an outcome

-- what stands before a token: its book, the questions so far, and the contexts as they are seen, which are as many as the log says
pub record Stood (book : BookOf) (asked : List (Asked Receipt)) (now : ℕ) (past : Option ℕ) : Type 0 where
  pub ready : Ready (raised book.core now) (λ id. made_in book.setup id asked)
  pub is_past : IsNext book.core.table (max book.core.cache.greatest now) past
  pub lives : live_of book.core.table ≡ living book.core.history

abbrev pub SeenOf : BookOf → List (Asked Receipt) → Option ℕ → List ℕ → ℕ → List ℕ → Outcomes → Type 0
SeenOf book asked id token now draws o = StepSeen (before_in book asked) id token now draws o.answer (gained (length book.core.history) o.history)

-- one of two, by a test
either : (P : Outcomes → Type 0) (b : Bool) (x y : Outcomes) → (b ≡ true → P x) → (b ≡ false → P y) → P (if b then x else y)
either P true x y f g = f refl
either P false x y f g = g refl

nothing-gained : (h : List Entry) → gained (length h) h ≡ []
nothing-gained h = gained-none (length h) h (omega arith)

-- ---- a step

-- an answer of a step that was taken isn't a refusal
answered-own : (own : ℕ) (step : _) (answer : NegAnswer) → answer ≡ answer_with own step → is_for own answer ≡ true
answered-own own step answer e = ap (is_for own) e ∙ (for-own own own step ∙ eq-eqb own own refl)

taken-seen : (before : Before) (id : Option ℕ) (token : List ℕ) (now : ℕ) (draws : List ℕ) (answer : NegAnswer) (receipts : List Receipt) → is_for (id_of id before.log) answer ≡ true
    → StepTaken before id token now draws answer receipts → StepSeen before id token now draws answer receipts
taken-seen before id token now draws (answers.Going own reply) receipts e t = t
taken-seen before id token now draws (answers.Settled lease reply) receipts e t = t
taken-seen before id token now draws (answers.Refused refusal) receipts e t = absurd (off e)
taken-seen before id token now draws answers.NoMemory receipts e t = absurd (off e)

-- a mark that is refused
refused-seen : (book : BookOf) (asked : List (Asked Receipt)) (id : Option ℕ) (token : List ℕ) (now : ℕ) (draws : List ℕ) (receipts : List Receipt) (accepted : Accepted) (refusal : MarkRefusal)
    → (step : StepsTo (before_in book asked) id token now draws (Ok accepted))
    → RefusedMark book.core.cache.capacity (max book.core.cache.greatest now) (taken_of book.core.history) (mark_of accepted.step) refusal
    → ((asks : Mark) → mark_of accepted.step ≡ Some asks → (r : MarkRefused (before_in book asked) id token now draws receipts) × (r.mark ≡ asks))
    → StepSeen (before_in book asked) id token now draws (answers.Refused (refusal_of_mark refusal)) receipts
refused-seen book asked id token now draws receipts accepted (marks.Stale greatest) step w refused =
    let r = refused w.mark w.is in
    let s = stale book.core.cache.greatest now w.mark (near book.setup step.end token now draws accepted w.mark step.is w.is) w.why.1 in
    let is : greatest ≡ book.core.cache.greatest = w.why.0 ∙ s.seen in
    (r.0, record { seen = is; later = subst (λ (g : ℕ). now < g) (sym is) s.later; old = subst (λ (g : ℕ). r.0.mark.at + skew < g) (sym is) (subst (λ (m : Mark). m.at + skew < book.core.cache.greatest) (sym r.1) s.old) })
refused-seen book asked id token now draws receipts accepted (marks.Repeat place) step w refused =
    let r = refused w.mark w.is in
    (r.0, subst (λ (m : Mark). StandsAt book.core.history place m) (sym r.1) (held-stands book.core.history (max book.core.cache.greatest now) w.mark place w.why))
refused-seen book asked id token now draws receipts accepted marks.CacheFull step w refused =
    let r = refused w.mark w.is in
    (r.0, subst (λ (m : Mark). IsFull (before_in book asked) now m) (sym r.1) (record { new = w.why.0; many = w.why.1 }))

-- the context that goes, by how many live
abbrev goes_lives : BookOf → Option ℕ → Next AcceptEnd Outcome → Option ℕ → ℕ → Option ℕ
goes_lives book id step next live =
    gone_of (is_crowded (settles step) book.core.history book.core.table.limit) (is_none id && nat_le book.core.table.limit live) (slice_get (in_use book.core.history) 0) next

seen-mark : (book : BookOf) (asked : List (Asked Receipt)) (id past : Option ℕ) (token : List ℕ) (now : ℕ) (draws : List ℕ) (accepted : Accepted) (refusal : Option MarkRefusal) → Stood book asked now past
    → StepsTo (before_in book asked) id token now draws (Ok accepted)
    → mark_refused book.core.cache.capacity (max book.core.cache.greatest now) (taken_of book.core.history) (mark_of accepted.step) ≡ refusal
    → SeenOf book asked id token now draws (by_mark (raised book.core now) id past (mark_of accepted.step) (settled_of accepted.step) refusal)
seen-mark book asked id past token now draws accepted (Some refusal) stood step e =
    refused-seen book asked id token now draws _ accepted refusal step
    (why-refused book.core.cache.capacity (max book.core.cache.greatest now) (taken_of book.core.history) (mark_of accepted.step) refusal e)
    (λ asks is. (record { accepted = accepted; step = step; mark = asks; asks = is; ends = refl }, refl))
seen-mark book asked id past token now draws accepted None stood step e =
    taken-seen (before_in book asked) id token now draws (answer_with (id_of id book.core.history) (settled_of accepted.step)) _
    (answered-own (id_of id book.core.history) (settled_of accepted.step) _ refl)
    (record {
      accepted = accepted;
      step = step;
      unmarked = e;
      says = refl;
      past = past;
      is_past = next-by (raised book.core now) (λ k. made_in book.setup k asked) past stood.ready stood.is_past;
      gains = ap (λ (n : ℕ). gained (length book.core.history) (entered id (goes_lives book id (next_of (settled_of accepted.step)) past n) (mark_of accepted.step) (next_of (settled_of accepted.step)) (max book.core.cache.greatest now) book.core.history)) stood.lives;
    })

seen-step : (book : BookOf) (asked : List (Asked Receipt)) (id past : Option ℕ) (token : List ℕ) (now : ℕ) (draws : List ℕ) (answer : Result Accepted NegRefusal) → Stood book asked now past
    → StepsTo (before_in book asked) id token now draws answer → SeenOf book asked id token now draws (by_step (raised book.core now) id past answer)
seen-step book asked id past token now draws (Err refusal) stood step = record { step = step; ends = refl }
seen-step book asked id past token now draws (Ok accepted) stood step =
    seen-mark book asked id past token now draws accepted (mark_refused book.core.cache.capacity (max book.core.cache.greatest now) (taken_of book.core.history) (mark_of accepted.step)) stood step refl

-- ---- a first token

full-next : (book : BookOf) (asked : List (Asked Receipt)) (now : ℕ) (past : Option ℕ) → is_none past ≡ true → Stood book asked now past → NextBy book.core.table.limit book.core.history (max book.core.cache.greatest now) None
full-next book asked now None e stood = next-by (raised book.core now) (λ k. made_in book.setup k asked) None stood.ready stood.is_past
full-next book asked now (Some id) e stood = absurd (off e)

-- as many contexts live by the log as may, or fewer
full-lives : (book : BookOf) (asked : List (Asked Receipt)) (now : ℕ) (past : Option ℕ) → nat_le book.core.table.limit (live_of book.core.table) ≡ true → Stood book asked now past → book.core.table.limit ≤ living book.core.history
full-lives book asked now past e stood = subst (λ (n : ℕ). book.core.table.limit ≤ n) stood.lives (leb-true book.core.table.limit (live_of book.core.table) e)

left-false : (a b : Bool) → b ≡ true → (a && b) ≡ false → a ≡ false
left-false true b t f = absurd (true≢false (sym t ∙ f))
left-false false b t f = refl

not-over : (lasts : Option ℕ) (now : ℕ) → Lasts lasts now → IsOver lasts now → ⊥
not-over None now last over = over
not-over (Some ends) now last over = omega (arith, last, over)

-- none is next by the log, and one is
never-next : (contexts : ℕ) (log : List Entry) (now id : ℕ) → NextBy contexts log now None → NextBy contexts log now (Some id) → ⊥
never-next contexts log now id none (inl over) = not-over (ends_by (standing id log)) now (none.0 id) over.0
never-next contexts log now id none (inr still) = none.1 still.1 id (still.2).0

place-lives : (book : BookOf) (asked : List (Asked Receipt)) (now : ℕ) (past : Option ℕ) → (nat_le book.core.table.limit (live_of book.core.table) && is_none past) ≡ false → Stood book asked now past
    → NextBy book.core.table.limit book.core.history (max book.core.cache.greatest now) None → living book.core.history < book.core.table.limit
place-lives book asked now None e stood none =
    subst (λ (n : ℕ). n < book.core.table.limit) stood.lives
    (leb-false book.core.table.limit (live_of book.core.table) (left-false (nat_le book.core.table.limit (live_of book.core.table)) true refl e))
place-lives book asked now (Some id) e stood none =
    absurd (never-next book.core.table.limit book.core.history (max book.core.cache.greatest now) id none
    (next-by (raised book.core now) (λ k. made_in book.setup k asked) (Some id) stood.ready stood.is_past))

seen-begun : (book : BookOf) (asked : List (Asked Receipt)) (past : Option ℕ) (token : List ℕ) (now : ℕ) (draws : List ℕ) → Stood book asked now past
    → SeenOf book asked None token now draws (begun book.setup (raised book.core now) past token now draws)
seen-begun book asked past token now draws stood =
    either (SeenOf book asked None token now draws) (nat_lt book.core.limit (length book.core.history + 4)) _ _
    (λ few. (tt, ltb-true book.core.limit (length book.core.history + 4) few, nothing-gained book.core.history))
    (λ enough.
    let due : IsDue (before_in book asked) None = record { negotiates = tt; room = ltb-false book.core.limit (length book.core.history + 4) enough } in
    either (SeenOf book asked None token now draws) (nat_le book.core.table.limit (live_of book.core.table) && is_none past) _ _
    (λ full.
    let parts = and_parts (nat_le book.core.table.limit (live_of book.core.table)) (is_none past) full in
    (refl, due, full-lives book asked now past parts.0 stood, full-next book asked now past parts.1 stood, nothing-gained book.core.history))
    (λ place. seen-step book asked None past token now draws (accept_step book.setup ends.New token now draws) stood
    (record { due = due; placed = λ first none. place-lives book asked now past place stood none; end = ends.New; left = refl; is = refl })))

-- ---- a later token

seen-opened : (book : BookOf) (asked : List (Asked Receipt)) (id : ℕ) (past : Option ℕ) (token : List ℕ) (now : ℕ) (draws : List ℕ) (at : ℕ) → standing id book.core.history ≡ Open at → Stood book asked now past
    → SeenOf book asked (Some id) token now draws (opened_by book.setup (raised book.core now) id past token now draws)
seen-opened book asked id past token now draws at is stood =
    let negotiates : IsOpen (standing id book.core.history) = subst IsOpen (sym is) tt in
    let o = opens (raised book.core now) (λ k. made_in book.setup k asked) id at stood.ready is in
    either (SeenOf book asked (Some id) token now draws) (nat_lt book.core.limit (length book.core.history + 4)) _ _
    (λ few. (negotiates, ltb-true book.core.limit (length book.core.history + 4) few, nothing-gained book.core.history))
    (λ enough. seen-step book asked (Some id) past token now draws (later_step book.setup (state_of (slot_at book.core.table id)) token now draws) stood
    (record {
      due = record { negotiates = negotiates; room = ltb-false book.core.limit (length book.core.history + 4) enough };
      placed = λ first none. absurd (none-some id (sym first));
      end = o.end;
      left = o.was;
      is = later-is book.setup (state_of (slot_at book.core.table id)) o.end token now draws o.state;
    }))

seen-gone : (stands : Standing) (book : BookOf) (asked : List (Asked Receipt)) (id : ℕ) (past : Option ℕ) (token : List ℕ) (now : ℕ) (draws : List ℕ) → standing id book.core.history ≡ stands → Stood book asked now past
    → SeenOf book asked (Some id) token now draws (gone_on_by stands book.setup (raised book.core now) id past token now draws)
seen-gone Unknown book asked id past token now draws is stood = (subst IsGone (sym is) tt, nothing-gained book.core.history)
seen-gone (Open at) book asked id past token now draws is stood = seen-opened book asked id past token now draws at is stood
seen-gone (Whole mech names until) book asked id past token now draws is stood = (ap is_whole is, nothing-gained book.core.history)
seen-gone Over book asked id past token now draws is stood = (subst IsGone (sym is) tt, nothing-gained book.core.history)

pub seen-negotiated : (book : BookOf) (asked : List (Asked Receipt)) (id past : Option ℕ) (token : List ℕ) (now : ℕ) (draws : List ℕ) → Stood book asked now past
    → SeenOf book asked id token now draws (negotiated book.setup (raised book.core now) id past token now draws)
seen-negotiated book asked None past token now draws stood = seen-begun book asked past token now draws stood
seen-negotiated book asked (Some id) past token now draws stood = seen-gone (standing id book.core.history) book asked id past token now draws refl stood
