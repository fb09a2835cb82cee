-- The contexts of a book are what its log says and what the machine makes by their steps, and so they stay by each token.
use Rattle.std.proofs.Common.{◌≡◌, ◌≢◌, ◌∙◌, ℕ, ◌+◌, Bool, true, false, ◌==◌, refl, ap, sym, subst, inl, inr, List, ◌∷◌, length, Option, Some, None, Result, Ok, Err}
use Rattle.std.specs.List.{slice_get}
use Rattle.std.specs.Prelude.{◌&&◌, if◌then◌else◌, nat_lt, nat_le, is_none}
use Rattle.std.proofs.lemmas.Bool.{cases_eq, eq-eqb, ne_eqb, eqb-true, true≢false}
use Rattle.gss_base.specs.declared.mark.Mark.{Mark}
use Rattle.spnego_core.specs.declared.accept_end.AcceptEnd.{AcceptEnd}
use Rattle.spnego_core.specs.declared.accept_end.AcceptEnd.TheVariants as ends
use Rattle.spnego_core.specs.declared.accept_end.AcceptStep.{AcceptStep}
use Rattle.spnego_core.specs.declared.accept_end.AcceptStep.TheVariants as steps
use Rattle.spnego_core.specs.declared.accept_end.Answered.{Answered}
use Rattle.spnego_core.specs.declared.accept_end.Answered.TheVariants as afters
use Rattle.spnego_core.specs.declared.outcome.Outcome.{Outcome}
use Rattle.spnego_core.specs.declared.refusal.NegRefusal.{NegRefusal}
use Rattle.spnego_core.specs.declared.setup.AcceptSetup.{AcceptSetup}
use Rattle.spnego_core.specs.Accepting.{Accepted, accept_step}
use Rattle.context_table.specs.declared.slot.Slot.{Slot}
use Rattle.context_table.specs.declared.slot.SlotState.{SlotState}
use Rattle.context_table.specs.declared.slot.SlotState.TheVariants.{Negotiating, Held, Complete}
use Rattle.context_table.specs.Places.{slot_at, live_of, state_of}
use Rattle.accept_core.specs.declared.answer.MarkRefusal.{MarkRefusal}
use Rattle.accept_core.specs.declared.answer.Next.{Next}
use Rattle.accept_core.specs.declared.answer.Next.TheVariants as nexts
use Rattle.accept_core.specs.declared.entry.Entry.{Entry}
use Rattle.accept_core.specs.declared.entry.Entry.TheVariants.{Opened}
use Rattle.accept_core.specs.History.{Standing, Unknown, Open, Whole, Over, standing, opened, taken_of, IsGone}
use Rattle.accept_core.specs.Entering.{lapsed, noted, finished, mark_refused}
use Rattle.accept_core.specs.Replays.{end_of_opened}
use Rattle.accept_core.specs.Aging.{in_use}
use Rattle.accept_core.specs.Stepping.{goes_by, gone_of, is_crowded, settles, Context, context_of, context_after, until_of, ends_at}
use Rattle.accept_book.specs.declared.book_answer.BookRefusal.{BookRefusal}
use Rattle.accept_book.specs.declared.book_answer.BookRefusal.TheVariants as refusals
use Rattle.accept_book.specs.declared.book_answer.NegAnswer.TheVariants as answers
use Rattle.accept_book.specs.Booking.{names_of, Stands, Outcomes, changed, without, leaves, spends, next_answered, next_of, mark_of, settled_of, by_mark, by_step, later_step, begun, opened_by, gone_on_by, negotiated}
use Rattle.history_laws.specs.Before.{Step, is_for, Made, Negotiates, Settles, made_by, then_step}
use Rattle.history_laws.proofs.Steps.{made_with, for-own}

abbrev Known : Type 0
Known = Context AcceptEnd Outcome

-- ---- one context

-- a context's state and end are what the machine made and what the log says of its id
abbrev pub MatchesState : Option Made → Standing → SlotState AcceptEnd Outcome → ℕ → Type 0
MatchesState made stands (Negotiating end) until = (at : ℕ) × (stands ≡ Open at) × (until ≡ end_of_opened at) × (made ≡ Some (Negotiates end))
MatchesState made stands Held until = ⊥
MatchesState made stands (Complete outcome) until = (stands ≡ Whole outcome.mech (names_of outcome) until) × (made ≡ Some (Settles outcome until))

-- the same of a context, where there is one; else the log says that the id isn't opened, or is ended
abbrev pub Matches : Option Made → Standing → Option Known → Type 0
Matches made stands None = IsGone stands
Matches made stands (Some context) = MatchesState made stands context.state context.ends

-- the log knows of a context that there is
state-known : (made : Option Made) (stands : Standing) (state : SlotState AcceptEnd Outcome) (until : ℕ) → MatchesState made stands state until → stands ≡ Unknown → ⊥
state-known made stands (Negotiating end) until m e = let f : Open m.0 ≡ Unknown = sym m.1 ∙ e in absurd cc
state-known made stands Held until m e = m
state-known made stands (Complete outcome) until m e = let f : Whole outcome.mech (names_of outcome) until ≡ Unknown = sym m.0 ∙ e in absurd cc

-- what a token made of the contexts: they match, where the answer's id has one step more. That id is known, and was not settled before
pub record Fits (setup : AcceptSetup) (book : Stands) (mades : ℕ → Option Made) (step : Step) (o : Outcomes) : Type 0 where
  pub each : (id : ℕ) → Matches (made_with setup (mades id) step (is_for id o.answer)) (standing id o.history) (changed o.change id (context_of (slot_at book.table id)))
  pub known : (id : ℕ) → is_for id o.answer ≡ true → standing id o.history ≡ Unknown → ⊥
  pub unsettled : (id : ℕ) (outcome : Outcome) (until : ℕ) → mades id ≡ Some (Settles outcome until) → is_for id o.answer ≡ false

-- before a token: the contexts match, and the machine has made nothing of an id that isn't opened
pub record Ready (book : Stands) (mades : ℕ → Option Made) : Type 0 where
  pub each : (id : ℕ) → Matches (mades id) (standing id book.history) (context_of (slot_at book.table id))
  pub first : standing (opened book.history + 1) book.history ≡ Unknown
  pub fresh : mades (opened book.history + 1) ≡ Some (Negotiates ends.New)

-- ---- tokens that aren't taken

off : false ≡ true → ⊥
off e = true≢false (sym e)

fits-leaves : (setup : AcceptSetup) (book : Stands) (mades : ℕ → Option Made) (step : Step) (refusal : BookRefusal) → Ready book mades → Fits setup book mades step (leaves book.history refusal)
fits-leaves setup book mades step refusal r = record { each = r.each; known = λ id e. absurd (off e); unsettled = λ id outcome until e. refl }

gone-each : (b : Bool) (before : Option Known) (made : Option Made) (stands : Standing) → Matches made stands before → Matches made (if b then Over else stands) (if b then None else before)
gone-each true before made stands m = tt
gone-each false before made stands m = m

pub fits-refused : (setup : AcceptSetup) (book : Stands) (mades : ℕ → Option Made) (step : Step) (id : Option ℕ) (refusal : BookRefusal) → Ready book mades
    → Fits setup book mades step (spends id book.history (answers.Refused refusal))
fits-refused setup book mades step None refusal r = record { each = r.each; known = λ id e. absurd (off e); unsettled = λ id outcome until e. refl }
fits-refused setup book mades step (Some gone) refusal r = record {
  each = λ id. gone-each (gone == id) (context_of (slot_at book.table id)) (mades id) (standing id book.history) (r.each id);
  known = λ id e. absurd (off e);
  unsettled = λ id outcome until e. refl;
}

pub fits-memory : (setup : AcceptSetup) (book : Stands) (mades : ℕ → Option Made) (step : Step) (id : Option ℕ) → Ready book mades
    → Fits setup book mades step (spends id book.history answers.NoMemory)
fits-memory setup book mades step None r = record { each = r.each; known = λ id e. absurd (off e); unsettled = λ id outcome until e. refl }
fits-memory setup book mades step (Some gone) r = record {
  each = λ id. gone-each (gone == id) (context_of (slot_at book.table id)) (mades id) (standing id book.history) (r.each id);
  known = λ id e. absurd (off e);
  unsettled = λ id outcome until e. refl;
}

-- ---- the entries of a step

-- what a step settles is named as the log names it
abbrev Named : Next AcceptEnd Outcome → Type 0
Named (nexts.Going state) = Unit {0}
Named (nexts.Settled mech names outcome ends) = (mech ≡ outcome.mech) × (names ≡ names_of outcome)

named-answered : (after : Answered) → Named (next_answered after)
named-answered (afters.More end token) = tt
named-answered (afters.Done outcome lasts token) = (refl, refl)

named-of : (step : AcceptStep) → Named (next_of step)
named-of (steps.More end token) = tt
named-of (steps.Done outcome lasts token) = (refl, refl)
named-of (steps.WantsAuth pause) = named-answered pause.after

standing-noted : (mark : Option Mark) (own now id : ℕ) (h : List Entry) → standing id (noted mark own now h) ≡ standing id h
standing-noted None own now id h = refl
standing-noted (Some mark) own now id h = refl

standing-finished : (first : Bool) (next : Next AcceptEnd Outcome) (own now id : ℕ) (h : List Entry) → own ≢ id → standing id (finished first next own now h) ≡ standing id h
standing-finished true (nexts.Going state) own now id h ne = refl
standing-finished false (nexts.Going state) own now id h ne = refl
standing-finished true (nexts.Settled mech names outcome ends) own now id h ne = rw (ne_eqb own id ne) refl
standing-finished false (nexts.Settled mech names outcome ends) own now id h ne = rw (ne_eqb own id ne) refl

-- the step's own context
own-settled : (mech : _) (names : List ℕ) (outcome : Outcome) (lasts own now : ℕ) (h : List Entry) → mech ≡ outcome.mech → names ≡ names_of outcome
    → Matches (Some (Settles outcome lasts)) (if own == own then Whole mech names lasts else standing own h) (Some (record { state = Complete outcome; ends = lasts }))
own-settled mech names outcome lasts own now h is digest = rw (eq-eqb own own refl) ((λ i. Whole (is i) (digest i) lasts), refl)

own-context : (first : Bool) (next : Next AcceptEnd Outcome) (own now until at : ℕ) (h : List Entry) → Named next → standing own h ≡ Open at → until ≡ end_of_opened at
    → Matches (Some (made_by next)) (standing own (finished first next own now h)) (Some (context_after until next))
own-context true (nexts.Going state) own now until at h named is ends = (at, is, ends, refl)
own-context false (nexts.Going state) own now until at h named is ends = (at, is, ends, refl)
own-context true (nexts.Settled mech names outcome lasts) own now until at h named is ends = own-settled mech names outcome lasts own now h named.0 named.1
own-context false (nexts.Settled mech names outcome lasts) own now until at h named is ends = own-settled mech names outcome lasts own now h named.0 named.1

-- ---- a step that was taken

-- the machine took the token from what it had made of the id
pub record From (setup : AcceptSetup) (made : Option Made) (step : Step) (accepted : Accepted) : Type 0 where
  pub end : AcceptEnd
  pub was : made ≡ Some (Negotiates end)
  pub taken : accept_step setup end step.token step.now step.draws ≡ Ok accepted

-- what it has made then
made-then : (setup : AcceptSetup) (made : Option Made) (step : Step) (accepted : Accepted) → From setup made step accepted → then_step setup made step ≡ Some (made_by (next_of (settled_of accepted.step)))
made-then setup made step accepted f = rw (f.was, f.taken) refl

not-settled : (setup : AcceptSetup) (mades : ℕ → Option Made) (step : Step) (accepted : Accepted) (own id : ℕ) (outcome : Outcome) (until : ℕ) → From setup (mades own) step accepted
    → mades id ≡ Some (Settles outcome until) → own ≢ id
not-settled setup mades step accepted own id outcome until f e same =
    let g : Some (Negotiates f.end) ≡ Some (Settles outcome until) = sym f.was ∙ (ap mades same ∙ e) in absurd cc

lapse-each : (gone : Option ℕ) (id : ℕ) (h : List Entry) (made : Option Made) (before : Option Known) → Matches made (standing id h) before
    → Matches made (standing id (lapsed gone h)) (without gone id before)
lapse-each None id h made before m = m
lapse-each (Some gone) id h made before m = gone-each (gone == id) before made (standing id h) m

opened-own : (own now : ℕ) (h : List Entry) → standing own (Opened own now ∷ h) ≡ Open now
opened-own own now h = rw (eq-eqb own own refl) refl

opened-other : (own now id : ℕ) (h : List Entry) → own ≢ id → standing id (Opened own now ∷ h) ≡ standing id h
opened-other own now id h ne = rw (ne_eqb own id ne) refl

-- a step that was taken, by what it makes of its own context and of the others
fits-by : (setup : AcceptSetup) (book : Stands) (mades : ℕ → Option Made) (step : Step) (accepted : Accepted) (own : ℕ) (o : Outcomes) (after : Known) → From setup (mades own) step accepted
    → ((id : ℕ) → is_for id o.answer ≡ (own == id))
    → changed o.change own (context_of (slot_at book.table own)) ≡ Some after
    → Matches (Some (made_by (next_of (settled_of accepted.step)))) (standing own o.history) (Some after)
    → ((id : ℕ) → own ≢ id → Matches (mades id) (standing id o.history) (changed o.change id (context_of (slot_at book.table id))))
    → Fits setup book mades step o
fits-by setup book mades step accepted own o after f for is m others = record {
  each = λ id. elim (cases_eq own id) [
    | inl e ↦ subst (λ (k : ℕ). Matches (made_with setup (mades k) step (is_for k o.answer)) (standing k o.history) (changed o.change k (context_of (slot_at book.table k)))) e
        (subst (λ (b : Bool). Matches (made_with setup (mades own) step b) (standing own o.history) (changed o.change own (context_of (slot_at book.table own)))) (sym (for own ∙ eq-eqb own own refl))
        (subst (λ (c : Option Known). Matches (made_with setup (mades own) step true) (standing own o.history) c) (sym is)
        (subst (λ (x : Option Made). Matches x (standing own o.history) (Some after)) (sym (made-then setup (mades own) step accepted f)) m)))
    | inr ne ↦ subst (λ (b : Bool). Matches (made_with setup (mades id) step b) (standing id o.history) (changed o.change id (context_of (slot_at book.table id)))) (sym (for id ∙ ne_eqb own id ne)) (others id ne)
  ];
  known = λ id e none. state-known _ (standing own o.history) after.state after.ends m
      (ap (λ (k : ℕ). standing k o.history) (eqb-true own id (sym (for id) ∙ e)) ∙ none);
  unsettled = λ id outcome until e. for id ∙ ne_eqb own id (not-settled setup mades step accepted own id outcome until f e);
}

becomes-own : (lapsed : Option ℕ) (own : ℕ) (after : Known) (before : Option Known) → (if own == own then Some after else without lapsed own before) ≡ Some after
becomes-own lapsed own after before = rw (eq-eqb own own refl) refl

fits-first : (setup : AcceptSetup) (book : Stands) (mades : ℕ → Option Made) (step : Step) (past : Option ℕ) (accepted : Accepted) → Ready book mades
    → From setup (mades (opened book.history + 1)) step accepted
    → Fits setup book mades step (by_mark book None past (mark_of accepted.step) (settled_of accepted.step) None)
fits-first setup book mades step past accepted r f =
    let own = opened book.history + 1 in
    let now = book.greatest in
    let next = next_of (settled_of accepted.step) in
    let gone = goes_by None next past book.history book.table in
    let before = lapsed gone book.history in
    let mark = mark_of accepted.step in
    let opens = noted mark own now (Opened own now ∷ before) in
    let after = context_after (until_of None now book.table) next in
    fits-by setup book mades step accepted own (by_mark book None past mark (settled_of accepted.step) None) after f
    (λ id. for-own id own (settled_of accepted.step))
    (becomes-own gone own after (context_of (slot_at book.table own)))
    (own-context true next own now (end_of_opened now) now opens (named-of (settled_of accepted.step)) (standing-noted mark own now own (Opened own now ∷ before) ∙ opened-own own now before) refl)
    (λ id ne. rw (ne_eqb own id ne) (subst (λ (s : Standing). Matches (mades id) s (without gone id (context_of (slot_at book.table id))))
    (sym (standing-finished true next own now id opens ne ∙ (standing-noted mark own now id (Opened own now ∷ before) ∙ opened-other own now id before ne)))
    (lapse-each gone id book.history (mades id) (context_of (slot_at book.table id)) (r.each id))))

-- ---- a later token, of a context that negotiates

-- what a context is of whose id the log says that it was opened and nothing more
pub record Opens (book : Stands) (mades : ℕ → Option Made) (id at : ℕ) : Type 0 where
  pub end : AcceptEnd
  pub was : mades id ≡ Some (Negotiates end)
  pub state : state_of (slot_at book.table id) ≡ Some end
  pub ends : ends_at (slot_at book.table id) ≡ end_of_opened at

same-open : {a b : ℕ} → Open a ≡ Open b → a ≡ b
same-open e = cc

-- one with this state and end
state-opens : (made : Option Made) (at : ℕ) (slot : Slot AcceptEnd Outcome) (state : SlotState AcceptEnd Outcome) (until : ℕ) → slot.state ≡ state → slot.ends ≡ until → MatchesState made (Open at) state until
    → (end : AcceptEnd) × (made ≡ Some (Negotiates end)) × (state_of (Some slot) ≡ Some end) × (ends_at (Some slot) ≡ end_of_opened at)
state-opens made at slot (Negotiating end) until is ends m = (end, m.3, rw is refl, ends ∙ (m.2 ∙ ap end_of_opened (sym (same-open m.1))))
state-opens made at slot Held until is ends m = absurd m
state-opens made at slot (Complete outcome) until is ends m = let f : Open at ≡ Whole outcome.mech (names_of outcome) until = m.0 in absurd cc

slot-opens : (made : Option Made) (at : ℕ) (slot : Option (Slot AcceptEnd Outcome)) → Matches made (Open at) (context_of slot)
    → (end : AcceptEnd) × (made ≡ Some (Negotiates end)) × (state_of slot ≡ Some end) × (ends_at slot ≡ end_of_opened at)
slot-opens made at None m = absurd m
slot-opens made at (Some slot) m = state-opens made at slot slot.state slot.ends refl refl m

pub opens : (book : Stands) (mades : ℕ → Option Made) (id at : ℕ) → Ready book mades → standing id book.history ≡ Open at → Opens book mades id at
opens book mades id at r is =
    let o = slot-opens (mades id) at (slot_at book.table id) (subst (λ (s : Standing). Matches (mades id) s (context_of (slot_at book.table id))) is (r.each id)) in
    record { end = o.0; was = o.1; state = o.2; ends = o.3 }

-- a step that goes on ends none
own-later : (past : Option ℕ) (limit : ℕ) (next : Next AcceptEnd Outcome) (mark : Option Mark) (id now until at : ℕ) (h : List Entry) → Named next → standing id h ≡ Open at → until ≡ end_of_opened at
    → Matches (Some (made_by next)) (standing id (finished false next id now (noted mark id now (lapsed (gone_of (is_crowded (settles next) h limit) false (slice_get (in_use h) 0) past) h)))) (Some (context_after until next))
own-later past limit (nexts.Going state) mark id now until at h named is ends =
    own-context false (nexts.Going state) id now until at (noted mark id now h) named (standing-noted mark id now id h ∙ is) ends
own-later past limit (nexts.Settled mech names outcome lasts) mark id now until at h named is ends = own-settled mech names outcome lasts id now (noted mark id now (lapsed (gone_of (is_crowded true h limit) false (slice_get (in_use h) 0) past) h)) named.0 named.1

fits-later : (setup : AcceptSetup) (book : Stands) (mades : ℕ → Option Made) (step : Step) (id : ℕ) (past : Option ℕ) (accepted : Accepted) (at : ℕ) → Ready book mades
    → standing id book.history ≡ Open at → From setup (mades id) step accepted
    → Fits setup book mades step (by_mark book (Some id) past (mark_of accepted.step) (settled_of accepted.step) None)
fits-later setup book mades step id past accepted at r is f =
    let now = book.greatest in
    let next = next_of (settled_of accepted.step) in
    let mark = mark_of accepted.step in
    let gone = goes_by (Some id) next past book.history book.table in
    let before = lapsed gone book.history in
    let marked = noted mark id now before in
    let until = ends_at (slot_at book.table id) in
    let after = context_after until next in
    let o = opens book mades id at r is in
    fits-by setup book mades step accepted id (by_mark book (Some id) past mark (settled_of accepted.step) None) after f
    (λ k. for-own k id (settled_of accepted.step))
    (becomes-own gone id after (context_of (slot_at book.table id)))
    (own-later past book.table.limit next mark id now until at book.history (named-of (settled_of accepted.step)) is o.ends)
    (λ k ne. rw (ne_eqb id k ne) (subst (λ (s : Standing). Matches (mades k) s (without gone k (context_of (slot_at book.table k))))
    (sym (standing-finished false next id now k marked ne ∙ standing-noted mark id now k before))
    (lapse-each gone k book.history (mades k) (context_of (slot_at book.table k)) (r.each k))))

-- ---- all tokens

-- a later token's context negotiates, and the machine's answer is from the end that it has made of the id; a first token's is from a new end
abbrev Begins : AcceptSetup → Stands → (ℕ → Option Made) → Step → Option ℕ → Result Accepted NegRefusal → Type 0
Begins setup book mades step None answer = accept_step setup ends.New step.token step.now step.draws ≡ answer
Begins setup book mades step (Some id) answer = (at : ℕ) × (standing id book.history ≡ Open at) × (end : AcceptEnd) × (mades id ≡ Some (Negotiates end)) × (accept_step setup end step.token step.now step.draws ≡ answer)

fits-mark : (setup : AcceptSetup) (book : Stands) (mades : ℕ → Option Made) (step : Step) (id past : Option ℕ) (accepted : Accepted) (refusal : Option MarkRefusal) → Ready book mades
    → Begins setup book mades step id (Ok accepted) → Fits setup book mades step (by_mark book id past (mark_of accepted.step) (settled_of accepted.step) refusal)
fits-mark setup book mades step id past accepted (Some refusal) r begins = fits-refused setup book mades step id _ r
fits-mark setup book mades step None past accepted None r begins = fits-first setup book mades step past accepted r (record { end = ends.New; was = r.fresh; taken = begins })
fits-mark setup book mades step (Some id) past accepted None r begins = fits-later setup book mades step id past accepted begins.0 r begins.1 (record { end = begins.2; was = begins.3; taken = begins.4 })

fits-step : (setup : AcceptSetup) (book : Stands) (mades : ℕ → Option Made) (step : Step) (id past : Option ℕ) (answer : Result Accepted NegRefusal) → Ready book mades
    → Begins setup book mades step id answer → Fits setup book mades step (by_step book id past answer)
fits-step setup book mades step id past (Err refusal) r begins = fits-refused setup book mades step id _ r
fits-step setup book mades step id past (Ok accepted) r begins =
    fits-mark setup book mades step id past accepted (mark_refused book.capacity book.greatest (taken_of book.history) (mark_of accepted.step)) r begins

fits-if : (setup : AcceptSetup) (book : Stands) (mades : ℕ → Option Made) (step : Step) (b : Bool) (x y : Outcomes) → Fits setup book mades step x → Fits setup book mades step y
    → Fits setup book mades step (if b then x else y)
fits-if setup book mades step true x y p q = p
fits-if setup book mades step false x y p q = q

fits-begun : (setup : AcceptSetup) (book : Stands) (mades : ℕ → Option Made) (past : Option ℕ) (token : List ℕ) (now : ℕ) (draws : List ℕ) → Ready book mades
    → Fits setup book mades (record { token = token; now = now; draws = draws }) (begun setup book past token now draws)
fits-begun setup book mades past token now draws r =
    let step : Step = record { token = token; now = now; draws = draws } in
    fits-if setup book mades step (nat_lt book.limit (length book.history + 4)) _ _ (fits-leaves setup book mades step refusals.LogFull r)
    (fits-if setup book mades step (nat_le book.table.limit (live_of book.table) && is_none past) _ _ (fits-leaves setup book mades step refusals.TableFull r)
    (fits-step setup book mades step None past (accept_step setup ends.New token now draws) r refl))

-- the machine's step from the end that a context has
pub later-is : (setup : AcceptSetup) (state : Option AcceptEnd) (end : AcceptEnd) (token : List ℕ) (now : ℕ) (draws : List ℕ) → state ≡ Some end → accept_step setup end token now draws ≡ later_step setup state token now draws
later-is setup state end token now draws is = ap (λ (s : Option AcceptEnd). later_step setup s token now draws) (sym is)

fits-opened : (setup : AcceptSetup) (book : Stands) (mades : ℕ → Option Made) (id : ℕ) (past : Option ℕ) (token : List ℕ) (now : ℕ) (draws : List ℕ) (at : ℕ) → Ready book mades
    → standing id book.history ≡ Open at → Fits setup book mades (record { token = token; now = now; draws = draws }) (opened_by setup book id past token now draws)
fits-opened setup book mades id past token now draws at r is =
    let step : Step = record { token = token; now = now; draws = draws } in
    let o = opens book mades id at r is in
    fits-if setup book mades step (nat_lt book.limit (length book.history + 4)) _ _ (fits-leaves setup book mades step refusals.LogFull r)
    (fits-step setup book mades step (Some id) past (later_step setup (state_of (slot_at book.table id)) token now draws) r
    (at, is, o.end, o.was, later-is setup (state_of (slot_at book.table id)) o.end token now draws o.state))

fits-gone : (stands : Standing) (setup : AcceptSetup) (book : Stands) (mades : ℕ → Option Made) (id : ℕ) (past : Option ℕ) (token : List ℕ) (now : ℕ) (draws : List ℕ) → Ready book mades
    → standing id book.history ≡ stands → Fits setup book mades (record { token = token; now = now; draws = draws }) (gone_on_by stands setup book id past token now draws)
fits-gone Unknown setup book mades id past token now draws r is = fits-leaves setup book mades _ refusals.NoContext r
fits-gone (Open at) setup book mades id past token now draws r is = fits-opened setup book mades id past token now draws at r is
fits-gone (Whole mech names until) setup book mades id past token now draws r is = fits-leaves setup book mades _ refusals.AlreadyComplete r
fits-gone Over setup book mades id past token now draws r is = fits-leaves setup book mades _ refusals.NoContext r

pub fits-negotiated : (setup : AcceptSetup) (book : Stands) (mades : ℕ → Option Made) (id past : Option ℕ) (token : List ℕ) (now : ℕ) (draws : List ℕ) → Ready book mades
    → Fits setup book mades (record { token = token; now = now; draws = draws }) (negotiated setup book id past token now draws)
fits-negotiated setup book mades None past token now draws r = fits-begun setup book mades past token now draws r
fits-negotiated setup book mades (Some id) past token now draws r = fits-gone (standing id book.history) setup book mades id past token now draws r refl
