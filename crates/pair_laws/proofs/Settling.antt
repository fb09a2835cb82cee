-- What a book with places makes of a token of an exchange.
use Rattle.std.proofs.Common.{◌≡◌, ◌⊎◌, inl, inr, ℕ, ◌+◌, ◌<◌, ◌≤◌, Bool, true, false, refl, sym, ap, ◌∙◌, subst, arith, List, [], ◌∷◌, length, Option, None, Some, Result, Ok, Err}
use Rattle.std.specs.Prelude.{nat_lt, nat_le, ◌&&◌, ◌==◌, is_none, is_some, max}
use Rattle.std.proofs.lemmas.Bool.Decides.{nat_tests}
use Rattle.gss_base.specs.declared.mark.Mark.{Mark}
use Rattle.gss_base.specs.declared.mech.MechKind.{MechKind}
use Rattle.spnego_core.specs.declared.setup.AcceptSetup.{AcceptSetup}
use Rattle.spnego_core.specs.declared.accept_end.AcceptEnd.{AcceptEnd}
use Rattle.spnego_core.specs.declared.accept_end.AcceptEnd.TheVariants as ends
use Rattle.spnego_core.specs.declared.accept_end.AcceptPause.{AcceptPause}
use Rattle.spnego_core.specs.declared.accept_end.AcceptStep.{AcceptStep}
use Rattle.spnego_core.specs.declared.accept_end.AcceptStep.TheVariants as steps
use Rattle.spnego_core.specs.declared.outcome.Outcome.{Outcome}
use Rattle.spnego_core.specs.declared.refusal.NegRefusal.{NegRefusal}
use Rattle.spnego_core.specs.Accepting.{Accepted, accept_step, step_of, mark_asked, step_after}
use Rattle.spnego_core.specs.Exchange.{passed, passed_of}
use Rattle.replay_cache.specs.Taking.{cache_verdict}
use Rattle.replay_cache.specs.declared.cache.CacheVerdict.TheVariants.{Taken}
use Rattle.context_table.specs.declared.slot.Slot.{Slot}
use Rattle.context_table.specs.declared.slot.SlotState.{SlotState}
use Rattle.context_table.specs.declared.slot.SlotState.TheVariants.{Negotiating, Complete}
use Rattle.context_table.specs.Slots.{HasState}
use Rattle.context_table.specs.Places.{Places, slot_at, live_of, state_of, HasValue}
use Rattle.accept_core.specs.declared.entry.Entry.{Entry}
use Rattle.accept_core.specs.declared.answer.Next.TheVariants as nexts
use Rattle.accept_core.specs.History.{Open, Whole, opened, taken_of, standing}
use Rattle.accept_core.specs.Entering.{id_of, entered}
use Rattle.accept_core.specs.Replays.{Accepting}
use Rattle.accept_core.specs.Stepping.{Context, context_of, context_after, until_of, goes_by}
use Rattle.accept_book.specs.Booking.{Stands, Change, Becomes, Changed, Outcomes, raised, next_of, answer_with, mark_of, settled_of, taken, by_step, later_step, negotiated, names_of}
use Rattle.pair_laws.specs.Booked.{Around, end_in, IsLeftAlone, id_in}
use Rattle.pair_laws.specs.Live.{lease_on, IsWhole}

-- ---- a step whose mark is new

-- what a step comes to that was taken, with its mark or without one
pub record Came (book : Stands) (id past : Option ℕ) (step : AcceptStep) (o : Outcomes) : Type 0 where
  pub mark : Option Mark
  pub is : o ≡ record {
    answer = answer_with (id_of id book.history) step;
    history = entered id (goes_by id (next_of step) past book.history book.table) mark (next_of step) book.greatest book.history;
    change = Becomes (goes_by id (next_of step) past book.history book.table) (id_of id book.history) (context_after (until_of id book.greatest book.table) (next_of step));
  }

IsNew : Stands → AcceptStep → Type 0
IsNew book step = (pause : AcceptPause) → step ≡ steps.WantsAuth pause → cache_verdict book.capacity book.greatest (taken_of book.history) (mark_asked pause) ≡ Taken

taken-came : (book : Stands) (id past : Option ℕ) (asked step : AcceptStep) → passed asked ≡ step → IsNew book asked → Came book id past step (taken book id past (mark_of asked) (settled_of asked))
unfolding IsNew
taken-came book id past (steps.More end token) step e new = subst (λ (s : AcceptStep). Came book id past s (taken book id past None (steps.More end token))) e (record { mark = None; is = refl })
taken-came book id past (steps.Done outcome lasts token) step e new = subst (λ (s : AcceptStep). Came book id past s (taken book id past None (steps.Done outcome lasts token))) e (record { mark = None; is = refl })
taken-came book id past (steps.WantsAuth pause) step e new =
    subst (λ (s : AcceptStep). Came book id past s (taken book id past (Some (mark_asked pause)) (step_after pause))) e (record { mark = Some (mark_asked pause); is = rw (new pause refl) refl })

by-step-came : (book : Stands) (id past : Option ℕ) (r : Result Accepted NegRefusal) (step : AcceptStep) → passed_of (step_of r) ≡ Ok step
    → ((pause : AcceptPause) → step_of r ≡ Ok (steps.WantsAuth pause) → cache_verdict book.capacity book.greatest (taken_of book.history) (mark_asked pause) ≡ Taken)
    → Came book id past step (by_step book id past r)
unfolding IsNew
by-step-came book id past (Ok accepted) step e new =
    let is : passed accepted.step ≡ step = cc in
    taken-came book id past accepted.step step is (λ pause f. new pause (ap Ok f))
by-step-came book id past (Err refusal) step e new = absurd cc

-- ---- where the exchange's context stands

-- the context of an id negotiates by this end
pub record Negotiates (id : ℕ) (core : Accepting AcceptEnd Outcome) (end : AcceptEnd) : Type 0 where
  pub at : ℕ
  pub stands : standing id core.history ≡ Open at
  pub ends : ℕ
  pub context : context_of (slot_at core.table id) ≡ Some (record { state = Negotiating end; ends = ends })

-- a token comes to this end: of a new context, or of one that negotiates
abbrev pub ComesTo : Option ℕ → Accepting AcceptEnd Outcome → AcceptEnd → Type 0
ComesTo None core end = end ≡ ends.New
ComesTo (Some id) core end = Negotiates id core end

some-context : (a b : Context AcceptEnd Outcome) → Some a ≡ Some b → a ≡ b
some-context a b e = cc

pub slot-state : (slot : Option (Slot AcceptEnd Outcome)) (end : AcceptEnd) (lasts : ℕ) → context_of slot ≡ Some (record { state = Negotiating end; ends = lasts }) → state_of slot ≡ Some end
slot-state None end lasts e = cc
slot-state (Some slot) end lasts e =
    let same = some-context (record { state = slot.state; ends = slot.ends }) (record { state = Negotiating end; ends = lasts }) e in
    let is : slot.state ≡ Negotiating end = ap (λ (c : Context AcceptEnd Outcome). c.state) same in
    rw is refl

not-full : (limit live : ℕ) (past : Option ℕ) → (live < limit) ⊎ (is_some past ≡ true) → (nat_le limit live && is_none past) ≡ false
not-full limit live None (inl few) = let f : nat_le limit live ≡ false = grind (arith, nat_tests) in rw f refl
not-full limit live None (inr some) = absurd cc
not-full limit live (Some id) either = by-cases (nat_le limit live)
  where
    by-cases : (b : Bool) → (b && false) ≡ false
    by-cases true = refl
    by-cases false = refl

-- what the book steps
pub steps-end : (setup : AcceptSetup) (core : Accepting AcceptEnd Outcome) (id past : Option ℕ) (end : AcceptEnd) (token : List ℕ) (now : ℕ) (drawn : List ℕ) → ComesTo id core end
    → length core.history + 4 ≤ core.limit → (id ≡ None → (live_of core.table < core.table.limit) ⊎ (is_some past ≡ true))
    → negotiated setup (raised core now) id past token now drawn ≡ by_step (raised core now) id past (accept_step setup end token now drawn)
steps-end setup core None past end token now drawn comes log table =
    let room : nat_lt core.limit (length core.history + 4) ≡ false = grind (arith, nat_tests) in
    rw (room, not-full core.table.limit (live_of core.table) past (table refl), comes) refl
steps-end setup core (Some id) past end token now drawn comes log table =
    let room : nat_lt core.limit (length core.history + 4) ≡ false = grind (arith, nat_tests) in
    rw (comes.stands, room, slot-state (slot_at core.table id) end comes.ends comes.context) refl

-- the step that the book takes is the end's
pub later-end : (setup : AcceptSetup) (core : Accepting AcceptEnd Outcome) (id : Option ℕ) (end : AcceptEnd) (token : List ℕ) (now : ℕ) (drawn : List ℕ) → ComesTo id core end
    → later_step setup (end_in core.table id) token now drawn ≡ accept_step setup end token now drawn
later-end setup core None end token now drawn comes = rw comes refl
later-end setup core (Some id) end token now drawn comes = rw (slot-state (slot_at core.table id) end comes.ends comes.context) refl

pub book-came : (setup : AcceptSetup) (core : Accepting AcceptEnd Outcome) (id past : Option ℕ) (end : AcceptEnd) (token : List ℕ) (now : ℕ) (drawn : List ℕ) (step : AcceptStep) → ComesTo id core end
    → length core.history + 4 ≤ core.limit → (id ≡ None → (live_of core.table < core.table.limit) ⊎ (is_some past ≡ true))
    → ((pause : AcceptPause) → step_of (later_step setup (end_in core.table id) token now drawn) ≡ Ok (steps.WantsAuth pause) → cache_verdict core.cache.capacity (max core.cache.greatest now) (taken_of core.history) (mark_asked pause) ≡ Taken)
    → passed_of (step_of (accept_step setup end token now drawn)) ≡ Ok step
    → Came (raised core now) id past step (negotiated setup (raised core now) id past token now drawn)
book-came setup core id past end token now drawn step comes log table new e =
    subst (λ (o : Outcomes). Came (raised core now) id past step o) (sym (steps-end setup core id past end token now drawn comes log table))
    (by-step-came (raised core now) id past (accept_step setup end token now drawn) step e
    (λ pause f. new pause (ap step_of (later-end setup core id end token now drawn comes) ∙ f)))

-- ---- the context behind a step that goes on

same-id : (id : ℕ) → (id == id) ≡ true
same-id id = grind (arith, nat_tests)

opens : (id now : ℕ) (mark : Option Mark) (gone : Option ℕ) (end : AcceptEnd) (h : List Entry) → id ≡ opened h + 1 → standing id (entered {N = AcceptEnd} {S = Outcome} None gone mark (nexts.Going end) now h) ≡ Open now
opens id now None gone end h e = rw (sym e, same-id id) refl
opens id now (Some mark) gone end h e = rw (sym e, same-id id) refl

goes : (id now : ℕ) (mark : Option Mark) (end : AcceptEnd) (h : List Entry) → standing id (entered {N = AcceptEnd} {S = Outcome} (Some id) None mark (nexts.Going end) now h) ≡ standing id h
goes id now None end h = refl
goes id now (Some mark) end h = refl

stands-after : (core : Accepting AcceptEnd Outcome) (table : Places AcceptEnd Outcome) (id past : Option ℕ) (mark : Option Mark) (now : ℕ) (end old : AcceptEnd) → ComesTo id core old
    → (at : ℕ) × (standing (id_of id core.history) (entered {N = AcceptEnd} {S = Outcome} id (goes_by id (nexts.Going end) past core.history table) mark (nexts.Going end) now core.history) ≡ Open at)
stands-after core table None past mark now end old comes = (now, opens (opened core.history + 1) now mark (goes_by None (nexts.Going end) past core.history table) end core.history refl)
stands-after core table (Some id) past mark now end old comes = (comes.at, goes id now mark end core.history ∙ comes.stands)

-- the context that the step left, in a book that stands as its call left it
pub goes-after : (setup : AcceptSetup) (before after : Accepting AcceptEnd Outcome) (id past : Option ℕ) (old end : AcceptEnd) (reply : List ℕ) (now : ℕ) (o : Outcomes) → ComesTo id before old
    → Came (raised before now) id past (steps.More end reply) o → after.history ≡ o.history → Changed before.table o.change after.table → Negotiates (id_of id before.history) after end
goes-after setup before after id past old end reply now o comes came history contexts =
    let own : ℕ = id_of id before.history in
    let s = stands-after before before.table id past came.mark (max before.cache.greatest now) end old comes in
    let until : ℕ = until_of id (max before.cache.greatest now) before.table in
    let change : o.change ≡ Becomes (goes_by id (nexts.Going end) past before.history before.table) own (record { state = Negotiating end; ends = until }) = ap (λ (x : Outcomes). x.change) came.is in
    let changes : Changed before.table (Becomes (goes_by id (nexts.Going end) past before.history before.table) own (record { state = Negotiating end; ends = until })) after.table = subst (λ (c : Change). Changed before.table c after.table) change contexts in
    record {
      at = s.0;
      stands = ap (λ (h : List Entry). standing own h) (history ∙ ap (λ (x : Outcomes). x.history) came.is) ∙ s.1;
      ends = until;
      context = changes own ∙ rw (same-id own) refl;
    }

-- ---- the context behind the last step

settled-stands : (id gone : Option ℕ) (mark : Option Mark) (now : ℕ) (mech : MechKind) (names : List ℕ) (value : Outcome) (ends : ℕ) (h : List Entry)
    → standing (id_of id h) (entered {N = AcceptEnd} {S = Outcome} id gone mark (nexts.Settled mech names value ends) now h) ≡ Whole mech names ends
settled-stands None gone mark now mech names value ends h = rw (same-id (opened h + 1)) refl
settled-stands (Some id) gone mark now mech names value ends h = rw (same-id id) refl

value-in : (slot : Option (Slot AcceptEnd Outcome)) (value : Outcome) (ends : ℕ) → context_of slot ≡ Some (record { state = Complete value; ends = ends }) → HasValue slot value ends
value-in None value ends e = absurd cc
value-in (Some slot) value ends e =
    let same = some-context (record { state = slot.state; ends = slot.ends }) (record { state = Complete value; ends = ends }) e in
    let is : slot.state ≡ Complete value = ap (λ (c : Context AcceptEnd Outcome). c.state) same in
    (subst (λ (s : SlotState AcceptEnd Outcome). HasState s value) (sym is) refl, ap (λ (c : Context AcceptEnd Outcome). c.ends) same)

-- the context that the step settled, in a book that stands as its call left it
pub done-after : (before after : Accepting AcceptEnd Outcome) (id past : Option ℕ) (outcome : Outcome) (lasts : ℕ) (reply : List ℕ) (now : ℕ) (o : Outcomes)
    → Came (raised before now) id past (steps.Done outcome lasts reply) o → after.history ≡ o.history → Changed before.table o.change after.table → IsWhole after (lease_on (id_of id before.history) outcome lasts)
done-after before after id past outcome lasts reply now o came history contexts =
    let own : ℕ = id_of id before.history in
    let gone : Option ℕ = goes_by id (nexts.Settled outcome.mech (names_of outcome) outcome lasts) past before.history before.table in
    let greatest : ℕ = max before.cache.greatest now in
    let change : o.change ≡ Becomes gone own (record { state = Complete outcome; ends = lasts }) = ap (λ (x : Outcomes). x.change) came.is in
    let changes : Changed before.table (Becomes gone own (record { state = Complete outcome; ends = lasts })) after.table = subst (λ (c : Change). Changed before.table c after.table) change contexts in
    record {
      stands = ap (λ (h : List Entry). standing own h) (history ∙ ap (λ (x : Outcomes). x.history) came.is) ∙ settled-stands id gone came.mark greatest outcome.mech (names_of outcome) outcome lasts before.history;
      value = value-in (slot_at after.table own) outcome lasts (changes own ∙ rw (same-id own) refl);
    }

-- the id of an exchange's context
abbrev pub own_id : Option ℕ → List Around → ℕ
own_id None books = id_in books
own_id (Some id) books = id

-- the first book of these has the context so
abbrev pub Awaits : Option ℕ → AcceptEnd → List Around → Type 0
Awaits id end [] = Unit {0}
Awaits id end (book ∷ books) = ComesTo id book.before end

-- left alone, it negotiates by the same end in the next
pub next-awaits : (id : ℕ) (end : AcceptEnd) (book : Around) (books : List Around) → Negotiates id book.after end → IsLeftAlone id (book ∷ books) → Awaits (Some id) end books × IsLeftAlone id books
next-awaits id end book [] n alone = (tt, tt)
next-awaits id end book (next ∷ later) n alone = (record { at = n.at; stands = alone.0.stands ∙ n.stands; ends = n.ends; context = alone.0.context ∙ n.context }, alone.1)
