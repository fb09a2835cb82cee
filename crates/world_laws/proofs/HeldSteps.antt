-- What a token's step keeps of what is held of the contexts.
use Rattle.std.proofs.Common.{◌≡◌, ◌≢◌, ◌⊎◌, ◌∙◌, ℕ, List, slice_get, Option, Some, None, refl, sym, ap, inl, inr, arith}
use Rattle.std.specs.Prelude.{IfSome}
use Rattle.std.proofs.lemmas.Option.{none-some}
use Rattle.spnego_core.specs.declared.accept_end.AcceptEnd.{AcceptEnd}
use Rattle.spnego_core.specs.declared.outcome.Outcome.{Outcome}
use Rattle.spnego_core.specs.declared.setup.AcceptSetup.{AcceptSetup}
use Rattle.spnego_core.specs.Accepting.{Accepted}
use Rattle.context_table.specs.declared.slot.Slot.{Slot as TableSlot}
use Rattle.context_table.specs.declared.slot.SlotState.{SlotState}
use Rattle.context_table.specs.declared.slot.SlotState.TheVariants.{Negotiating, Held, Complete}
use Rattle.context_table.specs.Places.{Places, slot_at, state_of}
use Rattle.context_table.specs.Slots.{state_taken}
use Rattle.accept_core.specs.declared.entry.Entry.{Entry}
use Rattle.accept_book.specs.Booking.{Stands, Change, Changed, changed, negotiated, by_outcome}
use Rattle.accept_book.specs.BookLaws.{fixed_in, fixed_state, fixed_end, Takes}
use Rattle.accept_core.specs.Entering.{id_of}
use Rattle.accept_book.specs.Found.{end_before, stepped_from}
use Rattle.accept_core.specs.History.{Standing, Unknown, Open, Whole, Over, standing, numbers, IsOpen}
use Rattle.accept_core.specs.Replays.{SameState, SameSlot}
use Rattle.accept_core.specs.Stepping.{Context as Slot, context_of}
use Rattle.world_laws.specs.State.{Context}
use Rattle.world_laws.proofs.HeldFacts.{contexts_of, Facts}
use Rattle.world_laws.proofs.HeldTurns.{Turned, turned-either}

-- ---- a context that negotiates

pub record OpenSlot (slot : Option (TableSlot AcceptEnd Outcome)) : Type 0 where
  pub context : Slot AcceptEnd Outcome
  pub is : context_of slot ≡ Some context
  pub fixed_is : fixed_in (context_of slot) ≡ fixed_end (end_before (state_of slot))

open-state : (state : SlotState AcceptEnd Outcome) (lasts at : ℕ) → SameState by_outcome (Open at) state lasts → fixed_state state lasts ≡ fixed_end (end_before (state_taken state))
open-state (Negotiating end) lasts at same = refl
open-state Held lasts at same = refl
open-state (Complete outcome) lasts at same = absurd same

open-slot : (wide : ℕ) (slot : Option (TableSlot AcceptEnd Outcome)) (stands : Standing) (ns : List ℕ) → SameSlot by_outcome wide slot stands ns → IsOpen stands → OpenSlot slot
open-slot wide slot Unknown ns same is = absurd is
open-slot wide None (Open at) ns same is = absurd same
open-slot wide (Some slot) (Open at) ns same is =
    record { context = record { state = slot.state; ends = slot.ends }; is = refl; fixed_is = open-state slot.state slot.ends at same.state }
open-slot wide slot (Whole mech names until) ns same is = absurd is
open-slot wide slot Over ns same is = absurd is

-- each slot is what the history says of its id
abbrev pub AllSame : ℕ → Stands → Type 0
AllSame wide book = (id : ℕ) → SameSlot by_outcome wide (slot_at book.table id) (standing id book.history) (numbers id book.history)

abbrev pub Negotiates : Stands → Option ℕ → Type 0
Negotiates book id = IfSome id (λ number. IsOpen (standing number book.history))

-- ---- the token's own context

pub own-turned : (wide : ℕ) (book : Stands) (id : Option ℕ) (after : Option (Slot AcceptEnd Outcome)) → AllSame wide book → Negotiates book id → fixed_in after ≡ fixed_end (stepped_from book id)
    → Turned book.history (id_of id book.history) (contexts_of book.table (id_of id book.history)) after
own-turned wide book None after same is e = inr (inr (record { above = omega arith; unfixed = e }))
own-turned wide book (Some id) after same is e =
    let o = open-slot wide (slot_at book.table id) (standing id book.history) (numbers id book.history) (same id) is in
    inr (inl (record { context = o.context; was = o.is; same = e ∙ sym o.fixed_is }))

pub own-absent : (wide : ℕ) (setup : AcceptSetup) (book : Stands) (id : Option ℕ) (fixed : List Context) → AllSame wide book → Negotiates book id → fixed_end (stepped_from book id) ≡ None
    → Facts setup book.history (contexts_of book.table) fixed → (place : ℕ) (y : Context) → slice_get fixed place ≡ Some y → y.id ≢ id_of id book.history
own-absent wide setup book None fixed same is un facts place y there = λ e. let below = facts.opened_id place y there in omega (arith, below, e)
own-absent wide setup book (Some id) fixed same is un facts place y there = λ e.
    let o = open-slot wide (slot_at book.table id) (standing id book.history) (numbers id book.history) (same id) is in
    let was : contexts_of book.table y.id ≡ Some o.context = ap (contexts_of book.table) e ∙ o.is in
    none-some (record { outcome = y.fixed.outcome; ends = y.fixed.lasts })
    (sym un ∙ sym o.fixed_is ∙ ap fixed_in o.is ∙ facts.live place y o.context there was)

-- ---- what a step that was taken changes

-- the history and the contexts are what the step makes of them
pub record Comes (setup : AcceptSetup) (book : Stands) (id past : Option ℕ) (token : List ℕ) (now : ℕ) (draws : List ℕ) (h : List Entry) (table : Places AcceptEnd Outcome) : Type 0 where
  pub history : h ≡ (negotiated setup book id past token now draws).history
  pub contexts : Changed book.table (negotiated setup book id past token now draws).change table

pub other-turned : (setup : AcceptSetup) (book : Stands) (id past : Option ℕ) (token : List ℕ) (now : ℕ) (draws : List ℕ) (h : List Entry) (table : Places AcceptEnd Outcome) (accepted : Accepted)
    → Takes setup book id past token now draws accepted → Comes setup book id past token now draws h table
    → (other : ℕ) → id_of id book.history ≢ other → Turned book.history other (contexts_of book.table other) (contexts_of table other)
other-turned setup book id past token now draws h table accepted takes comes other ne =
    turned-either book.history other (contexts_of book.table other) (contexts_of table other) (go (takes.others other (contexts_of book.table other) ne))
  where
    change : Change
    change = (negotiated setup book id past token now draws).change

    go : (changed change other (contexts_of book.table other) ≡ contexts_of book.table other) ⊎ (changed change other (contexts_of book.table other) ≡ None)
        → (contexts_of table other ≡ contexts_of book.table other) ⊎ (contexts_of table other ≡ None)
    go (inl same) = inl (comes.contexts other ∙ same)
    go (inr gone) = inr (comes.contexts other ∙ gone)
