-- The leases of records in hand are of contexts that were fixed.
use Rattle.std.proofs.Common.{◌≡◌, ℕ, List, ◌++◌, slice_set, Option, Some, None, Result, Ok, Err, refl, sym, subst, inl, inr}
use Rattle.std.proofs.lemmas.Option.{none-some, same_Some}
use Rattle.spnego_core.specs.declared.accept_end.AcceptEnd.{AcceptEnd}
use Rattle.spnego_core.specs.declared.outcome.Outcome.{Outcome}
use Rattle.context_table.specs.declared.slot.Slot.{Slot as TableSlot}
use Rattle.context_table.specs.declared.slot.SlotState.{SlotState}
use Rattle.context_table.specs.declared.slot.SlotState.TheVariants.{Negotiating, Held, Complete}
use Rattle.context_table.specs.Places.{slot_at, HasValue}
use Rattle.context_table.specs.Slots.{HasState}
use Rattle.accept_core.specs.declared.answer.LookRefusal.{LookRefusal}
use Rattle.accept_core.specs.declared.answer.LookRefusal.TheVariants as looks
use Rattle.accept_book.specs.declared.book_answer.Admitted.{Admitted}
use Rattle.accept_book.specs.declared.book_answer.Lease.{Lease}
use Rattle.accept_book.specs.Booking.{BookOf, LeasedBy}
use Rattle.accept_core.specs.History.{Standing, Unknown, Open, Whole, Over, standing}
use Rattle.accept_book.specs.RecordShown.{booked, Asked, AskedStep, AskedLook, AskedAdmit, AskedEnd}
use Rattle.accept_core.specs.Stepping.{Context as Slot, context_of}
use Rattle.accept_book.specs.BookAnswers.{BookLooked}
use Rattle.gss_server.specs.Asking.{BookAnswers}
use Rattle.world_laws.specs.State.{InHand, Context}
use Rattle.world_laws.specs.Lanes.{in_hand, hand_after}
use Rattle.world_laws.proofs.HeldFacts.{FixedIn, more-fixed, contexts_of, Slots, HandHolds, Leases}
use Rattle.world_laws.proofs.HeldLists.{set-cases}

-- ---- what a look answers

ok-err : (lease : Lease) (refusal : LookRefusal) → ◌≡◌ {A = Result Lease LookRefusal} (Ok lease) (Err refusal) → ⊥
ok-err lease refusal e = cc

lease-id : (stands : Standing) (id now : ℕ) (lease : Lease) → LeasedBy stands id now (Ok lease) → lease.id ≡ id
lease-id Unknown id now lease by = absurd (ok-err lease looks.NoContext by)
lease-id (Open at) id now lease by = absurd (ok-err lease looks.NotReady by)
lease-id (Whole mech names ends) id now lease by = by.1.id
lease-id Over id now lease by = absurd (ok-err lease looks.NoContext by)

value-state : (state : SlotState AcceptEnd Outcome) (lasts : ℕ) (outcome : Outcome) (ends : ℕ) → HasState state outcome → lasts ≡ ends
    → ◌≡◌ {A = Option (Slot AcceptEnd Outcome)} (Some (record { state = state; ends = lasts })) (Some (record { state = Complete outcome; ends = ends }))
value-state (Negotiating end) lasts outcome ends has same = absurd has
value-state Held lasts outcome ends has same = absurd has
value-state (Complete value) lasts outcome ends has same = λ i. Some (record { state = Complete (has i); ends = same i })

value-context : (slot : Option (TableSlot AcceptEnd Outcome)) (outcome : Outcome) (ends : ℕ) → HasValue slot outcome ends → context_of slot ≡ Some (record { state = Complete outcome; ends = ends })
value-context None outcome ends has = absurd has
value-context (Some slot) outcome ends has = value-state slot.state slot.ends outcome ends has.0 has.1

lease-fixed : (old new : BookOf) (id now : ℕ) (lease : Lease) (fixed : List Context) → Slots (contexts_of old.core.table) fixed → BookLooked old new id now (Ok lease)
    → FixedIn fixed lease.id lease.outcome lease.ends
lease-fixed old new id now lease fixed slots looked =
    subst (λ (k : ℕ). FixedIn fixed k lease.outcome lease.ends) (sym (lease-id (standing id old.core.history) id now lease looked.answer))
    (slots id (record { state = Complete lease.outcome; ends = lease.ends }) (record { outcome = lease.outcome; ends = lease.ends })
    (value-context (slot_at old.core.table id) lease.outcome lease.ends looked.value) refl)

look-fixed : (old new : BookOf) (id now : ℕ) (answer : Result Lease LookRefusal) (lease : Lease) (fixed : List Context) → Slots (contexts_of old.core.table) fixed → BookLooked old new id now answer
    → ◌≡◌ {A = Option (Result Lease LookRefusal)} (Some answer) (Some (Ok lease)) → FixedIn fixed lease.id lease.outcome lease.ends
look-fixed old new id now answer lease fixed slots looked e =
    lease-fixed old new id now lease fixed slots (subst (BookLooked old new id now) (same_Some answer (Ok lease) e) looked)

-- ---- records in hand

-- a lane without a record has none with a lease
pub in-hand-holds : (hand : Option InHand) (octets : List ℕ) (now : ℕ) (draws : List ℕ) (fixed : List Context) → ((kept : InHand) → hand ≡ Some kept → HandHolds fixed kept)
    → HandHolds fixed (in_hand hand octets now draws)
in-hand-holds None octets now draws fixed holds = λ lease e. absurd (none-some (Ok lease) e)
in-hand-holds (Some hand) octets now draws fixed holds = holds hand refl

pub after-holds : (old new : BookOf) (hand : InHand) (asked : Asked Admitted) (fixed : List Context) → Slots (contexts_of old.core.table) fixed → BookAnswers old (booked asked) new → HandHolds fixed hand
    → HandHolds fixed (hand_after hand asked)
after-holds old new hand (AskedStep id token now draws answer) fixed slots answers holds = holds
after-holds old new hand (AskedLook id now answer) fixed slots answers holds = λ lease e. look-fixed old new id now answer lease fixed slots answers e
after-holds old new hand (AskedAdmit lease seq service procedure args answer) fixed slots answers holds = holds
after-holds old new hand (AskedEnd lease seq answer) fixed slots answers holds = holds

pub more-leases : (lanes : List (Option InHand)) (fixed more : List Context) → Leases lanes fixed → Leases lanes (fixed ++ more)
more-leases lanes fixed more leases = λ lane hand there lease e. more-fixed fixed more lease.id lease.outcome lease.ends (leases lane hand there lease e)

pub set-leases : (lanes : List (Option InHand)) (lane : ℕ) (left : Option InHand) (fixed : List Context) → Leases lanes fixed → ((hand : InHand) → left ≡ Some hand → HandHolds fixed hand)
    → Leases (slice_set lanes lane left) fixed
set-leases lanes lane left fixed leases holds = λ other hand there. elim (set-cases lanes lane left other (Some hand) there) [
  | inl old ↦ leases other hand old
  | inr new ↦ holds hand (sym new)
]
