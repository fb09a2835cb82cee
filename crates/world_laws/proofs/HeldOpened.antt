-- The log of a context that lives has its opening.
use Rattle.std.proofs.Common.{◌≡◌, ◌∙◌, ℕ, ◌==◌, List, [], ◌∷◌, length, Option, Some, None, refl, ap, subst, inl, inr}
use Rattle.std.proofs.lemmas.Bool.{cases_Bool, eqb-true}
use Rattle.std.proofs.lemmas.Option.{none-some}
use Rattle.spnego_core.specs.declared.accept_end.AcceptEnd.{AcceptEnd}
use Rattle.spnego_core.specs.declared.outcome.Outcome.{Outcome}
use Rattle.context_table.specs.declared.slot.Slot.{Slot as TableSlot}
use Rattle.accept_core.specs.declared.entry.Entry.{Entry}
use Rattle.accept_core.specs.declared.entry.Entry.TheVariants.{Opened, Auth, Went, Settled, Call, Ended}
use Rattle.accept_book.specs.Booking.{by_outcome}
use Rattle.accept_book.specs.BookLaws.{Lasting, fixed_in}
use Rattle.accept_core.specs.History.{Standing, Unknown, Open, Whole, Over, standing, numbers, IsOpen, IsLive}
use Rattle.accept_core.specs.Legal.{Legal}
use Rattle.accept_core.specs.Replays.{SameSlot}
use Rattle.accept_core.specs.Stepping.{context_of}
use Rattle.world_laws.proofs.Invariants.{WasOpened}
use Rattle.world_laws.proofs.HeldHistory.{grows-one, at-head}

behind : (first : Entry) (h : List Entry) (id : ℕ) → WasOpened h id → WasOpened (first ∷ h) id
behind first h id o = record { place = o.place; at = o.at; entry = (grows-one first h).kept o.place (Opened id o.at) o.entry }

open-live : (s : Standing) → IsOpen s → IsLive s
open-live Unknown o = absurd o
open-live (Open at) o = tt
open-live (Whole mech names ends) o = absurd o
open-live Over o = absurd o

live-opened : (wide : ℕ) (h : List Entry) (id : ℕ) → Legal wide h → IsLive (standing id h) → WasOpened h id
live-opened wide [] id legal live = absurd live
live-opened wide (Opened i at ∷ h) id legal live = elim (cases_Bool (i == id)) [
  | inl same ↦ record { place = length h; at = at; entry = at-head (length h) (Opened i at) h refl ∙ ap (λ (k : ℕ). Some (Opened k at)) (eqb-true i id same) }
  | inr other ↦ behind (Opened i at) h id (live-opened wide h id legal.1 (rw other at live))
]
live-opened wide (Auth i mark at ∷ h) id legal live = behind (Auth i mark at) h id (live-opened wide h id legal.1 live)
live-opened wide (Went i at ∷ h) id legal live = behind (Went i at) h id (live-opened wide h id legal.1 live)
live-opened wide (Settled i mech names ends at ∷ h) id legal live = elim (cases_Bool (i == id)) [
  | inl same ↦ behind (Settled i mech names ends at) h id (subst (λ (k : ℕ). WasOpened h k) (eqb-true i id same) (live-opened wide h i legal.1 (open-live (standing i h) legal.0.0)))
  | inr other ↦ behind (Settled i mech names ends at) h id (live-opened wide h id legal.1 (rw other at live))
]
live-opened wide (Call i seq procedure args ∷ h) id legal live = behind (Call i seq procedure args) h id (live-opened wide h id legal.1 live)
live-opened wide (Ended i cause ∷ h) id legal live = elim (cases_Bool (i == id)) [
  | inl same ↦ absurd (rw same at live)
  | inr other ↦ behind (Ended i cause) h id (live-opened wide h id legal.1 (rw other at live))
]

slot-live : (wide : ℕ) (slot : TableSlot AcceptEnd Outcome) (stands : Standing) (ns : List ℕ) → SameSlot by_outcome wide (Some slot) stands ns → IsLive stands
slot-live wide slot Unknown ns same = absurd same.state
slot-live wide slot (Open at) ns same = tt
slot-live wide slot (Whole mech names ends) ns same = tt
slot-live wide slot Over ns same = absurd same.state

pub slot-opened : (wide : ℕ) (h : List Entry) (slot : Option (TableSlot AcceptEnd Outcome)) (id : ℕ) (L : Lasting) → Legal wide h → SameSlot by_outcome wide slot (standing id h) (numbers id h) → fixed_in (context_of slot) ≡ Some L → WasOpened h id
slot-opened wide h None id L legal same e = absurd (none-some L e)
slot-opened wide h (Some slot) id L legal same e = live-opened wide h id legal (slot-live wide slot (standing id h) (numbers id h) same)
