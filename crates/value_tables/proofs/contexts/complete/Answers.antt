use Rattle.std.proofs.Common.{◌≡◌, Option, None, Some}
use Rattle.context_table.specs.declared.slot.Slot.{Slot}
use Rattle.context_table.specs.declared.slot.SlotState.{SlotState}
use Rattle.context_table.specs.declared.slot.SlotState.TheVariants.{Negotiating, Held, Complete}
use Rattle.context_table.specs.Slots.{state_taken, state_held, IsHeldState}
use Rattle.context_table.specs.Places.{state_of, held_after, IsHeld}
use Rattle.value_tables.proofs.contexts.complete.Goals as goal

none_given : {N : Type 0} (n : N) → Some n ≡ None → ⊥
none_given n e = cc

held_state : {N S : Type 0} (state : SlotState N S) (n : N) → Some n ≡ state_taken state → IsHeldState (state_held state)
held_state (Negotiating state) n e = tt
held_state Held n e = tt
held_state (Complete value) n e = none_given n e

held_slot : {N S : Type 0} (o : Option (Slot N S)) (n : N) → Some n ≡ state_of o → IsHeld (held_after o)
held_slot None n e = none_given n e
held_slot (Some slot) n e = held_state slot.state n e

pub settle-requires : goal.settle-requires
settle-requires c = rw c.take.ensures.slot (held_slot _ c.in-Some.state c.in-Some.ensures.state)
