use Rattle.std.proofs.Common.{true, false, ◌∙◌, ◌≡◌, ℕ, ◌+◌, IsSome, IsSomeAnd, Option, None, Some, inl, inr, refl, sym, ap, arith, length}
use Rattle.std.proofs.lemmas.Bool.{cases_eq}
use Rattle.context_table.specs.declared.slot.Slot.{Slot}
use Rattle.context_table.specs.declared.slot.SlotState.{SlotState}
use Rattle.context_table.specs.Slots.{IsOpened}
use Rattle.context_table.specs.Places.{slot_at, WideAt}
use Rattle.value_tables.proofs.contexts.fill.Goals as goal

wide-opened : {N S : Type 0} (o : Option (Slot N S)) (id : ℕ) (state : SlotState N S) (ends width : ℕ)
    → IsSomeAnd o (λ slot. IsOpened slot id state ends width) → WideAt width o
wide-opened None id state ends width h = tt
wide-opened (Some slot) id state ends width h = h.width

pub open-requires : goal.open-requires
open-requires c = record {
  room = omega (arith, c.loop-last.invariant.live, c.loop-last.invariant.limit, c.requires.room);
  above = λ other some. omega (arith, c.loop-last.invariant.known other some);
}

pub loop-last-init : goal.loop-last-init
loop-last-init c = record {
  live = ap length c.requires.empty;
  limit = refl;
  known = λ id. rw c.requires.empty (λ some. absurd (let z : false ≡ true = some in cc));
  wide = λ id. rw c.requires.empty tt;
}

pub loop-last-preserved : goal.loop-last-preserved
loop-last-preserved c = record {
  live = omega (arith, c.open.ensures.live, c.loop-last.invariant.live);
  limit = c.open.ensures.others.limit ∙ c.loop-last.invariant.limit;
  known = λ id some.
      elim (cases_eq id (c.loop-last.last + 1)) [
        | inl e ↦ omega (arith, e)
        | inr ne ↦
            let earlier : IsSome (slot_at c.loop-last.table id) = rw (← c.open.ensures.others.others id (λ e. ne (sym e))) some in
            omega (arith, c.loop-last.invariant.known id earlier)
      ];
  wide = λ id.
      rw c.open.ensures.others.width
      (elim (cases_eq id (c.loop-last.last + 1)) [
        | inl e ↦ rw e (wide-opened _ _ _ _ _ c.open.ensures.slot)
        | inr ne ↦ rw (c.open.ensures.others.others id (λ e. ne (sym e))) (c.loop-last.invariant.wide id)
      ]);
}
