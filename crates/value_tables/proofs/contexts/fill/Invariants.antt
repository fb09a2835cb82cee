use Rattle.std.proofs.Common.{◌≡◌, ℕ, ◌≤◌, IsSome}
use Rattle.context_table.specs.Places.{slot_at, live_of, WideAt}
use Rattle.value_tables.proofs.contexts.fill.Given as goal

abbrev pub invariant-loop-last : goal.invariant-loop-last
invariant-loop-last l = record {
  live : live_of l.table ≡ l.last;
  limit : l.table.limit ≡ l.fn.table.limit;
  known : (id : ℕ) → IsSome (slot_at l.table id) → id ≤ l.last;
  wide : (id : ℕ) → WideAt l.table.width (slot_at l.table id);
}
