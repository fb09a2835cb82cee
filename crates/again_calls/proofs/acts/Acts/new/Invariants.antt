use Rattle.std.proofs.Common.{◌≡◌, ◌≤◌, replicate, vec_capacity}
use Rattle.again_calls.specs.Kept.{no_place}
use Rattle.again_calls.proofs.acts.Acts.new.Given as goal

abbrev pub invariant-loop : goal.invariant-loop
invariant-loop l = (l.places.items ≡ replicate l.counter (no_place l.width)) × (l.fn.contexts ≤ vec_capacity l.places) × (l.contexts ≡ l.fn.contexts) × (l.width ≡ l.fn.width)
