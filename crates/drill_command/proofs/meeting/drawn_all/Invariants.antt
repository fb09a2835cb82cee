use Rattle.std.proofs.Common.{◌≡◌, ℕ}
use Rattle.std.specs.List.{AllByRecursion}
use Rattle.pair_laws.specs.Meeting.{IsDrawn}
use Rattle.drill_command.proofs.Joining.{draws_to}
use Rattle.drill_command.proofs.meeting.drawn_all.Given as goal

abbrev pub invariant-loop-place : goal.invariant-loop-place
invariant-loop-place l = record {
  is : (moment : ℕ) → l.all.items ≡ draws_to moment l.place l.kept;
  drawn : AllByRecursion IsDrawn l.all.items;
}
