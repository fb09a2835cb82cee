use Rattle.std.proofs.Common.{ℕ, drop}
use Rattle.accept_book.specs.Booking.{BookOf}
use Rattle.world_runs.specs.Meeting.{AtStart, Meeting}
use Rattle.world_runs.specs.Worlds.{world_means, shown, IsWorld}
use Rattle.world_runs.proofs.MetWhole.{Carrying}
use Rattle.world_runs.proofs.meeting.meet.Given as goal

abbrev pub invariant-loop-drawn : goal.invariant-loop-drawn
invariant-loop-drawn g l = IsWorld (world_means l.world (λ b. (goal.Mech-dyn g b).meaning b.1)) × ((book : BookOf) (lanes : ℕ) → AtStart (shown l.fn.world (λ b. (goal.Mech-dyn g b).meaning b.1)) book lanes
    → (m : Meeting book (shown l.fn.world (λ b. (goal.Mech-dyn g b).meaning b.1)).facts lanes l.now l.draws) → ∥ Carrying m.kind l.now (drop l.drawn-index l.draws) l.last (shown l.world (λ b. (goal.Mech-dyn g b).meaning b.1)) ∥₁)
