use Rattle.std.proofs.Common.{◌≡◌, ◌+◌, vec_len, length, map}
use Rattle.accept_book.specs.Booking.{BookOf}
use Rattle.pair_laws.specs.Posts.{posts_in}
use Rattle.drill_command.specs.Chained.{IsFirst, AreHeld}
use Rattle.drill_command.specs.Drilled.{value_before, client_before}
use Rattle.drill_plan.specs.Limits.{book_limits, drill_limits}
use Rattle.drill_plan.specs.Sessions.{session_count}
use Rattle.drill_command.proofs.Objects.{objects_from}
use Rattle.drill_command.proofs.sessions.hold_all.Given as goal

abbrev pub invariant-loop-mech : goal.invariant-loop-mech
invariant-loop-mech g l = record {
  can : (goal.iterator-loop-mech g).can_next l.mech-iterator;
  ends : (goal.iterator-loop-mech g).is_finite l.mech-iterator;
  objects : map (λ b. (goal.Mech-dyn g (b.vtable, b.value)).meaning b.value) l.mech-iterator.rest.items ≡ objects_from l.number (length l.mech-iterator.rest.items);
  all : l.number + length l.mech-iterator.rest.items ≡ session_count l.fn.plan.calls;
  count : vec_len l.course.sessions ≡ l.number;
  limits : book_limits l.course.book.inner.seat ≡ drill_limits;
  counted : l.course.book.inner.program.posts ≡ posts_in l.course.book.inner.seat.core.history;
  place : l.course.generators.calls.value ≡ value_before l.fn.plan.seed l.fn.plan.calls l.number;
  client : l.course.generators.client.value ≡ client_before l.fn.plan.seed l.fn.plan.calls l.number;
  held : (first : BookOf) × IsFirst first × AreHeld l.fn.plan.seed l.fn.plan.calls l.number first l.course.book.inner.seat l.course.sessions.items l.course.generators.server.value;
}
