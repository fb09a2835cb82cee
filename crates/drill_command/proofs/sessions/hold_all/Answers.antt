use Rattle.std.proofs.Common.{◌∙◌, ◌≡◌, ap, refl, arith, ◌∷◌, length, map}
use Rattle.accept_book.specs.Booking.{BookOf}
use Rattle.drill_plan.specs.Sessions.{session_count}
use Rattle.drill_command.proofs.Chained.{held-more, value-more, client-more, all-held}
use Rattle.drill_command.proofs.Objects.{counted, first-objects, next-object, later-objects}
use Rattle.drill_command.proofs.sessions.hold_all.Goals as goal

pub loop-mech-init : goal.loop-mech-init
loop-mech-init g c =
    let rest = c.into_iter-mech-iterator.result.rest.items in
    let all = ap (map (λ b. (goal.Mech-dyn g (b.vtable, b.value)).meaning b.value)) c.into_iter-mech-iterator.ensures.into_iter_gives.0 ∙ c.requires.mechs in
    let many : length rest ≡ session_count c.args.plan.calls = counted (λ b. (goal.Mech-dyn g (b.vtable, b.value)).meaning b.value) rest (session_count c.args.plan.calls) all in
    record {
      can = tt;
      ends = tt;
      objects = first-objects (λ b. (goal.Mech-dyn g (b.vtable, b.value)).meaning b.value) rest (session_count c.args.plan.calls) all;
      all = omega (arith, many);
      count = c.in_ok-course.ensures.count;
      limits = c.in_ok-course.ensures.first.limits;
      counted = c.in_ok-course.ensures.counted;
      place = c.in_ok-course.ensures.place;
      client = c.in_ok-course.ensures.client;
      held = (c.in_ok-course.course.book.inner.seat, c.in_ok-course.ensures.first, (refl, c.in_ok-course.ensures.sessions, c.in_ok-course.ensures.server));
    }

pub calls_in-count-requires-clause-number : goal.calls_in-count-requires-clause-number
calls_in-count-requires-clause-number g c =
    let many : length c.loop-mech.mech-iterator.rest.items ≡ length (c.in-Some.mech ∷ c.next.new.self.rest.items) = ap length c.in-Some.ensures.steps.0 in
    omega (arith, many, c.loop-mech.invariant.all)

pub go_on-requires-clause-few : goal.go_on-requires-clause-few
go_on-requires-clause-few g c =
    let many : length c.loop-mech.mech-iterator.rest.items ≡ length (c.in-Some.mech ∷ c.next.new.self.rest.items) = ap length c.in-Some.ensures.steps.0 in
    omega (arith, many, c.loop-mech.invariant.count, c.loop-mech.invariant.all, c.requires.calls)

pub go_on-requires-clause-number : goal.go_on-requires-clause-number
go_on-requires-clause-number g c =
    let many : length c.loop-mech.mech-iterator.rest.items ≡ length (c.in-Some.mech ∷ c.next.new.self.rest.items) = ap length c.in-Some.ensures.steps.0 in
    omega (arith, many, c.loop-mech.invariant.all, c.requires.calls)

pub go_on-requires-clause-blank : goal.go_on-requires-clause-blank
go_on-requires-clause-blank g c =
    next-object (λ b. (goal.Mech-dyn g (b.vtable, b.value)).meaning b.value) c.in-Some.mech c.next.new.self.rest.items c.loop-mech.number c.loop-mech.mech-iterator.rest.items c.in-Some.ensures.steps.0 c.loop-mech.invariant.objects

pub loop-mech-preserved : goal.loop-mech-preserved
loop-mech-preserved g c =
    let i = c.loop-mech.invariant in
    let made = c.in_ok-course-2 in
    let many : length c.loop-mech.mech-iterator.rest.items ≡ length (c.in-Some.mech ∷ c.next.new.self.rest.items) = ap length c.in-Some.ensures.steps.0 in
    record {
      can = tt;
      ends = tt;
      objects = later-objects (λ b. (goal.Mech-dyn g (b.vtable, b.value)).meaning b.value) c.in-Some.mech c.next.new.self.rest.items c.loop-mech.number c.loop-mech.mech-iterator.rest.items c.in-Some.ensures.steps.0 i.objects;
      all = omega (arith, many, i.all);
      count = omega (arith, made.ensures.count, i.count);
      limits = made.ensures.limits ∙ i.limits;
      counted = made.ensures.counted;
      place = value-more c.args.plan.seed c.args.plan.calls c.loop-mech.number _ _ _ c.calls_in-count.ensures i.place made.ensures.place;
      client = client-more c.args.plan.seed c.args.plan.calls c.loop-mech.number _ _ _ c.calls_in-count.ensures i.client made.ensures.client;
      held = (i.held.0, i.held.1, held-more c.args.plan.seed c.args.plan.calls c.loop-mech.number _ _ _ _ _ i.held.0 _ _ _ _ c.calls_in-count.ensures i.place i.client i.held.2 made.ensures.added);
    }

pub returns-clause-limits : goal.returns-clause-limits
returns-clause-limits g c = rw (c.into_log.ensures.width, c.into_log.ensures.limit, c.into_log.ensures.contexts, c.into_log.ensures.marks, c.into_log.ensures.keeping, c.into_seat.ensures) c.loop-mech.invariant.limits

pub returns-clause-held : goal.returns-clause-held
returns-clause-held g c =
    let i = c.loop-mech.invariant in
    let done : c.loop-mech.number ≡ session_count c.args.plan.calls = omega (arith, i.all, c.in-None.ensures.steps.0) in
    all-held c.args.plan.seed c.args.plan.calls c.loop-mech.number _ i.held.0 _ _ _ c.requires.calls done i.held.1 i.held.2 (c.into_log.ensures.entries ∙ ap (λ (b : BookOf). b.core.history) c.into_seat.ensures)
