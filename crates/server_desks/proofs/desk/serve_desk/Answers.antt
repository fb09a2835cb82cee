use Rattle.std.proofs.Common.{◌≡◌, ◌∙◌, ℕ, sym, subst, inl, inr, refl, arith, IsTrue}
use Rattle.sec_base.specs.Answers.{Rose}
use Rattle.server_desks.specs.Desks.{NoneWanted}
use Rattle.server_desks.proofs.DeskRuns.{went-none, went-stop, went-more, none-more, none-left, accepted, none-earlier, earlier-push}
use Rattle.server_desks.proofs.desk.serve_desk.Goals as goal

pub loop-number-init : goal.loop-number-init
loop-number-init g c = record {
  so_far = (went-none c.args.gate.now c.args.desk.now, tt);
  tells = refl;
  faults = refl;
  count = c.requires.connections;
  small = omega (arith, c.requires.records);
  limits = refl;
}

pub returns-in-Ok-None-clause-served : goal.returns-in-Ok-None-clause-served
returns-in-Ok-None-clause-served g c =
    let was = c.loop-number.invariant in
    let left = λ (t : IsTrue (g.P.Port.tells c.args.desk.now.port)). none-left _ _ c.in-Ok-None.field-0 c.in-Ok-None.field-0-is (c.in-Ok-None.ensures.told (rw was.tells t)) in record {
      went = went-stop c.accept.new.self c.make_room.new.self was.so_far.0 c.make_room.ensures.same (λ t. (left t).1 ∙ sym (left t).0);
      few = omega (arith, was.count, c.loop-number-test.true);
      done = λ e t. inl (left t).1;
      wanted = none-earlier _ was.so_far.1;
      none_wanted = λ e. was.so_far.1;
      failed = λ e. absurd cc;
      steady = λ e. c.in-Ok-None.ensures.steady ∙ was.faults;
    }

pub returns-then-is_starved-clause-served : goal.returns-then-is_starved-clause-served
returns-then-is_starved-clause-served g c =
    let was = c.loop-number.invariant in
    let adds = c.serve_next.ensures.served in record {
      went = went-more c.accept.new.self c.make_room.new.self c.in-Ok-Some.link c.serve_next.result was.so_far.0 c.make_room.ensures.same
          (λ t. accepted _ _ c.in-Ok-Some.link c.in-Ok-Some.field-0 c.in-Ok-Some.field-0-is (c.in-Ok-Some.ensures.told (rw was.tells t)))
          adds c.serve_next.ensures.port;
      few = omega (arith, was.count, c.loop-number-test.true, adds.gave.connections);
      done = λ e. absurd cc;
      wanted = subst NoneWanted (sym (earlier-push was.so_far.0.served adds.served)) was.so_far.1;
      none_wanted = λ e. absurd (e refl);
      failed = λ e. absurd cc;
      steady = λ e. rw c.serve_next.ensures.port (c.in-Ok-Some.ensures.steady ∙ was.faults);
    }

pub loop-number-preserved : goal.loop-number-preserved
loop-number-preserved g c =
    let was = c.loop-number.invariant in
    let adds = c.serve_next.ensures.served in record {
      so_far = (
        went-more c.accept.new.self c.make_room.new.self c.in-Ok-Some.link c.serve_next.result was.so_far.0 c.make_room.ensures.same
            (λ t. accepted _ _ c.in-Ok-Some.link c.in-Ok-Some.field-0 c.in-Ok-Some.field-0-is (c.in-Ok-Some.ensures.told (rw was.tells t)))
            adds c.serve_next.ensures.port,
        none-more was.so_far.0.served was.so_far.1 adds (sym c.is_starved.ensures ∙ c.if-is_starved.false),
      );
      tells = rw c.serve_next.ensures.port (c.in-Ok-Some.ensures.tells ∙ was.tells);
      faults = rw c.serve_next.ensures.port (c.in-Ok-Some.ensures.steady ∙ was.faults);
      count = omega (arith, was.count, adds.gave.connections);
      small = c.serve_next.ensures.small;
      limits = c.serve_next.ensures.limits ∙ was.limits;
    }

pub returns-clause-served : goal.returns-clause-served
returns-clause-served g c =
    let was = c.loop-number.invariant in
    let count : c.loop-number.desk.connections ≡ c.args.connections = omega (arith, was.count, c.loop-number-test.false, c.loop-number.auto) in record {
      went = was.so_far.0;
      few = omega (arith, count);
      done = λ e t. inr count;
      wanted = none-earlier _ was.so_far.1;
      none_wanted = λ e. was.so_far.1;
      failed = λ e. absurd cc;
      steady = λ e. was.faults;
    }

pub returns-then-is_err-clause-served : goal.returns-then-is_err-clause-served
returns-then-is_err-clause-served g c =
    let was = c.loop-number.invariant in record {
      went = went-stop c.loop-number.desk.port c.make_room.new.self was.so_far.0 c.make_room.ensures.same (λ t. refl);
      few = omega (arith, was.count, c.loop-number-test.true);
      done = λ e. absurd cc;
      wanted = none-earlier _ was.so_far.1;
      none_wanted = λ e. was.so_far.1;
      failed = λ e. absurd cc;
      steady = λ e. was.faults;
    }

pub returns-in-Err-clause-served : goal.returns-in-Err-clause-served
returns-in-Err-clause-served g c =
    let was = c.loop-number.invariant in record {
      went = went-stop c.accept.new.self c.make_room.new.self was.so_far.0 c.make_room.ensures.same (λ t. c.in-Err.ensures.told (rw was.tells t));
      few = omega (arith, was.count, c.loop-number-test.true);
      done = λ e. absurd cc;
      wanted = none-earlier _ was.so_far.1;
      none_wanted = λ e. was.so_far.1;
      failed = λ e. subst (λ (n : ℕ). Rose n (g.P.Port.faults c.accept.new.self)) was.faults c.in-Err.ensures.fault;
      steady = λ e. absurd (e refl);
    }
