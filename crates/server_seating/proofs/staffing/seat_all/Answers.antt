use Rattle.std.proofs.Common.{rules, arith, length, ap, ◌∙◌}
use Rattle.server_desks.proofs.InStep.{moves-more}
use Rattle.server_seating.proofs.Starts.{moves-none}
use Rattle.server_seating.proofs.staffing.seat_all.Goals as goal

pub loop-one-preserved : goal.loop-one-preserved
loop-one-preserved g c =
    let i = c.loop-one.invariant in
    record {
      can_next = tt;
      finite = tt;
      moves = moves-more _ _ _ _ _ _ c.in-Some.one c.new.result i.moves c.in-Some.ensures.steps.0 c.push_reserved.ensures.items (
        rw c.new.ensures.desk c.part-desk.ensures.desk,
        ap (λ gate. gate.gate.seat.clerk) c.new.ensures.gate ∙ c.new-seat.ensures.clerk,
        ap (λ gate. gate.gate.seat.speller) c.new.ensures.gate ∙ c.new-seat.ensures.speller ∙ c.part-desk.ensures.speller,
        c.new.ensures.connections,
        c.new.ensures.width,
        ap (λ gate. gate.gate.journaled) c.new.ensures.gate,
        ap (λ gate. gate.gate.share.amount) c.new.ensures.gate ∙ c.split_off-share.ensures.amount,
      );
      room = search rules;
      parts = omega (arith, ap length c.in-Some.ensures.steps.0, c.split_off-share.ensures.parts_left, i.parts);
      amount = omega (arith, c.split_off-share.ensures.amount_left, i.amount);
    }

pub loop-one-init : goal.loop-one-init
loop-one-init g c =
    record {
      can_next = tt;
      finite = tt;
      moves = moves-none _ _ _ _ (search rules) c.requires.none;
      room = search rules;
      parts = search rules;
      amount = c.requires.uncounted;
    }
