use Rattle.std.proofs.Common.{◌+◌, ◌*◌, arith}
use Rattle.sha1.specs.Sha1.{schedule}
use Rattle.sha1.proofs.Schedule.{round_fn_last, round_constant_last}
use Rattle.lanes_sha1.proofs.Compressing.{rounds_at}
use Rattle.lanes_sha1.proofs.rounds.last_stage4.Goals as goal

pub five4-turned-requires : goal.five4-turned-requires
five4-turned-requires c = record {
  within = omega arith;
  rounds = λ k low high. (round_constant_last k (omega arith), λ x y z. round_fn_last k x y z (omega arith));
}

pub fives-init : goal.fives-init
fives-init c = λ j lt block h written begun. begun

pub fives-preserved : goal.fives-preserved
fives-preserved c = λ j lt block h written begun.
    rounds_at h (schedule block 64) _ (60 + 5 * c.fives.five + 5) (60 + 5 * (c.fives.five + 1)) (omega arith)
    (c.five4-turned.ensures j lt block h (λ k under. written k (omega arith)) (c.fives.invariant j lt block h written begun))

pub returns : goal.returns
returns c = λ j lt block h written begun.
    rounds_at h (schedule block 64) _ (60 + 5 * c.fives.five) 80 (omega arith) (c.fives.invariant j lt block h written begun)
