use Rattle.std.proofs.Common.{arith}
use Rattle.replay_cache.specs.Cells.{no_cell, is_held}
use Rattle.replay_cache.proofs.Tallying.{tally-all}
use Rattle.replay_cache.proofs.Indexing.{steps-within}
use Rattle.replay_cache.proofs.cells.free_step.Goals as goal

pub unreachable-requires : goal.unreachable-requires
unreachable-requires c =
    omega (
      arith,
      tally-all (is_held c.args.greatest) c.args.cells.now no_cell
          (λ p inside. c.loop-step.invariant p inside (omega (arith, steps-within _ _ p c.requires.home inside, c.loop-step-test.false))),
    )
