use Rattle.std.proofs.Common.{◌+◌, ◌&&◌, ◌==◌, length, arith}
use Rattle.replay_cache.specs.declared.cells.Cell.{Cell}
use Rattle.replay_cache.specs.Cells.{mark_in, is_held, home_of}
use Rattle.replay_cache.proofs.Indexing.{need-small, need-more}
use Rattle.replay_cache.proofs.cells.needed_reach.Goals as goal

pub loop-step-preserved : goal.loop-step-preserved
loop-step-preserved c =
    let test = λ (cell : Cell). is_held c.args.greatest cell && (home_of (length c.args.cells.now) (mark_in cell) == c.args.home) in
    record {
      less = need-small (test c.index-cells-place.result) c.loop-step.step c.loop-step.needed c.need_with-needed.result c.args.reach c.need_with-needed.ensures
          (omega (arith, c.loop-step-test.true)) c.loop-step.invariant.less;
      early = need-small (test c.index-cells-place.result) c.loop-step.step c.loop-step.needed c.need_with-needed.result (c.loop-step.step + 1) c.need_with-needed.ensures
          (omega arith) (omega (arith, c.loop-step.invariant.early));
      covers = need-more test c.args.cells.now c.args.home c.loop-step.step c.loop-step.needed c.need_with-needed.result c.place_at-place.result c.index-cells-place.result
          c.requires.home (omega (arith, c.loop-step-test.true, c.requires.reach)) c.place_at-place.ensures.value c.place_at-place.ensures.inside c.index-cells-place.is
          c.need_with-needed.ensures c.loop-step.invariant.early c.loop-step.invariant.covers;
    }
