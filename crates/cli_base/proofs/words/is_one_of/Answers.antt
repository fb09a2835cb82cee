use Rattle.std.proofs.Common.{arith}
use Rattle.cli_base.proofs.Standing.{found, passed}
use Rattle.cli_base.proofs.words.is_one_of.Goals as goal

pub returns-then-eq : goal.returns-then-eq
returns-then-eq c =
    found c.args.word.now c.args.words.now c.loop-one.one-index c.one-item.result c.as_str.result.now (omega arith) c.one-item.is c.as_str.ensures c.if-eq.ensures c.loop-one.invariant

pub loop-one-preserved : goal.loop-one-preserved
loop-one-preserved c =
    passed c.args.word.now c.args.words.now c.loop-one.one-index c.one-item.result c.as_str.result.now (omega arith) c.one-item.is c.as_str.ensures c.if-eq.ensures c.loop-one.invariant
