use Rattle.std.proofs.Common.{arith}
use Rattle.cli_base.specs.Words.{texts}
use Rattle.cli_base.proofs.Standing.{goes_on, fails}
use Rattle.cli_base.proofs.words.are_words.Goals as goal

pub returns-then-not-may_stand : goal.returns-then-not-may_stand
returns-then-not-may_stand c =
    fails (texts c.args.names.now) c.args.words.now c.loop-at.at c.index-words-at.result c.as_str.result.now (omega arith) c.index-words-at.is c.as_str.ensures c.if-not-may_stand.ensures c.loop-at.invariant

pub loop-at-preserved : goal.loop-at-preserved
loop-at-preserved c =
    goes_on (texts c.args.names.now) c.args.words.now c.loop-at.at c.index-words-at.result c.as_str.result.now (omega arith) c.index-words-at.is c.as_str.ensures c.if-not-may_stand.ensures c.loop-at.invariant
