use Rattle.scram_mech.proofs.RunWalks.{line-text}
use Rattle.scram_mech.proofs.cursor.label_of.Goals as goal

pub unreachable-requires-in-Err : goal.unreachable-requires-in-Err
unreachable-requires-in-Err c = c.in-Err.ensures.cases.0 (line-text c.args.name.now c.requires.each)
