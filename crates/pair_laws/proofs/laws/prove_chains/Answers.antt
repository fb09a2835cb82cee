use Rattle.pair_laws.proofs.Rows.{answered-turns, row-cut, reads}
use Rattle.pair_laws.proofs.Writing.{writes}
use Rattle.pair_laws.proofs.laws.prove_chains.Goals as goal

pub returns : goal.returns
returns c = record { turns = answered-turns; cuts = row-cut; writes = writes; reads = reads }
