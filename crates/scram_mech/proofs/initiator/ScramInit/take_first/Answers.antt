use Rattle.std.proofs.Common.{ℕ, List}
use Rattle.scram_mech.specs.Initiator.{WaitModel}
use Rattle.scram_mech.proofs.Lengths.{answer_given}
use Rattle.scram_mech.proofs.initiator.ScramInit.take_first.Goals as goal

pub returns-clause-short : goal.returns-clause-short
returns-clause-short c =
    answer_given c.args.self c.args.text.now (λ (p : WaitModel × List ℕ). record { end = p.0; token = p.1 }) c.answered.result c.told_data.ensures c.answered.ensures
