use Rattle.std.proofs.Common.{ℕ, List}
use Rattle.scram_mech.specs.Acceptor.{AcceptModel}
use Rattle.scram_mech.proofs.Lengths.{second_given}
use Rattle.scram_mech.proofs.acceptor.ScramAccept.start.Goals as goal

pub returns-clause-short : goal.returns-clause-short
returns-clause-short c =
    second_given c.args.verifiers.now c.args.token.now c.args.nonce.now (λ (p : AcceptModel × List ℕ). record { end = p.0; token = p.1 }) c.started.result
    c.told_lines.ensures c.told-nonce c.started.ensures
