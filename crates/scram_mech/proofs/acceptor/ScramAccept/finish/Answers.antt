use Rattle.std.proofs.Common.{ℕ, List}
use Rattle.krb_tokens.specs.declared.done.MechDone.{MechDone}
use Rattle.scram_mech.proofs.Lengths.{final_given}
use Rattle.scram_mech.proofs.acceptor.ScramAccept.finish.Goals as goal

pub returns-clause-short : goal.returns-clause-short
returns-clause-short c =
    final_given c.args.self c.args.text.now _ c.args.now (λ (p : MechDone × List ℕ). record { done = p.0; token = p.1 }) c.finished.result c.finished.ensures
