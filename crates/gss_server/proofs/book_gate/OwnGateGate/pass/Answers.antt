use Rattle.gss_server.proofs.Passing.{passed-receipt, passed-acts}
use Rattle.gss_server.proofs.book_gate.OwnGateGate.pass.Goals as goal

pub returns-clause-answers : goal.returns-clause-answers
returns-clause-answers g c =
    let gate = c.args.self.now in
    record {
      book = rw (passed-receipt c.admit.result) (rw c.args.call.now.same at c.admit.ensures.admitted);
      acts = passed-acts g.P.Program.says g.P.Program.enters g.S.Speller.spells gate.program gate.speller c.args.lease.now c.args.call.now.seq c.args.call.now.service c.args.call.now.args.now c.admit.result;
    }
