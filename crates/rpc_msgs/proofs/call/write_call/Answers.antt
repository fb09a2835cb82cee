use Rattle.std.proofs.Common.{arith}
use Rattle.std.proofs.lemmas.Grind.{common_steps}
use Rattle.rpc_msgs.proofs.CallLaws.{secure-again}
use Rattle.rpc_msgs.proofs.call.write_call.Goals as goal

pub returns-clause-again : goal.returns-clause-again
returns-clause-again c =
    secure-again c.args.xid c.args.program c.args.version c.args.procedure c.args.cred.now (record { flavour = c.args.verf_flavour; body = c.args.verf.now }) c.args.args.now c.finish.result
    (omega arith) (omega arith) (omega arith) (omega arith) c.requires.cred (record { flavour = omega arith; body = c.requires.verf }) (grind (arith, common_steps))

pub returns-clause-octets : goal.returns-clause-octets
returns-clause-octets c = grind (arith, common_steps)
