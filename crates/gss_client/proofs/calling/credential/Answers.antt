use Rattle.std.proofs.Common.{[]}
use Rattle.rpcsec_bodies.proofs.Lengths.{sized}
use Rattle.gss_client.proofs.CallLengths.{cred-fits}
use Rattle.gss_client.proofs.calling.credential.Goals as goal

pub returns-clause-size : goal.returns-clause-size
returns-clause-size c = sized c.write_cred.result [] _ 400 c.write_cred.ensures (cred-fits (record { proc = c.args.proc; seq = c.args.seq; service = c.args.service; context = c.args.handle.now }) c.requires)
