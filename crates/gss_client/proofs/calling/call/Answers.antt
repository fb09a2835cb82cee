use Rattle.std.proofs.Common.{[]}
use Rattle.rpcsec_bodies.proofs.Lengths.{sized}
use Rattle.gss_client.proofs.CallLengths.{call-fits}
use Rattle.gss_client.proofs.calling.call.Goals as goal

pub returns-clause-size : goal.returns-clause-size
returns-clause-size c =
    sized c.write_call.result [] _ 131072 c.write_call.ensures.octets (call-fits c.args.xid c.args.terms.program c.args.terms.version c.args.procedure c.args.cred.now (record { flavour = c.args.flavour; body = c.args.verf.now }) c.args.args.now c.requires.cred c.requires.verf c.requires.args)
