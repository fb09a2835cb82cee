use Rattle.rpcsec_msgs.specs.Cred.{cred_value}
use Rattle.gss_server.specs.Hearing.{shown}
use Rattle.gss_server.proofs.Unasked.{screened-data}
use Rattle.gss_server.proofs.calling.say_data.Goals as goal

pub returns-in-Some : goal.returns-in-Some
returns-in-Some g c = record {
  ruled = screened-data g.G.Gate c.args.gate.now c.args.asks.now c.in-Some.said (shown g.G.Gate.program c.args.heard.now) (cred_value c.args.cred.now) c.args.lease.now c.args.asks.now.admitted c.requires.unasked c.in-Some.ensures;
}

pub returns-in-None : goal.returns-in-None
returns-in-None g c = record { ruled = c.say_in_context.ensures.ruled }
