use Rattle.std.proofs.Common.{refl}
use Rattle.rpcsec_msgs.specs.Cred.{cred_value}
use Rattle.gss_server.specs.Hearing.{shown}
use Rattle.gss_server.proofs.Unasked.{screened-destroy, asked-destroy}
use Rattle.gss_server.proofs.looking.say_destroy.Goals as goal

pub returns-in-Some : goal.returns-in-Some
returns-in-Some g c = record {
  ruled = screened-destroy g.G.Gate c.args.gate.now c.args.asks.now c.in-Some.said (shown g.G.Gate.program c.args.heard.now) (cred_value c.args.cred.now) c.args.lease.now c.args.asks.now.ended c.requires.unasked c.in-Some.ensures;
}

pub returns-in-None : goal.returns-in-None
returns-in-None g c = record { ruled = asked-destroy g.G.Gate _ _ _ _ _ _ _ _ c.in-None.ensures (search refl) }
