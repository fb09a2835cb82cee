use Rattle.std.proofs.Common.{[], lit≤}
use Rattle.gss_server.proofs.ReplyLengths.{accepted-fits}
use Rattle.gss_server.proofs.creating.say_creation.Goals as goal

pub say_reply-requires-clause-fits : goal.say_reply-requires-clause-fits
say_reply-requires-clause-fits g c = accepted-fits c.args.heard.now.call.xid 0 [] 0 0 0 c.args.body.now (lit≤ tt) c.requires.size
