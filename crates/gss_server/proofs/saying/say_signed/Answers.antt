use Rattle.std.proofs.Common.{arith}
use Rattle.gss_server.proofs.ReplyLengths.{accepted-fits}
use Rattle.gss_server.proofs.saying.say_signed.Goals as goal

pub say_reply-requires-clause-fits : goal.say_reply-requires-clause-fits
say_reply-requires-clause-fits g c = accepted-fits c.args.heard.now.call.xid 6 c.verifier-mic.result c.args.stat c.args.low c.args.high c.args.body.now (omega arith) c.requires.size
