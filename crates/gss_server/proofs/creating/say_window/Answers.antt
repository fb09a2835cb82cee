use Rattle.std.proofs.Common.{arith}
use Rattle.gss_server.proofs.ReplyLengths.{accepted-fits}
use Rattle.gss_server.proofs.creating.say_window.Goals as goal

pub say_reply-requires-clause-fits : goal.say_reply-requires-clause-fits
say_reply-requires-clause-fits c = accepted-fits c.args.heard.now.call.xid 6 c.window_mic-mic.result 0 0 0 c.args.body.now (omega arith) c.requires
