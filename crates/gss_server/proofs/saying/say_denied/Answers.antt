use Rattle.gss_server.proofs.ReplyLengths.{auth_error-fits}
use Rattle.gss_server.proofs.saying.say_denied.Goals as goal

pub say_reply-requires-clause-fits : goal.say_reply-requires-clause-fits
say_reply-requires-clause-fits g c = auth_error-fits c.args.heard.now.call.xid c.args.stat
