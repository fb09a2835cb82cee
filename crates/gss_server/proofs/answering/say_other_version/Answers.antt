use Rattle.gss_server.proofs.ReplyLengths.{mismatch-fits}
use Rattle.gss_server.proofs.answering.say_other_version.Goals as goal

pub say_reply-requires-clause-fits : goal.say_reply-requires-clause-fits
say_reply-requires-clause-fits c = mismatch-fits c.args.xid 2 2
