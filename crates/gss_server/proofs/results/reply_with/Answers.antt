use Rattle.std.proofs.Common.{ap, arith, length, ℕ}
use Rattle.gss_server.proofs.ReplyLengths.{signed-fits}
use Rattle.gss_server.proofs.results.reply_with.Goals as goal

pub returns-clause-fits : goal.returns-clause-fits
returns-clause-fits g c =
    signed-fits c.args.heard.now.call.xid 6 c.verifier-mic.result c.in_ok-head.head c.put_accepted.new.out c.finish.result 0 (omega arith) c.in_ok-head.ensures c.in_ok-put_accepted.ensures
    (omega (arith, ap (length {A = ℕ}) c.finish.ensures, c.in_ok-whole.ensures.size))
