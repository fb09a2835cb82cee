use Rattle.std.proofs.Common.{arith}
use Rattle.gss_base.proofs.Spelled.{octet_utf8}
use Rattle.gss_base.proofs.principal.push_between.Goals as goal

pub returns-in_ok-push-clause-utf8 : goal.returns-in_ok-push-clause-utf8
returns-in_ok-push-clause-utf8 c = λ u. octet_utf8 c.args.out.now.items c.push.new.self.items 47 c.in_ok-push.ensures.items (omega arith) u
