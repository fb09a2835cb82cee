use Rattle.std.proofs.Common.{arith}
use Rattle.gss_base.proofs.Spelled.{octet_utf8}
use Rattle.gss_base.proofs.principal.push_at.Goals as goal

pub returns-clause-utf8 : goal.returns-clause-utf8
returns-clause-utf8 c = λ u. octet_utf8 c.args.out.now.items c.push.new.self.items 64 c.in_ok-push.ensures.items (omega arith) u
