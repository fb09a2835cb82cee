use Rattle.std.proofs.Common.{rules}
use Rattle.gss_client.proofs.session.Session.next.Goals as goal

pub returns : goal.returns
returns c = search rules
