use Rattle.std.proofs.Common.{ap, ◌∙◌}
use Rattle.udp_post.proofs.Noting.{none-noted}
use Rattle.udp_post.specs.Noted.{datagrams_in}
use Rattle.udp_post.proofs.udp_post.UdpPost.ask.Goals as goal

pub returns-clause-sent : goal.returns-clause-sent
returns-clause-sent g c = ap datagrams_in c.new-2.ensures ∙ none-noted
