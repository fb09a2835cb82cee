use Rattle.datagram_laws.proofs.Only.{replies-law}
use Rattle.datagram_laws.proofs.laws.prove_replies.Goals as goal

pub returns : goal.returns
returns c = replies-law c.prove_acts_once.ensures.answered c.prove_acts_once.ensures.each_once
