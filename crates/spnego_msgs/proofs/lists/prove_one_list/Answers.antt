use Rattle.spnego_msgs.proofs.TokenLaws.{one_list}
use Rattle.spnego_msgs.proofs.lists.prove_one_list.Goals as goal

pub returns : goal.returns
returns c = one_list
