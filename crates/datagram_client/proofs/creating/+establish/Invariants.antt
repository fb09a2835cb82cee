use Rattle.datagram_client.proofs.creating.+establish.Given as goal

abbrev pub decreases-establish : goal.decreases-establish
decreases-establish g l = l.left
