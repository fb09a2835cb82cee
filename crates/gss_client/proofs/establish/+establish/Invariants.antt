use Rattle.gss_client.proofs.establish.+establish.Given as goal

abbrev pub decreases-establish : goal.decreases-establish
decreases-establish g l = l.left
