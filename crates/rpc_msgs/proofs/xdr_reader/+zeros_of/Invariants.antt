use Rattle.rpc_msgs.proofs.xdr_reader.+zeros_of.Given as goal

abbrev pub decreases-zeros_of : goal.decreases-zeros_of
decreases-zeros_of l = l.count
