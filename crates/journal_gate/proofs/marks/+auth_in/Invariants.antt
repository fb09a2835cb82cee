use Rattle.journal_gate.proofs.marks.+auth_in.Given as goal

abbrev pub decreases-auth_in : goal.decreases-auth_in
decreases-auth_in l = l.count
