use Rattle.poets_residue.proofs.shared.+may_end_at.Given as goal

abbrev pub decreases-may_end_at : goal.decreases-may_end_at
decreases-may_end_at l = l.place
