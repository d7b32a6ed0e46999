use Rattle.poets_norm.proofs.joining.+merge.Given as goal

abbrev pub decreases-merge : goal.decreases-merge
decreases-merge l = l.b
