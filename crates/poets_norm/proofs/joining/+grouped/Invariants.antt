use Rattle.poets_norm.proofs.joining.+grouped.Given as goal

abbrev pub decreases-grouped : goal.decreases-grouped
decreases-grouped l = l.place
