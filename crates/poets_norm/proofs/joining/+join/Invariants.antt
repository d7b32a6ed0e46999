use Rattle.poets_norm.proofs.joining.+join.Given as goal

abbrev pub decreases-join : goal.decreases-join
decreases-join l = l.place
