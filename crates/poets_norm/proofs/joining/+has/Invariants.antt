use Rattle.poets_norm.proofs.joining.+has.Given as goal

abbrev pub decreases-has : goal.decreases-has
decreases-has l = l.choice
