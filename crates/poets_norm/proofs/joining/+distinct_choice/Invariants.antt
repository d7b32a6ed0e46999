use Rattle.poets_norm.proofs.joining.+distinct_choice.Given as goal

abbrev pub decreases-distinct_choice : goal.decreases-distinct_choice
decreases-distinct_choice l = l.place
