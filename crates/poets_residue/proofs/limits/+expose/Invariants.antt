use Rattle.poets_residue.proofs.limits.+expose.Given as goal

abbrev pub decreases-expose : goal.decreases-expose
decreases-expose l = l.place
