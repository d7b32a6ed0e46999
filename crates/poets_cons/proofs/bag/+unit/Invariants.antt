use Rattle.poets_cons.proofs.bag.+unit.Given as goal

abbrev pub decreases-unit : goal.decreases-unit
decreases-unit l = l.class
