use Rattle.poets_cons.proofs.bag.+join.Given as goal

abbrev pub decreases-join : goal.decreases-join
decreases-join l = l.a
