use Rattle.poets_residue.proofs.row_widths.+less_size.Given as goal

abbrev pub decreases-less_size : goal.decreases-less_size
decreases-less_size l = l.place
