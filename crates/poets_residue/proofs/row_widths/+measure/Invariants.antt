use Rattle.poets_residue.proofs.row_widths.+measure.Given as goal

abbrev pub decreases-measure : goal.decreases-measure
decreases-measure l = l.place
