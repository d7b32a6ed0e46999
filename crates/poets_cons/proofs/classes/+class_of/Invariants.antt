use Rattle.std.proofs.Common.{◌+◌, ◌*◌}
use Rattle.poets_cons.proofs.classes.+class_of.Given as goal

abbrev pub decreases-class_of : goal.decreases-class_of
decreases-class_of l = 2 * l.place + 1

abbrev pub decreases-shape_of : goal.decreases-shape_of
decreases-shape_of l = 2 * l.place
