use Rattle.std.proofs.Common.{◌+◌, ◌*◌, max}
use Rattle.poets_cons.proofs.copying.+copy.Given as goal

abbrev pub decreases-copy_once : goal.decreases-copy_once
decreases-copy_once l = 3 * l.place + 1

abbrev pub decreases-with_copied_parts : goal.decreases-with_copied_parts
decreases-with_copied_parts l = 3 * l.place

abbrev pub decreases-copy_both : goal.decreases-copy_both
decreases-copy_both l = 3 * max l.a l.b + 2
