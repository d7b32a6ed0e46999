use Rattle.std.proofs.Common.{take}
use Rattle.poets_value.specs.code.Texts.{Puts}
use Rattle.poets_books.specs.code.Putting.{more_parameters}
use Rattle.poets_books.proofs.lists.put_more_parameters.Given as goal

abbrev pub invariant-loop-param : goal.invariant-loop-param
invariant-loop-param l = Puts l.initial.out l.out (more_parameters l.names (take l.param-index l.params))
