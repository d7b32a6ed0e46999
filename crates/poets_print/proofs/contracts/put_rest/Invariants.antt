use Rattle.std.proofs.Common.{take}
use Rattle.poets_value.specs.code.Texts.{Puts}
use Rattle.poets_print.specs.code.Putting.{more_arguments}
use Rattle.poets_print.proofs.contracts.put_rest.Given as goal

abbrev pub invariant-loop-arg : goal.invariant-loop-arg
invariant-loop-arg l = Puts l.initial.out l.out (more_arguments l.names (take l.arg-index l.args))
