use Rattle.std.proofs.Common.{take}
use Rattle.poets_value.specs.code.Texts.{Puts}
use Rattle.poets_print.specs.code.Putting.{more_parts}
use Rattle.poets_print.proofs.replies.put_more_parts.Given as goal

abbrev pub invariant-loop-part : goal.invariant-loop-part
invariant-loop-part l = Puts l.initial.out l.out (more_parts l.names (take l.part-index l.parts))
