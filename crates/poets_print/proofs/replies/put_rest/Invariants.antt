use Rattle.std.proofs.Common.{take}
use Rattle.poets_print.specs.Texts.{behind_commas}
use Rattle.poets_print.specs.Lines.{row_text}
use Rattle.poets_value.specs.code.Texts.{Puts}
use Rattle.poets_print.proofs.replies.put_rest.Given as goal

abbrev pub invariant-loop-row : goal.invariant-loop-row
invariant-loop-row l = Puts l.initial.out l.out (behind_commas (row_text l.names) (take l.row-index l.rows))
