use Rattle.std.proofs.Common.{replicate}
use Rattle.poets_value.specs.code.Texts.{Puts}
use Rattle.poets_mark.proofs.marking.add_spaces.Given as goal

-- so many spaces were added
abbrev pub invariant-loop : goal.invariant-loop
invariant-loop l = Puts l.fn.lines l.lines (replicate l.counter 32)
