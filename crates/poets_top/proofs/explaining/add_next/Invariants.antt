use Rattle.std.proofs.Common.{map, take}
use Rattle.poets_value.specs.code.Texts.{Puts}
use Rattle.poets_open.specs.Next.{step_of}
use Rattle.poets_top.specs.Explaining.{next_lines}
use Rattle.poets_top.proofs.explaining.add_next.Given as goal

abbrev pub invariant-loop-step : goal.invariant-loop-step
invariant-loop-step l = Puts l.initial.text l.text (next_lines l.names (map step_of (take l.step-index l.steps)))
