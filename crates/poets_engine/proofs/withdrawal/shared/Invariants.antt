use Rattle.std.proofs.Common.{◌≡◌, map, take}
use Rattle.std.specs.Arc.{arc_value}
use Rattle.poets_table.specs.TableView.{values_of}
use Rattle.poets_engine.proofs.withdrawal.shared.Given as goal

abbrev pub invariant-loop-point : goal.invariant-loop-point
invariant-loop-point l = values_of l.shared ≡ map arc_value (take l.point-index l.points)
