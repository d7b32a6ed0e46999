use Rattle.std.proofs.Common.{◌≤◌}
use Rattle.std.specs.Prelude.{All}
use Rattle.std.specs.Arc.{arc_value}
use Rattle.poets_test_turnstile.proofs.clerks.script.Given as goal

abbrev pub invariant-loop : goal.invariant-loop
invariant-loop l = All (λ c. arc_value c ≤ 9) l.list.items
