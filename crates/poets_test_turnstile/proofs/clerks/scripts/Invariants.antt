use Rattle.std.proofs.Common.{◌≡◌, ◌≤◌, length}
use Rattle.std.specs.Prelude.{All}
use Rattle.std.specs.Arc.{arc_value}
use Rattle.poets_test_turnstile.proofs.clerks.scripts.Given as goal

abbrev pub invariant-loop-made : goal.invariant-loop-made
invariant-loop-made l = (length l.list.items ≡ l.made) × All (λ s. All (λ c. arc_value c ≤ 9) s.items) l.list.items
