use Rattle.std.proofs.Common.{◌≡◌, length, None}
use Rattle.std.specs.Prelude.{All}
use Rattle.poets_clerks.proofs.history.empty_slots.Given as goal

abbrev pub invariant-loop-made : goal.invariant-loop-made
invariant-loop-made g l = record { count : length l.slots.items ≡ l.made; empty : All (λ slot. slot ≡ None) l.slots.items }
