use Rattle.std.proofs.Common.{◌≡◌, ◌≤◌, length, map}
use Rattle.std.specs.Prelude.{vec_capacity}
use Rattle.poets_clerks.proofs.scripts.seated.Given as goal

-- the clerks so far have desks
abbrev pub invariant-loop-clerk : goal.invariant-loop-clerk
invariant-loop-clerk g l = record {
  desks : map (λ d. d.clerk) l.desks.items ≡ l.yielded;
  room : length l.fn.clerks.items ≤ vec_capacity l.desks;
}
