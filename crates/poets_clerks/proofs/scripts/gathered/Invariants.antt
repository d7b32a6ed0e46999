use Rattle.std.proofs.Common.{◌≡◌, ◌+◌, ◌≤◌, false, length, map}
use Rattle.std.specs.Prelude.{All}
use Rattle.poets_clerks.proofs.scripts.gathered.Given as goal

-- the clerks and the answers are those of the desks so far
abbrev pub invariant-loop-desk : goal.invariant-loop-desk
invariant-loop-desk g l = record {
  clerks : l.worked.clerks.items ≡ map (λ d. d.clerk) l.yielded;
  answers : l.worked.answers.items ≡ map (λ d. d.answers) l.yielded;
  memory : l.worked.memory ≡ false → All (λ d. d.memory ≡ false) l.yielded;
  room : (length l.fn.desks.items ≤ l.worked.clerks.room + length l.yielded) × (length l.fn.desks.items ≤ l.worked.answers.room + length l.yielded);
}
