use Rattle.std.proofs.Common.{◌≡◌, ◌+◌, ◌≤◌, ◌++◌, length, map, take}
use Rattle.std.specs.Arc.{arc_value}
use mathlib.Core.List.{IsPrefix}
use Rattle.poets_turn.specs.Clerks.{front, calls, number, turn_frame, IsClerkOf}
use Rattle.poets_clerks.specs.Scripts.{AreAnswers}
use Rattle.poets_clerks.proofs.script.make_script.Given as goal

-- the calls so far are made and answered
abbrev pub invariant-loop-i : goal.invariant-loop-i
invariant-loop-i g l = record {
  of : IsClerkOf g.M.Machine.frame l.fn.turn l.clerk;
  same : number l.clerk ≡ number l.fn.clerk;
  longer : IsPrefix (front l.fn.clerk) (front l.clerk);
  long : length l.done.items ≡ l.i;
  room : length l.fn.script ≤ l.done.room + l.i;
  answered : AreAnswers (g.M.Machine.answers (turn_frame g.M.Machine.frame l.fn.turn)) (front l.clerk) (number l.fn.clerk) (length (front l.fn.clerk)) (map arc_value l.fn.script) (map (λ d. (d.place, d.reply)) l.done.items);
  made : calls l.clerk ≡ calls l.fn.clerk ++ map arc_value (take l.i l.fn.script);
}
