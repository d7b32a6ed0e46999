use Rattle.std.proofs.Common.{◌≡◌, ◌++◌, drop, map, reverse, string_bytes, []}
use Rattle.poets_way.specs.Moves.{move_of}
use Rattle.poets_way.specs.code.Writing.{moves_text}
use Rattle.poets_way.proofs.texts.way_text.Given as goal

abbrev pub invariant-loop-step : goal.invariant-loop-step
invariant-loop-step l =
    string_bytes l.text ++ moves_text (map move_of (drop l.step-index l.step-items)) (reverse l.parts.items) ≡ moves_text (map move_of l.step-items) []
