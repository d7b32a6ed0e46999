use Rattle.std.proofs.Common.{◌≤◌, take}
use Rattle.poets_value.specs.Limits.{most_clerks}
use Rattle.poets_command.specs.Statements.{statements_of}
use Rattle.poets_session.specs.Places.{most_templates, most_reports, most_commands}
use Rattle.poets_session.proofs.Placing.{Placed}
use Rattle.poets_session.proofs.counting.check_places.Given as goal

-- the statements so far stand in their places, and are counted
abbrev pub invariant-loop-place : goal.invariant-loop-place
invariant-loop-place l =
    Placed l.form l.part l.counts (statements_of (take l.place l.statements))
    × (l.counts.clerks ≤ most_clerks) × (l.counts.templates ≤ most_templates) × (l.counts.reports ≤ most_reports) × (l.counts.commands ≤ most_commands)
