use Rattle.std.proofs.Common.{◌≡◌}
use Rattle.poets_command.specs.Statements.{statements_of}
use Rattle.poets_session.specs.Sessions.{scripts_of, commands_in, journal_of, calls_in}
use Rattle.poets_session.proofs.scripts.calls_in.Given as goal

-- the calls are those of the statements so far
abbrev pub invariant-loop-statement : goal.invariant-loop-statement
invariant-loop-statement l =
    (commands_in l.calls.scripts.items ≡ scripts_of (statements_of l.yielded)) × (calls_in l.calls.journal.items ≡ journal_of (statements_of l.yielded))
