use Rattle.poets_command.specs.Statements.{statements_of}
use Rattle.poets_import.specs.code.Gathering.{IsDeclaredBy}
use Rattle.poets_import.proofs.book.gather.Given as goal

-- this is what the statements so far declare
abbrev pub invariant-loop-statement : goal.invariant-loop-statement
invariant-loop-statement l = IsDeclaredBy (statements_of l.yielded) l.declared
