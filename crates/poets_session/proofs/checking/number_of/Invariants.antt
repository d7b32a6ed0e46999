use Rattle.std.proofs.Common.{◌≡◌, All, false, take}
use Rattle.poets_command.specs.Statements.{statement_of}
use Rattle.poets_command.specs.declared.statement.Statement.{Statement}
use Rattle.poets_session.specs.code.Checking.{declares}
use Rattle.poets_session.proofs.checking.number_of.Given as goal

-- no statement so far declares the template
abbrev pub invariant-loop-place : goal.invariant-loop-place
invariant-loop-place l = All {X = Statement} (λ s. declares l.name (statement_of s) ≡ false) (take l.place l.statements)
