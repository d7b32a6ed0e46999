-- A session has no more commands than may be.
use Rattle.std.proofs.Common.{ℕ, ◌+◌, ◌≤◌, List, [], ◌∷◌, arith}
use Rattle.std.specs.Prelude.{count_by, sum_by, cond}
use Rattle.std.proofs.lemmas.List.Sums.{sum_by-cons}
use Rattle.poets_command.specs.Plain as plain
use Rattle.poets_command.specs.Said.{Statement, Command}
use Rattle.poets_session.specs.declared.form.Form.{Form}
use Rattle.poets_session.specs.Places.{is_command, most_commands, ArePlaced}
use Rattle.poets_session.specs.Sessions.{scripts_of}
use Rattle.poets_stored.proofs.Sources.{weight_of, scripts_weight}

commands_counted : (statements : List Statement) → weight_of (λ _. 1) statements ≤ count_by is_command statements
commands_counted [] = omega arith
commands_counted (s ∷ statements) = omega (arith, first s, commands_counted statements, sum_by-cons (λ (x : Statement). cond (is_command x) 1 0) s statements)
  where
    first : (s : Statement) → weight_of (λ _. 1) (s ∷ statements) ≤ cond (is_command s) 1 0 + weight_of (λ _. 1) statements
    first (Command c) = omega arith
    first s = omega arith

-- the commands of all scripts, counted one by one
pub commands_few : (form : Form) (statements : List Statement) → ArePlaced form statements → sum_by (sum_by (λ (c : plain.Command). 1)) (scripts_of statements) ≤ most_commands
commands_few form statements placed = omega (arith, placed.limits.commands, commands_counted statements, scripts_weight (λ _. 1) statements)
