-- What the code counts.
use Rattle.std.specs.Prelude.{◌≡◌, ◌≤◌, true, false, List, [], ◌∷◌, ◌++◌, Option, IfSome, IfNone}
use Rattle.std.specs.Prelude.{count_by}
use Rattle.poets_value.specs.Limits.{most_clerks}
use Rattle.poets_command.specs.Said.{Statement}
use Rattle.poets_session.specs.Places.{is_template, is_report, is_clerk, is_command, most_templates}
use Rattle.poets_session.specs.Places.{most_reports, most_commands}
use Rattle.poets_session.specs.code.Placing.{is_too_many}
use Rattle.poets_session.specs.declared.counting.Counts.{Counts}

-- there are no more clerks, templates, reports and commands than there may be
abbrev pub AreFew : Counts → Type 0
AreFew counts =
    (counts.clerks ≤ most_clerks) × (counts.templates ≤ most_templates) × (counts.reports ≤ most_reports)
    × (counts.commands ≤ most_commands)

-- the counts are those of the statements
pub record AreCounted (statements : List Statement) (counts : Counts) : Type 0 where
  pub clerks : counts.clerks ≡ count_by is_clerk statements
  pub templates : counts.templates ≡ count_by is_template statements
  pub reports : counts.reports ≡ count_by is_report statements
  pub commands : counts.commands ≡ count_by is_command statements

-- after any statements with these counts: the counts that are answered are those with this
-- statement
abbrev pub CountsMore : Counts → Statement → Option Counts → Type 0
CountsMore counts s more =
    (before : List Statement) → AreCounted before counts → IfSome more (AreCounted (before ++ s ∷ []))

-- after any statements with these counts: where counts are answered, this statement is not one too
-- many
abbrev pub FewIfSome : Counts → Statement → Option Counts → Type 0
FewIfSome counts s more =
    (before : List Statement) → AreCounted before counts → IfSome more (λ _. is_too_many before s ≡ false)

-- after any statements with these counts: where none are answered, this statement is one too many
abbrev pub ManyIfNone : Counts → Statement → Option Counts → Type 0
ManyIfNone counts s more =
    (before : List Statement) → AreCounted before counts → IfNone more (is_too_many before s ≡ true)
