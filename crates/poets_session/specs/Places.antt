-- Where statements may be, and how many of them.
use Rattle.std.specs.Prelude.{⊤, ◌≡◌, ℕ, suc, ◌≤◌, Bool, true, false, List, [], ◌∷◌, ◌++◌, length}
use Rattle.std.specs.Prelude.{All}
use Rattle.std.specs.Prelude.{count_by}
use Rattle.poets_value.specs.Limits.{most_clerks}
use Rattle.poets_command.specs.Said.{Statement, Template, Report, Clerk, Command, Numbered}
use Rattle.poets_session.specs.Shapes.{HasShape, Begins, GoesWrong}
use Rattle.poets_session.specs.declared.form.Form.{Form}
use Rattle.poets_session.specs.declared.counting.TheConstants.{MOST_TEMPLATES, MOST_REPORTS}
use Rattle.poets_session.specs.declared.counting.TheConstants.{MOST_COMMANDS}

abbrev pub is_template : Statement → Bool
is_template (Template t) = true
is_template s = false

abbrev pub is_report : Statement → Bool
is_report (Report q) = true
is_report s = false

abbrev pub is_clerk : Statement → Bool
is_clerk Clerk = true
is_clerk s = false

abbrev pub is_command : Statement → Bool
is_command (Command command) = true
is_command (Numbered clerk command) = true
is_command s = false

-- the most templates, reports and commands
abbrev pub most_templates : ℕ
most_templates = MOST_TEMPLATES

abbrev pub most_reports : ℕ
most_reports = MOST_REPORTS

abbrev pub most_commands : ℕ
most_commands = MOST_COMMANDS

-- a numbered command has the number of a clerk
abbrev pub HasClerk : Statement → Type 0
HasClerk (Numbered clerk command) = (1 ≤ clerk) × (clerk ≤ most_clerks)
HasClerk s = ⊤

-- there are no more clerks, templates, reports and commands than there may be, and each numbered
-- command has the number of a clerk
pub record KeepLimits (statements : List Statement) : Type 0 where
  pub clerks : count_by is_clerk statements ≤ most_clerks
  pub templates : count_by is_template statements ≤ most_templates
  pub reports : count_by is_report statements ≤ most_reports
  pub commands : count_by is_command statements ≤ most_commands
  pub numbers : All HasClerk statements

-- the statements are in their places, and none is one too many
pub record ArePlaced (form : Form) (statements : List Statement) : Type 0 where
  pub shape : HasShape form statements
  pub limits : KeepLimits statements

-- the number of a statement, from 1, that may not be in its place, or is one too many or has the
-- number of no clerk
pub data PlaceFault : Type 0 where
  Misplaced : (statement : ℕ) → PlaceFault
  TooMany : (statement : ℕ) → PlaceFault

-- the statement with the number, or the end, is the first with which the statements go wrong, and
-- those before it keep the limits
pub record IsMisplacedAt (form : Form) (statements : List Statement) (number : ℕ) : Type 0 where
  pub front : List Statement
  pub rest : List Statement
  pub cut : statements ≡ front ++ rest
  pub counted : number ≡ suc (length front)
  pub begins : Begins form front
  pub limits : KeepLimits front
  pub wrong : GoesWrong form front rest

-- the statement with the number is the first with which the statements break a limit, and up to it
-- they are in their places
pub record IsTooManyAt (form : Form) (statements : List Statement) (number : ℕ) : Type 0 where
  pub front : List Statement
  pub one : Statement
  pub rest : List Statement
  pub cut : statements ≡ front ++ one ∷ rest
  pub counted : number ≡ suc (length front)
  pub begins : Begins form (front ++ one ∷ [])
  pub limits : KeepLimits front
  pub broken : ¬ (KeepLimits (front ++ one ∷ []))

-- the fault is that of the first statement that is misplaced or one too many
abbrev pub IsPlaceFault : Form → List Statement → PlaceFault → Type 0
IsPlaceFault form statements (Misplaced number) = IsMisplacedAt form statements number
IsPlaceFault form statements (TooMany number) = IsTooManyAt form statements number
