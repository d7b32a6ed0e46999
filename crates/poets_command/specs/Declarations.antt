-- What book statements declare.
use Rattle.std.specs.Prelude.{List, [], ◌∷◌, map, None}
use Rattle.std.specs.List.{flat_map}
use Rattle.poets_value.specs.declared.value.Name.{Name}
use Rattle.poets_value.specs.declared.value.Ty.TheVariants as T
use Rattle.poets_expr.specs.Env.{Declared}
use Rattle.poets_syntax.specs.Plain.{Book}
use Rattle.poets_syntax.specs.TypeOf.{Scope, type_in}
use Rattle.poets_command.specs.Said.{Statement, Agents, Kinds, Template, Report}
use Rattle.poets_report.specs.Plain as plain

-- the names that a statement declares, in order
abbrev pub names_declared : Statement → List Name
names_declared (Agents names) = names
names_declared (Kinds names) = names
names_declared (Template t) = t.name ∷ []
names_declared (Report q) = q.name ∷ []
names_declared _ = []

-- the agents or kinds that a statement declares, with their types
abbrev pub agents_and_kinds : Statement → Scope
agents_and_kinds (Agents names) = map (λ x. (x, T.Agent)) names
agents_and_kinds (Kinds names) = map (λ x. (x, T.Kind)) names
agents_and_kinds _ = []

-- the type with which a name is declared first, as an agent or as a kind
abbrev pub declared_by : List Statement → Declared
declared_by book x = type_in (λ _. None) (flat_map agents_and_kinds book) x

abbrev pub template_in_statement : Statement → List plain.Template
template_in_statement (Template t) = t ∷ []
template_in_statement _ = []

abbrev pub report_in_statement : Statement → List plain.Report
report_in_statement (Report q) = q ∷ []
report_in_statement _ = []

-- the declared names and the templates of book statements
abbrev pub book_from : List Statement → Book
book_from book = record { declared = declared_by book; templates = flat_map template_in_statement book }

-- the reports of book statements
abbrev pub reports_of : List Statement → List plain.Report
reports_of book = flat_map report_in_statement book
