-- Typed statements, or the first fault.
use Rattle.std.specs.Prelude.{ℕ, ◌+◌, List, [], ◌∷◌, ◌++◌, map, Option, Some, None}
use Rattle.poets_value.specs.declared.value.Name.{Name}
use Rattle.poets_value.specs.declared.event.Event.{Event}
use Rattle.poets_value.specs.declared.value.Ty.{Ty}
use Rattle.poets_value.specs.declared.value.Ty.TheVariants as T
use Rattle.poets_expr.specs.Expression.{Expression}
use Rattle.poets_expr.specs.Env.{Declared}
use Rattle.poets_syntax.specs.Plain.{Book, Unknown}
use Rattle.poets_syntax.specs.TypeOf.{Verdict, Passes, Fails, ◌>>=◌, Scope, must_be, name_type}
use Rattle.poets_syntax.specs.TypeOf.{type_of}
use Rattle.poets_syntax.specs.Typed.{is_among, in_use, check_new, names_bound, types_bound}
use Rattle.poets_syntax.specs.Typed.{scope_of}
use Rattle.poets_syntax.specs.Typed.{check_type, check_arguments, check_contract}
use Rattle.poets_command.specs.Reports.{report_in}
use Rattle.poets_command.specs.Said.{Statement, Template, Report, Command, Numbered}
use Rattle.poets_command.specs.Declarations.{names_declared, book_from, reports_of}
use Rattle.poets_command.specs.Plain.{TypeFault}
use Rattle.poets_command.specs.Plain as plain

-- the names of reports
abbrev pub report_names : List plain.Report → List Name
report_names reports = map (λ q. q.name) reports

abbrev pub check_template : Book → (reports : List Name) → plain.Template → Verdict (Unit {0})
check_template book reports t = do
  _ ← check_new (in_use book reports) [] (map (λ p. p.name) t.params)
  check_contract book reports (scope_of t.params) t.body

-- the first fault of a key, which may have any type
abbrev pub check_key : Declared → Scope → Option Expression → Verdict (Unit {0})
check_key declared scope None = Passes tt
check_key declared scope (Some key) = do
  _ ← type_of declared scope key
  Passes tt

-- the first fault of a fold: of its start, the fold name and the binders, the step, and the key,
-- which does not see the fold name
abbrev pub check_fold : Book → (reports : List Name) → Scope → plain.Report → Verdict (Unit {0})
check_fold book reports scope q = do
  _ ← check_type book.declared scope q.ty q.start
  _ ← check_new (in_use book reports) [] (q.carry ∷ names_bound q.binders)
  _ ← check_type book.declared (types_bound q.binders ++ (q.carry, q.ty) ∷ scope) q.ty q.step
  check_key book.declared (types_bound q.binders ++ scope) q.key

abbrev pub check_report : Book → (reports : List Name) → plain.Report → Verdict (Unit {0})
check_report book reports q = do
  _ ← check_new (in_use book reports) [] (map (λ p. p.name) q.params)
  check_fold book reports (scope_of q.params) q

-- the fault of a name that is not declared as an agent or a kind, whichever is wanted
abbrev pub check_declared : Declared → Ty → Name → Verdict (Unit {0})
check_declared declared wanted x = do
  found ← name_type x (declared x)
  must_be wanted found

abbrev pub check_event : Declared → Event → Verdict (Unit {0})
check_event declared e = do
  _ ← check_declared declared T.Agent e.sender
  _ ← check_declared declared T.Agent e.receiver
  check_declared declared T.Kind e.what.kind

-- the first fault of a report that is given arguments: there is no such report, or they do not fit
-- its parameters
abbrev pub check_report_arguments : Declared → Name → Option plain.Report → List Expression → Verdict (Unit {0})
check_report_arguments declared x None args = Fails (Unknown x)
check_report_arguments declared x (Some q) args = check_arguments declared [] x q.params args

-- the first fault of a command; contracts' names are a space of their own, in which nothing is
-- declared
abbrev pub check_command : Book → List plain.Report → plain.Command → Verdict (Unit {0})
check_command book reports (plain.Command.Register x c) = check_contract book (report_names reports) [] c
check_command book reports (plain.Command.Transmit x e) = check_event book.declared e
check_command book reports (plain.Command.Tally x args) =
    check_report_arguments book.declared x (report_in reports x) args
check_command book reports (plain.Command.Portfolio x args over) =
    check_report_arguments book.declared x (report_in reports x) args
check_command book reports (plain.Command.Watch x args) =
    check_report_arguments book.declared x (report_in reports x) args
check_command book reports _ = Passes tt

abbrev pub check_statement : Book → List plain.Report → Statement → Verdict (Unit {0})
check_statement book reports (Template t) = check_template book (report_names reports) t
check_statement book reports (Report q) = check_report book (report_names reports) q
check_statement book reports (Command command) = check_command book reports command
check_statement book reports (Numbered clerk command) = check_command book reports command
check_statement book reports _ = Passes tt

-- the fault of the statement with the number, else that of the others
abbrev pub or_else : Verdict (Unit {0}) → (number : ℕ) → TypeFault → TypeFault
or_else (Passes _) number others = others
or_else (Fails fault) number others = Some (number, fault)

-- the first name that was declared before; the statements are numbered from this number on
abbrev pub twice_from : ℕ → (earlier : List Name) → List Statement → TypeFault
twice_from number earlier [] = None
twice_from number earlier (s ∷ statements) =
    or_else (check_new (is_among earlier) [] (names_declared s)) number
    (twice_from (number + 1) (names_declared s ++ earlier) statements)

-- the first fault of types in the statements, which are numbered from this number on
abbrev pub mistyped_from : ℕ → Book → List plain.Report → List Statement → TypeFault
mistyped_from number book reports [] = None
mistyped_from number book reports (s ∷ statements) =
    or_else (check_statement book reports s) number (mistyped_from (number + 1) book reports statements)

-- the first fault, or, if there is none, the second
abbrev pub first_of : TypeFault → TypeFault → TypeFault
first_of None later = later
first_of (Some fault) later = Some fault

-- the first fault of statements under what the book among them declares: a name that is declared
-- twice comes before all others
abbrev pub first_fault : List Statement → TypeFault
first_fault statements =
    first_of (twice_from 1 [] statements) (mistyped_from 1 (book_from statements) (reports_of statements) statements)
