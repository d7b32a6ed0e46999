-- What typing demands of reports, commands and statements, in the order in which faults are
-- reported.
use Rattle.std.specs.Prelude.{ℕ, ◌+◌, List, [], ◌∷◌, ◌++◌, All, map, Option, Some, None}
use Rattle.poets_value.specs.declared.value.Name.{Name}
use Rattle.poets_value.specs.declared.event.Event.{Event}
use Rattle.poets_value.specs.declared.value.Ty.TheVariants as T
use Rattle.poets_expr.specs.Expression.{Expression}
use Rattle.poets_expr.specs.Env.{Declared}
use Rattle.poets_syntax.specs.Plain.{Book, TypeCause, Unknown}
use Rattle.poets_syntax.specs.TypeOf.{Scope}
use Rattle.poets_syntax.specs.Typed.{is_among, in_use, names_bound, types_bound, scope_of}
use Rattle.poets_syntax.specs.Demands.{Demand, Never, AreMet, FirstFault}
use Rattle.poets_syntax.specs.Demands.{declared_demands, demands_of, wanted_demands, new_demands}
use Rattle.poets_syntax.specs.Demands.{argument_demands, contract_demands, template_demands}
use Rattle.poets_command.specs.Said.{Statement, Template, Report, Command, Numbered}
use Rattle.poets_command.specs.Reports.{report_in}
use Rattle.poets_command.specs.TypedStatements.{report_names}
use Rattle.poets_command.specs.Declarations.{names_declared, book_from, reports_of}
use Rattle.poets_command.specs.Plain as plain

-- a key may have any type
abbrev pub key_demands : Scope → Option Expression → List Demand
key_demands scope None = []
key_demands scope (Some key) = demands_of scope key

-- a report: its parameters; under them its start, its new names, its step, and its key, which does
-- not see the value so far
abbrev pub report_demands : Book → (reports : List Name) → plain.Report → List Demand
report_demands book reports q =
    new_demands (in_use book reports) [] (map (λ p. p.name) q.params)
    ++ (wanted_demands (scope_of q.params) q.ty q.start
    ++ (new_demands (in_use book reports) [] (q.carry ∷ names_bound q.binders)
    ++ (wanted_demands (types_bound q.binders ++ (q.carry, q.ty) ∷ scope_of q.params) q.ty q.step
    ++ key_demands (types_bound q.binders ++ scope_of q.params) q.key)))

-- an event: its sender, its receiver, its kind
abbrev pub event_demands : Event → List Demand
event_demands e =
    declared_demands T.Agent e.sender
    ++ (declared_demands T.Agent e.receiver ++ declared_demands T.Kind e.what.kind)

-- a report with arguments for its parameters
abbrev pub call_demands : Name → Option plain.Report → List Expression → List Demand
call_demands x None args = Never (Unknown x) ∷ []
call_demands x (Some q) args = argument_demands [] x q.params args

abbrev pub command_demands : Book → List plain.Report → plain.Command → List Demand
command_demands book reports (plain.Register x c) = contract_demands book (report_names reports) [] c
command_demands book reports (plain.Transmit x e) = event_demands e
command_demands book reports (plain.Tally x args) = call_demands x (report_in reports x) args
command_demands book reports (plain.Portfolio x args over) = call_demands x (report_in reports x) args
command_demands book reports (plain.Watch x args) = call_demands x (report_in reports x) args
command_demands book reports _ = []

abbrev pub statement_demands : Book → List plain.Report → Statement → List Demand
statement_demands book reports (Template t) = template_demands book (report_names reports) t
statement_demands book reports (Report q) = report_demands book (report_names reports) q
statement_demands book reports (Command command) = command_demands book reports command
statement_demands book reports (Numbered clerk command) = command_demands book reports command
statement_demands book reports _ = []

-- each statement declares names that none before it declares
abbrev pub declaring_demands : (earlier : List Name) → List Statement → List (List Demand)
declaring_demands earlier [] = []
declaring_demands earlier (s ∷ statements) =
    new_demands (is_among earlier) [] (names_declared s) ∷ declaring_demands (names_declared s ++ earlier) statements

-- each statement is typed in the book that they make
abbrev pub typing_demands : List Statement → List (List Demand)
typing_demands statements = map (statement_demands (book_from statements) (reports_of statements)) statements

-- the statements, which are numbered from this number on, make these demands: the first fault is
-- that of the statement with the number found
pub data FirstFaultFrom (declared : Declared) :
    (number : ℕ) → List (List Demand) → (found : ℕ) → TypeCause → Type 0 where
  Here :
      {number : ℕ} {demands : List Demand} {others : List (List Demand)} {cause : TypeCause} →
      FirstFault declared demands cause → FirstFaultFrom declared number (demands ∷ others) number cause
  Later :
      {number found : ℕ} {demands : List Demand} {others : List (List Demand)} {cause : TypeCause} →
      AreMet declared demands → FirstFaultFrom declared (number + 1) others found cause →
      FirstFaultFrom declared number (demands ∷ others) found cause

abbrev pub AreAllMet : Declared → List (List Demand) → Type 0
AreAllMet declared lists = All (AreMet declared) lists

-- the statements are typed: each declares new names, and each is typed in the book that they make
pub record AreTypedStatements (statements : List Statement) : Type 0 where
  pub new : AreAllMet (book_from statements).declared (declaring_demands [] statements)
  pub typed : AreAllMet (book_from statements).declared (typing_demands statements)

-- the first fault of types among statements, numbered from 1: names that are declared twice come
-- before all others
pub data FirstTypeFault (statements : List Statement) (number : ℕ) (cause : TypeCause) : Type 0 where
  OfNames :
      FirstFaultFrom (book_from statements).declared 1 (declaring_demands [] statements) number cause →
      FirstTypeFault statements number cause
  OfTypes :
      AreAllMet (book_from statements).declared (declaring_demands [] statements) →
      FirstFaultFrom (book_from statements).declared 1 (typing_demands statements) number cause →
      FirstTypeFault statements number cause
