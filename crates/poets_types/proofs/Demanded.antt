-- The causes that checks tell are those of the first demands that are not met.
use Rattle.std.proofs.Common.{◌≡◌, ℕ, ◌<◌, List, [], length, map, take, get_or, Option, Some, None, Result, Ok, Err, refl, ap, sym, subst, ◌∙◌}
use Rattle.std.specs.Prelude.{IfErr, IfSome, slice_get}
use Rattle.std.specs.Arc.{arc_value}
use Rattle.std.proofs.lemmas.Option.{slice_get_read}
use Rattle.std.specs.declared.alloc.Global.{Global}
use Rattle.std.specs.declared.sync.Arc.{Arc}
use Rattle.poets_expr.specs.Env.{Declared}
use Rattle.poets_syntax.specs.declared.term.Book.{Book}
use Rattle.poets_syntax.specs.declared.term.Term.{Term}
use Rattle.poets_syntax.specs.Book.{book_of}
use Rattle.poets_syntax.specs.Contract.{contract_of}
use Rattle.poets_syntax.specs.TypeOf.{Verdict, Fails}
use Rattle.poets_syntax.specs.Demands.{Demand, FirstFault, contract_demands}
use Rattle.poets_syntax.proofs.Demanded.{Judged, contract_judged, faults_judged}
use Rattle.poets_report.specs.declared.report.Report.{Report}
use Rattle.poets_report.specs.Reports.{report_of}
use Rattle.poets_command.specs.declared.call.Command.{Command}
use Rattle.poets_command.specs.Calls.{command_of}
use Rattle.poets_command.specs.Declarations.{book_from, reports_of}
use Rattle.poets_command.specs.Plain as plain
use Rattle.poets_command.specs.Said.{Statement}
use Rattle.poets_command.specs.StatementDemands.{AreTypedStatements, FirstTypeFault}
use Rattle.poets_command.specs.TypedStatements.{report_names, first_of, twice_from, mistyped_from, first_fault}
use Rattle.poets_command.proofs.Demanded.{command_judged, statements_by_demands, statement_faults}
use Rattle.poets_types.specs.declared.cause.TypeCause.{TypeCause}
use Rattle.poets_types.specs.declared.cause.TypeFault.{TypeFault}
use Rattle.poets_types.specs.Calls.{AreTypedCalls, IsFirstMistyped, IsFirstCallFault}
use Rattle.poets_types.specs.Faults.{fault_of, IsFaultOf, IsFirstFault}
use Rattle.poets_types.specs.Verdicts.{demands_on, IsFaultOfTerm, IsFaultOfCommand}
use Rattle.poets_types.specs.code.Answers.{answer_of, IsToldFirst}
use Rattle.poets_types.specs.code.Checks.{term_verdict, command_verdict}
use Rattle.poets_types.proofs.Checks.{answer_told}

-- ---- contracts and commands

by_demands : (declared : Declared) (demands : List Demand) (check : Verdict (Unit {0})) → Judged declared demands check →
    (o : Option plain.TypeCause) → IfSome o (λ f. check ≡ Fails f) → IfSome o (FirstFault declared demands)
by_demands declared demands check j None h = tt
by_demands declared demands check j (Some f) h = (faults_judged declared demands check f j).0 h

cause_by_demands : (declared : Declared) (demands : List Demand) (check : Verdict (Unit {0})) (result : Result (Unit {0}) TypeCause) → Judged declared demands check →
    result ≡ answer_of check → IfErr result (IsFaultOf declared demands)
cause_by_demands declared demands check (Ok u) j e = tt
cause_by_demands declared demands check (Err cause) j e = by_demands declared demands check j (fault_of cause) (answer_told check (Err cause) e)

pub term_fault : (book : Book) (reports : List Report) (term : Term) (result : Result (Unit {0}) TypeCause) → result ≡ answer_of (term_verdict book reports term) →
    IfErr result (IsFaultOfTerm book reports term)
term_fault book reports term result e =
    cause_by_demands (book_of book).declared (contract_demands (book_of book) (report_names (map report_of reports)) [] (contract_of term)) (term_verdict book reports term) result
    (contract_judged (book_of book) (report_names (map report_of reports)) [] (contract_of term)) e

pub command_fault : (book : Book) (reports : List Report) (command : Command) (result : Result (Unit {0}) TypeCause) → result ≡ answer_of (command_verdict book reports command) →
    IfErr result (IsFaultOfCommand book reports command)
command_fault book reports command result e =
    cause_by_demands (book_of book).declared (demands_on book reports command) (command_verdict book reports command) result
    (command_judged (book_of book) (map report_of reports) (command_of command)) e

-- the first call that is not typed
pub call_fault : (book : Book) (reports : List Report) (calls : List (ℕ × Arc Command Global)) (place : ℕ) (call : ℕ × Arc Command Global) (cause : TypeCause) →
    place < length calls → call ≡ get_or calls place call → (result : Result (Unit {0}) TypeCause) → result ≡ answer_of (command_verdict book reports (arc_value call.1)) →
    result ≡ Err cause → AreTypedCalls book reports (take place calls) → IsFirstCallFault book reports calls (record { place = place; cause = cause })
call_fault book reports calls place call cause within at result answer failed ahead =
    by (fault_of cause) (command_fault book reports (arc_value call.1) (Err cause) (sym failed ∙ answer))
  where
    here : slice_get calls place ≡ Some call
    here = slice_get_read calls (length calls) place call refl within at

    by : (o : Option plain.TypeCause) → IfSome o (FirstFault (book_of book).declared (demands_on book reports (arc_value call.1))) →
        IfSome o (IsFirstMistyped book reports calls place)
    by None h = tt
    by (Some fault) h = record { call = call; here = here; ahead = ahead; first = h }

-- ---- statements

told_by_demands : (statements : List Statement) (number : ℕ) (o : Option plain.TypeCause) → IfSome o (λ cause. first_fault statements ≡ Some (number, cause)) →
    IfSome o (FirstTypeFault statements number)
told_by_demands statements number None h = tt
told_by_demands statements number (Some cause) h = (statement_faults statements number cause).0 h

-- a fault of names is the first
pub names_fault : (statements : List Statement) (f : TypeFault) → IsToldFirst (twice_from 1 [] statements) f → IsFirstFault statements f
names_fault statements f h = told_by_demands statements f.statement (fault_of f.cause) (first (fault_of f.cause) h)
  where
    first : (o : Option plain.TypeCause) → IfSome o (λ cause. twice_from 1 [] statements ≡ Some (f.statement, cause)) →
        IfSome o (λ cause. first_fault statements ≡ Some (f.statement, cause))
    first None h = tt
    first (Some cause) h = ap (λ (t : plain.TypeFault). first_of t (mistyped_from 1 (book_from statements) (reports_of statements) statements)) h

-- and a fault of types, where there is none of names
pub types_fault : (statements : List Statement) (book : plain.Book) (reports : List plain.Report) (f : TypeFault) → twice_from 1 [] statements ≡ None →
    book ≡ book_from statements → reports ≡ reports_of statements → IsToldFirst (mistyped_from 1 book reports statements) f → IsFirstFault statements f
types_fault statements book reports f none b r h =
    let there = subst (λ (p : plain.Book). IsToldFirst (mistyped_from 1 p reports statements) f) b h in
    let here = subst (λ (qs : List plain.Report). IsToldFirst (mistyped_from 1 (book_from statements) qs statements) f) r there in
    told_by_demands statements f.statement (fault_of f.cause) (first (fault_of f.cause) here)
  where
    first : (o : Option plain.TypeCause) → IfSome o (λ cause. mistyped_from 1 (book_from statements) (reports_of statements) statements ≡ Some (f.statement, cause)) →
        IfSome o (λ cause. first_fault statements ≡ Some (f.statement, cause))
    first None h = tt
    first (Some cause) h = ap (λ (t : plain.TypeFault). first_of t (mistyped_from 1 (book_from statements) (reports_of statements) statements)) none ∙ h

pub statements_typed : (statements : List Statement) (book : plain.Book) (reports : List plain.Report) → twice_from 1 [] statements ≡ None →
    mistyped_from 1 book reports statements ≡ None → book ≡ book_from statements → reports ≡ reports_of statements → AreTypedStatements statements
statements_typed statements book reports none passed b r =
    (statements_by_demands statements).0
    (ap (λ (t : plain.TypeFault). first_of t (mistyped_from 1 (book_from statements) (reports_of statements) statements)) none ∙ (rw (b, r) at passed))
