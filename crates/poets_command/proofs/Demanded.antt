-- The checks of statements report what the demands of typing report.
use Rattle.std.proofs.Common.{◌≡◌, ℕ, ◌+◌, List, [], ◌∷◌, ◌++◌, map, All, Option, Some, None, refl, ap, sym, ◌∙◌, subst}
use Rattle.std.specs.Prelude.{◌↔◌}
use Rattle.std.proofs.lemmas.List.Elements.{All-nil, All-cons, All-head, All-tail}
use Rattle.poets_value.specs.declared.value.Name.{Name}
use Rattle.poets_value.specs.declared.event.Event.{Event}
use Rattle.poets_value.specs.declared.value.Ty.{Ty}
use Rattle.poets_value.specs.declared.value.Ty.TheVariants as T
use Rattle.poets_expr.specs.Expression.{Expression, Named}
use Rattle.poets_expr.specs.Env.{Declared}
use Rattle.poets_syntax.specs.Plain.{Book, TypeCause}
use Rattle.poets_syntax.specs.TypeOf.{Verdict, Passes, Fails, ◌>>=◌, Scope, must_be, name_type, type_of}
use Rattle.poets_syntax.specs.Typed.{is_among, in_use, check_new, names_bound, types_bound, scope_of, check_type, check_contract}
use Rattle.poets_syntax.specs.Typing as R
use Rattle.poets_syntax.specs.Demands.{Demand, Known, OfType, AreMet, FirstFault, declared_demands, demands_of, wanted_demands, new_demands, contract_demands, template_demands}
use Rattle.poets_syntax.specs.Demands as D
use Rattle.poets_syntax.proofs.Demanded.{Judged, none_judged, then_judged, end_judged, must_judged, name_judged, type_judged, wanted_judged, new_judged, arguments_judged, contract_judged, faults_judged, met_passes, passes_met, no_fault, one_fault}
use Rattle.poets_report.specs.Plain.{Report}
use Rattle.poets_command.specs.Plain.{Command, TypeFault}
use Rattle.poets_command.specs.Plain as plain
use Rattle.poets_command.specs.Reports.{report_in}
use Rattle.poets_command.specs.Said.{Statement}
use Rattle.poets_command.specs.Said as said
use Rattle.poets_command.specs.Declarations.{names_declared, book_from, reports_of}
use Rattle.poets_command.specs.TypedStatements.{report_names, check_template, check_key, check_fold, check_report, check_declared, check_event, check_report_arguments, check_command, check_statement, or_else, twice_from, mistyped_from, first_of, first_fault}
use Rattle.poets_command.specs.StatementDemands.{key_demands, report_demands, event_demands, call_demands, command_demands, statement_demands, declaring_demands, typing_demands, FirstFaultFrom, Here, Later, AreAllMet, AreTypedStatements, FirstTypeFault, OfNames, OfTypes}
use Rattle.poets_command.specs.DemandLaws.{CommandsByDemands, CommandFaultsByDemands, StatementsByDemands, StatementFaultsByDemands}
use Rattle.poets_command.proofs.TypingRules.{command_typed, command_passes}

-- ---- single statements

pub template_judged : (book : Book) (reports : List Name) (t : plain.Template) → Judged book.declared (template_demands book reports t) (check_template book reports t)
template_judged book reports t =
    let names = map (λ p. p.name) t.params in
    then_judged book.declared (new_demands (in_use book reports) [] names) (contract_demands book reports (scope_of t.params) t.body) (check_new (in_use book reports) [] names)
    (λ _. check_contract book reports (scope_of t.params) t.body) (new_judged book.declared (in_use book reports) [] names)
    (λ _ _. contract_judged book reports (scope_of t.params) t.body)

key_judged : (declared : Declared) (scope : Scope) (key : Option Expression) → Judged declared (key_demands scope key) (check_key declared scope key)
key_judged declared scope None = none_judged declared
key_judged declared scope (Some key) = end_judged declared (demands_of scope key) (type_of declared scope key) tt (type_judged declared scope key)

pub report_judged : (book : Book) (reports : List Name) (q : Report) → Judged book.declared (report_demands book reports q) (check_report book reports q)
report_judged book reports q =
    let declared = book.declared in
    let used = in_use book reports in
    let params = map (λ p. p.name) q.params in
    let outer = scope_of q.params in
    let inner = types_bound q.binders ++ (q.carry, q.ty) ∷ outer in
    let bound = types_bound q.binders ++ outer in
    let names = q.carry ∷ names_bound q.binders in
    let started = wanted_demands outer q.ty q.start in
    let fresh = new_demands used [] names in
    let stepped = wanted_demands inner q.ty q.step in
    let keyed = key_demands bound q.key in
    let key = check_key declared bound q.key in
    then_judged declared (new_demands used [] params) (started ++ (fresh ++ (stepped ++ keyed))) (check_new used [] params) (λ _. check_fold book reports outer q) (new_judged declared used [] params)
    (λ _ _. then_judged declared started (fresh ++ (stepped ++ keyed)) (check_type declared outer q.ty q.start)
    (λ _. check_new used [] names >>= λ _. check_type declared inner q.ty q.step >>= λ _. key) (wanted_judged declared outer q.ty q.start)
    (λ _ _. then_judged declared fresh (stepped ++ keyed) (check_new used [] names) (λ _. check_type declared inner q.ty q.step >>= λ _. key) (new_judged declared used [] names)
    (λ _ _. then_judged declared stepped keyed (check_type declared inner q.ty q.step) (λ _. key) (wanted_judged declared inner q.ty q.step)
    (λ _ _. key_judged declared bound q.key))))

declared_judged : (declared : Declared) (wanted : Ty) (x : Name) → Judged declared (declared_demands wanted x) (check_declared declared wanted x)
declared_judged declared wanted x =
    then_judged declared (Known [] x ∷ []) (OfType [] wanted (Named x) ∷ []) (name_type x (declared x)) (must_be wanted) (name_judged declared [] x (declared x) refl)
    (λ t e. must_judged declared [] wanted (Named x) t (R.AName (found (declared x) t e)))
  where
    found : (o : Option Ty) (t : Ty) → name_type x o ≡ Passes t → o ≡ Some t
    found None t e = absurd cc
    found (Some s) t e = cc

event_judged : (declared : Declared) (e : Event) → Judged declared (event_demands e) (check_event declared e)
event_judged declared e =
    let sender = declared_demands T.Agent e.sender in
    let receiver = declared_demands T.Agent e.receiver in
    let kind = declared_demands T.Kind e.what.kind in
    let check_kind = check_declared declared T.Kind e.what.kind in
    then_judged declared sender (receiver ++ kind) (check_declared declared T.Agent e.sender) (λ _. check_declared declared T.Agent e.receiver >>= λ _. check_kind)
    (declared_judged declared T.Agent e.sender)
    (λ _ _. then_judged declared receiver kind (check_declared declared T.Agent e.receiver) (λ _. check_kind) (declared_judged declared T.Agent e.receiver)
    (λ _ _. declared_judged declared T.Kind e.what.kind))

call_judged : (declared : Declared) (x : Name) (o : Option Report) (args : List Expression) → Judged declared (call_demands x o args) (check_report_arguments declared x o args)
call_judged declared x None args = D.Here (λ m. m) refl
call_judged declared x (Some q) args = arguments_judged declared [] x q.params args

pub command_judged : (book : Book) (reports : List Report) (command : Command) → Judged book.declared (command_demands book reports command) (check_command book reports command)
command_judged book reports (plain.Register x c) = contract_judged book (report_names reports) [] c
command_judged book reports (plain.Transmit x e) = event_judged book.declared e
command_judged book reports (plain.Void x k) = none_judged book.declared
command_judged book reports (plain.End x) = none_judged book.declared
command_judged book reports (plain.Show x) = none_judged book.declared
command_judged book reports (plain.Tally x args) = call_judged book.declared x (report_in reports x) args
command_judged book reports (plain.Portfolio x args over) = call_judged book.declared x (report_in reports x) args
command_judged book reports (plain.Watch x args) = call_judged book.declared x (report_in reports x) args
command_judged book reports (plain.Read n) = none_judged book.declared

pub statement_judged : (book : Book) (reports : List Report) (s : Statement) → Judged book.declared (statement_demands book reports s) (check_statement book reports s)
statement_judged book reports (said.Agents names) = none_judged book.declared
statement_judged book reports (said.Kinds names) = none_judged book.declared
statement_judged book reports (said.Template t) = template_judged book (report_names reports) t
statement_judged book reports (said.Report q) = report_judged book (report_names reports) q
statement_judged book reports said.Clerk = none_judged book.declared
statement_judged book reports said.Journal = none_judged book.declared
statement_judged book reports (said.Command command) = command_judged book reports command
statement_judged book reports (said.Numbered clerk command) = command_judged book reports command

-- ---- statement by statement

-- where there is no fault all demands are met, and else the fault is the first
abbrev AreJudged : Declared → (number : ℕ) → List (List Demand) → TypeFault → Type 0
AreJudged declared number lists None = AreAllMet declared lists
AreJudged declared number lists (Some fault) = FirstFaultFrom declared number lists fault.0 fault.1

one_judged : (declared : Declared) (number : ℕ) (demands : List Demand) (lists : List (List Demand)) (v : Verdict (Unit {0})) (others : TypeFault) →
    Judged declared demands v → AreJudged declared (number + 1) lists others → AreJudged declared number (demands ∷ lists) (or_else v number others)
one_judged declared number demands lists (Fails cause) others j k = Here j
one_judged declared number demands lists (Passes u) None j k = All-cons (AreMet declared) demands lists j k
one_judged declared number demands lists (Passes u) (Some fault) j k = Later j k

names_judged : (declared : Declared) (number : ℕ) (earlier : List Name) (statements : List Statement) →
    AreJudged declared number (declaring_demands earlier statements) (twice_from number earlier statements)
names_judged declared number earlier [] = All-nil (AreMet declared)
names_judged declared number earlier (s ∷ statements) =
    one_judged declared number (new_demands (is_among earlier) [] (names_declared s)) (declaring_demands (names_declared s ++ earlier) statements)
    (check_new (is_among earlier) [] (names_declared s)) (twice_from (number + 1) (names_declared s ++ earlier) statements)
    (new_judged declared (is_among earlier) [] (names_declared s)) (names_judged declared (number + 1) (names_declared s ++ earlier) statements)

types_judged : (number : ℕ) (book : Book) (reports : List Report) (statements : List Statement) →
    AreJudged book.declared number (map (statement_demands book reports) statements) (mistyped_from number book reports statements)
types_judged number book reports [] = All-nil (AreMet book.declared)
types_judged number book reports (s ∷ statements) =
    one_judged book.declared number (statement_demands book reports s) (map (statement_demands book reports) statements)
    (check_statement book reports s) (mistyped_from (number + 1) book reports statements)
    (statement_judged book reports s) (types_judged (number + 1) book reports statements)

-- ---- one fault at most

no_later : (declared : Declared) (number : ℕ) (lists : List (List Demand)) (found : ℕ) (cause : TypeCause) → AreAllMet declared lists → FirstFaultFrom declared number lists found cause → ⊥
no_later declared number [] found cause m f = elim f [ ]
no_later declared number (demands ∷ lists) found cause m (Here f) = no_fault declared demands cause (All-head (AreMet declared) demands lists m) f
no_later declared number (demands ∷ lists) found cause m (Later k f) = no_later declared (number + 1) lists found cause (All-tail (AreMet declared) demands lists m) f

one_first : (declared : Declared) (number : ℕ) (lists : List (List Demand)) (found other : ℕ) (cause reason : TypeCause) →
    FirstFaultFrom declared number lists found cause → FirstFaultFrom declared number lists other reason → (found ≡ other) × (cause ≡ reason)
one_first declared number [] found other cause reason f g = elim f [ ]
one_first declared number (demands ∷ lists) found other cause reason (Here f) (Here g) = (refl, one_fault declared demands cause reason f g)
one_first declared number (demands ∷ lists) found other cause reason (Here f) (Later m g) = absurd (no_fault declared demands cause m f)
one_first declared number (demands ∷ lists) found other cause reason (Later m f) (Here g) = absurd (no_fault declared demands reason m g)
one_first declared number (demands ∷ lists) found other cause reason (Later m f) (Later k g) = one_first declared (number + 1) lists found other cause reason f g

-- ---- the laws

pub commands_by_demands : CommandsByDemands
commands_by_demands book reports command = (
  λ h. passes_met book.declared (command_demands book reports command) (check_command book reports command) tt (command_judged book reports command) (command_passes book reports command h),
  λ m. command_typed book reports command
      (passed (met_passes book.declared (command_demands book reports command) (check_command book reports command) (command_judged book reports command) m)),
)
  where
    passed : (a : Unit {0}) × (check_command book reports command ≡ Passes a) → check_command book reports command ≡ Passes tt
    passed (tt, e) = e

pub command_faults : CommandFaultsByDemands
command_faults book reports command cause =
    faults_judged book.declared (command_demands book reports command) (check_command book reports command) cause (command_judged book reports command)

-- names first, then types
abbrev AreReported : List Statement → TypeFault → Type 0
AreReported statements None = AreTypedStatements statements
AreReported statements (Some fault) = FirstTypeFault statements fault.0 fault.1

pub reported : (statements : List Statement) → AreReported statements (first_fault statements)
reported statements =
    by (twice_from 1 [] statements) (mistyped_from 1 book (reports_of statements) statements) (names_judged book.declared 1 [] statements) (types_judged 1 book (reports_of statements) statements)
  where
    book : Book
    book = book_from statements

    by : (names types : TypeFault) → AreJudged (book_from statements).declared 1 (declaring_demands [] statements) names →
        AreJudged (book_from statements).declared 1 (typing_demands statements) types → AreReported statements (first_of names types)
    by (Some fault) types j k = OfNames j
    by None (Some fault) j k = OfTypes j k
    by None None j k = record { new = j; typed = k }

pub no_type_fault : (statements : List Statement) (number : ℕ) (cause : TypeCause) → AreTypedStatements statements → FirstTypeFault statements number cause → ⊥
no_type_fault statements number cause t (OfNames f) = no_later (book_from statements).declared 1 (declaring_demands [] statements) number cause t.new f
no_type_fault statements number cause t (OfTypes m f) = no_later (book_from statements).declared 1 (typing_demands statements) number cause t.typed f

pub one_type_fault : (statements : List Statement) (number other : ℕ) (cause reason : TypeCause) →
    FirstTypeFault statements number cause → FirstTypeFault statements other reason → (number ≡ other) × (cause ≡ reason)
one_type_fault statements number other cause reason (OfNames f) (OfNames g) =
    one_first (book_from statements).declared 1 (declaring_demands [] statements) number other cause reason f g
one_type_fault statements number other cause reason (OfNames f) (OfTypes m g) =
    absurd (no_later (book_from statements).declared 1 (declaring_demands [] statements) number cause m f)
one_type_fault statements number other cause reason (OfTypes m f) (OfNames g) =
    absurd (no_later (book_from statements).declared 1 (declaring_demands [] statements) other reason m g)
one_type_fault statements number other cause reason (OfTypes m f) (OfTypes k g) =
    one_first (book_from statements).declared 1 (typing_demands statements) number other cause reason f g

pub statements_by_demands : StatementsByDemands
statements_by_demands statements = (
  λ e. typed (first_fault statements) e (reported statements),
  λ t. none (first_fault statements) (reported statements) t,
)
  where
    typed : (first : TypeFault) → first ≡ None → AreReported statements first → AreTypedStatements statements
    typed None e r = r
    typed (Some fault) e r = absurd cc

    none : (first : TypeFault) → AreReported statements first → AreTypedStatements statements → first ≡ None
    none None r t = refl
    none (Some fault) r t = absurd (no_type_fault statements fault.0 fault.1 t r)

pub statement_faults : StatementFaultsByDemands
statement_faults statements number cause = (
  λ e. first (first_fault statements) e (reported statements),
  λ f. told (first_fault statements) (reported statements) f,
)
  where
    first : (found : TypeFault) → found ≡ Some (number, cause) → AreReported statements found → FirstTypeFault statements number cause
    first found e r = subst (AreReported statements) e r

    told : (found : TypeFault) → AreReported statements found → FirstTypeFault statements number cause → found ≡ Some (number, cause)
    told None r f = absurd (no_type_fault statements number cause r f)
    told (Some (other, reason)) r f =
        let same = one_type_fault statements other number reason cause r f in
        ap (λ (n : ℕ). Some (n, reason)) same.0 ∙ ap (λ (c : TypeCause). Some (number, c)) same.1
