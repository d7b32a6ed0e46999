-- The names that faults of types tell stand in the statements.
use Rattle.std.proofs.Common.{ℕ, nat_eq, Bool, true, false, List, [], ◌∷◌, ◌++◌, length, map, Option, Some, None, All}
use Rattle.std.specs.Prelude.{◌||◌, ◌+◌, IfSome, if◌then◌else◌}
use Rattle.std.proofs.lemmas.List.Elements.{All-nil, All-cons, All-head, All-tail, All-map}
use Rattle.poets_value.specs.declared.event.Event.{Event}
use Rattle.poets_value.specs.declared.value.Name.{Name}
use Rattle.poets_value.specs.declared.value.Ty.{Ty}
use Rattle.poets_value.specs.declared.value.Ty.TheVariants as T
use Rattle.poets_value.specs.declared.value.Value.{Value}
use Rattle.poets_value.specs.declared.value.Value.TheVariants as V
use Rattle.poets_lex.specs.Table.{Table}
use Rattle.poets_expr.specs.declared.expr.Op.{Op}
use Rattle.poets_expr.specs.declared.expr.Op.TheVariants as O
use Rattle.poets_expr.specs.Env.{Declared}
use Rattle.poets_expr.specs.Expression.{UnaryOp, Minus, Not, AmountOf, KindOf, Expression, Literal, Undefined, Named, Unary, Make, Binary, If}
use Rattle.poets_syntax.specs.declared.term.Param.{Param}
use Rattle.poets_syntax.specs.Plain.{Book, Twice, WrongCount, WrongType}
use Rattle.poets_syntax.specs.Book.{template_in}
use Rattle.poets_syntax.specs.Contract.{Contract, Success, Failure, Transmit, Plus, Par, Seq, App}
use Rattle.poets_syntax.specs.TypeOf.{Verdict, Passes, Fails, ◌>>=◌, Scope, type_in, same_type, must_be, must_be_number_or_day, unary_type, sum_type, difference_type, equal_type, order_type, binary_type, make_type, if_type, name_type, resource_type, literal_type, type_of}
use Rattle.poets_syntax.specs.Typed.{is_among, in_use, check_new, names_bound, types_bound, scope_of, check_type, check_args, check_arguments, check_application, check_contract}
use Rattle.poets_command.specs.Reports.{report_in}
use Rattle.poets_command.specs.Said.{Statement, Agents, Kinds, Template, Report, Clerk, Journal, Command, Numbered}
use Rattle.poets_command.specs.Declarations.{names_declared, book_from, reports_of}
use Rattle.poets_command.specs.Plain.{TypeFault}
use Rattle.poets_command.specs.TypedStatements.{report_names, check_template, check_key, check_fold, check_report, check_declared, check_event, check_report_arguments, check_command, check_statement, or_else, twice_from, mistyped_from, first_of, first_fault}
use Rattle.poets_command.specs.Plain as plain
use Rattle.poets_print.specs.Laws.{IsListed, CanWrite, CanWriteContract, CanWriteCommand}
use Rattle.poets_session.specs.Written.{AreListedParameters, IsWrittenExpression, IsWrittenTemplate, IsWrittenReport, IsWritten, IsListedFault}

-- where the check fails, the name of its fault stands in the table
abbrev Tells : {A : Type 0} → Table → Verdict A → Type 0
Tells names (Passes a) = Unit {0}
Tells names (Fails fault) = IsListedFault names fault

after : {A B : Type 0} (names : Table) (check : Verdict A) (next : A → Verdict B) → Tells names check → ((a : A) → Tells names (next a)) → Tells names (check >>= next)
after names (Passes a) next h k = k a
after names (Fails fault) next h k = h

either : {A : Type 0} (names : Table) (b : Bool) (check other : Verdict A) → Tells names check → Tells names other → Tells names (if b then check else other)
either names true check other h k = h
either names false check other h k = k

-- ---- types of nodes tell no names

must : (names : Table) (wanted found : Ty) → Tells names (must_be wanted found)
must names wanted found = either names (same_type wanted found) (Passes tt) (Fails (WrongType wanted found)) tt tt

number_or_day : (names : Table) (t : Ty) → Tells names (must_be_number_or_day t)
number_or_day names T.Int = tt
number_or_day names T.Bool = tt
number_or_day names T.Agent = tt
number_or_day names T.Kind = tt
number_or_day names T.Resource = tt
number_or_day names T.Day = tt

one : (names : Table) (wanted x node : Ty) → Tells names (must_be wanted x >>= λ _. Passes node)
one names wanted x node = after names (must_be wanted x) (λ _. Passes node) (must names wanted x) (λ _. tt)

two : (names : Table) (wanted other x y node : Ty) → Tells names (must_be wanted x >>= λ _. must_be other y >>= λ _. Passes node)
two names wanted other x y node = after names (must_be wanted x) (λ _. must_be other y >>= λ _. Passes node) (must names wanted x) (λ _. one names other y node)

unary : (names : Table) (o : UnaryOp) (x : Ty) → Tells names (unary_type o x)
unary names Minus x = one names T.Int x T.Int
unary names Not x = one names T.Bool x T.Bool
unary names AmountOf x = one names T.Resource x T.Int
unary names KindOf x = one names T.Resource x T.Kind

sum : (names : Table) (x y : Ty) → Tells names (sum_type x y)
sum names x y = after names (must_be_number_or_day x) (λ _. must_be T.Int y >>= λ _. Passes x) (number_or_day names x) (λ _. one names T.Int y x)

difference : (names : Table) (x y : Ty) → Tells names (difference_type x y)
difference names T.Day T.Day = tt
difference names x y = sum names x y

order : (names : Table) (x y : Ty) → Tells names (order_type x y)
order names x y = after names (must_be_number_or_day x) (λ _. equal_type x y) (number_or_day names x) (λ _. one names x y T.Bool)

binary : (names : Table) (o : Op) (x y : Ty) → Tells names (binary_type o x y)
binary names O.Add x y = sum names x y
binary names O.Sub x y = difference names x y
binary names O.Mul x y = two names T.Int T.Int x y T.Int
binary names O.Div x y = two names T.Int T.Int x y T.Int
binary names O.Rem x y = two names T.Int T.Int x y T.Int
binary names O.Eq x y = one names x y T.Bool
binary names O.Ne x y = one names x y T.Bool
binary names O.Lt x y = order names x y
binary names O.Le x y = order names x y
binary names O.Gt x y = order names x y
binary names O.Ge x y = order names x y
binary names O.And x y = two names T.Bool T.Bool x y T.Bool
binary names O.Or x y = two names T.Bool T.Bool x y T.Bool

choice : (names : Table) (x y z : Ty) → Tells names (if_type x y z)
choice names x y z = two names T.Bool y x z y

-- ---- expressions

named : (names : Table) (x : Name) (o : Option Ty) → IsListed names x → Tells names (name_type x o)
named names x None h = h
named names x (Some t) h = tt

resource : (names : Table) (x : Name) (o : Option Ty) → IsListed names x → Tells names (resource_type x o)
resource names x None h = h
resource names x (Some t) h = one names T.Kind t T.Resource

literal : (names : Table) (declared : Declared) (v : Value) → CanWrite names (Literal v) → Tells names (literal_type declared v)
literal names declared (V.Int n) h = tt
literal names declared (V.Bool b) h = tt
literal names declared (V.Agent x) h = absurd h
literal names declared (V.Kind x) h = absurd h
literal names declared (V.Resource r) h = resource names r.kind (declared r.kind) h
literal names declared (V.Day d) h = tt

typed : (names : Table) (declared : Declared) (scope : Scope) (e : Expression) → CanWrite names e → Tells names (type_of declared scope e)
typed names declared scope (Literal v) h = literal names declared v h
typed names declared scope (Undefined t) h = tt
typed names declared scope (Named x) h = named names x (type_in declared scope x) h
typed names declared scope (Unary o a) h = after names (type_of declared scope a) (unary_type o) (typed names declared scope a h) (unary names o)
typed names declared scope (Make a b) h =
    after names (type_of declared scope a) (λ x. type_of declared scope b >>= λ y. make_type x y) (typed names declared scope a h.0)
    (λ x. after names (type_of declared scope b) (make_type x) (typed names declared scope b h.1) (λ y. two names T.Int T.Kind x y T.Resource))
typed names declared scope (Binary o a b) h =
    after names (type_of declared scope a) (λ x. type_of declared scope b >>= λ y. binary_type o x y) (typed names declared scope a h.0)
    (λ x. after names (type_of declared scope b) (binary_type o x) (typed names declared scope b h.1) (binary names o x))
typed names declared scope (If a b c) h =
    after names (type_of declared scope a) (λ x. type_of declared scope b >>= λ y. type_of declared scope c >>= λ z. if_type x y z) (typed names declared scope a h.0)
    (λ x. after names (type_of declared scope b) (λ y. type_of declared scope c >>= λ z. if_type x y z) (typed names declared scope b h.1)
    (λ y. after names (type_of declared scope c) (if_type x y) (typed names declared scope c h.2) (choice names x y)))

of_type : (names : Table) (declared : Declared) (scope : Scope) (wanted : Ty) (e : Expression) → CanWrite names e → Tells names (check_type declared scope wanted e)
of_type names declared scope wanted e h = after names (type_of declared scope e) (must_be wanted) (typed names declared scope e h) (must names wanted)

arguments_each : (names : Table) (declared : Declared) (scope : Scope) (params : List Param) (args : List Expression) → All (CanWrite names) args →
    Tells names (check_args declared scope params args)
arguments_each names declared scope [] args h = tt
arguments_each names declared scope (p ∷ params) [] h = tt
arguments_each names declared scope (p ∷ params) (a ∷ args) h =
    after names (check_type declared scope p.ty a) (λ _. check_args declared scope params args)
    (of_type names declared scope p.ty a (All-head (CanWrite names) a args h))
    (λ _. arguments_each names declared scope params args (All-tail (CanWrite names) a args h))

arguments : (names : Table) (declared : Declared) (scope : Scope) (x : Name) (params : List Param) (args : List Expression) → IsListed names x → All (CanWrite names) args →
    Tells names (check_arguments declared scope x params args)
arguments names declared scope x params args h k =
    either names (nat_eq (length params) (length args)) (check_args declared scope params args) (Fails (WrongCount x (length params) (length args)))
    (arguments_each names declared scope params args k) h

-- ---- contracts

new : (names : Table) (used : Name → Bool) (earlier xs : List Name) → All (IsListed names) xs → Tells names (check_new used earlier xs)
new names used earlier [] h = tt
new names used earlier (x ∷ xs) h =
    either names (used x || is_among earlier x) (Fails (Twice x)) (check_new used (x ∷ earlier) xs)
    (All-head (IsListed names) x xs h) (new names used (x ∷ earlier) xs (All-tail (IsListed names) x xs h))

application : (names : Table) (declared : Declared) (scope : Scope) (f : Name) (o : Option plain.Template) (args : List Expression) → IsListed names f → All (CanWrite names) args →
    Tells names (check_application declared scope f o args)
application names declared scope f None args h k = h
application names declared scope f (Some t) args h k = arguments names declared scope f t.params args h k

contract : (names : Table) (book : Book) (reports : List Name) (scope : Scope) (c : Contract) → CanWriteContract names c → Tells names (check_contract book reports scope c)
contract names book reports scope Success h = tt
contract names book reports scope Failure h = tt
contract names book reports scope (Transmit b p c) h =
    let below = types_bound b ++ scope in
    after names (check_new (in_use book reports) [] (names_bound b)) (λ _. check_type book.declared below T.Bool p >>= λ _. check_contract book reports below c)
    (new names (in_use book reports) [] (names_bound b) h.0)
    (λ _. after names (check_type book.declared below T.Bool p) (λ _. check_contract book reports below c) (of_type names book.declared below T.Bool p h.1)
    (λ _. contract names book reports below c h.2))
contract names book reports scope (Plus a b) h =
    after names (check_contract book reports scope a) (λ _. check_contract book reports scope b) (contract names book reports scope a h.0) (λ _. contract names book reports scope b h.1)
contract names book reports scope (Par a b) h =
    after names (check_contract book reports scope a) (λ _. check_contract book reports scope b) (contract names book reports scope a h.0) (λ _. contract names book reports scope b h.1)
contract names book reports scope (Seq a b) h =
    after names (check_contract book reports scope a) (λ _. check_contract book reports scope b) (contract names book reports scope a h.0) (λ _. contract names book reports scope b h.1)
contract names book reports scope (App f args) h = application names book.declared scope f (template_in book.templates f) args h.0 h.1

-- ---- statements

parameters : (names : Table) (params : List Param) → AreListedParameters names params → All (IsListed names) (map (λ p. p.name) params)
parameters names params h = All-map (IsListed names) (λ (p : Param). p.name) params h

template : (names : Table) (book : Book) (reports : List Name) (t : plain.Template) → IsWrittenTemplate names t → Tells names (check_template book reports t)
template names book reports t h =
    after names (check_new (in_use book reports) [] (map (λ p. p.name) t.params)) (λ _. check_contract book reports (scope_of t.params) t.body)
    (new names (in_use book reports) [] (map (λ p. p.name) t.params) (parameters names t.params h.params))
    (λ _. contract names book reports (scope_of t.params) t.body h.body.0)

key_of : (names : Table) (declared : Declared) (scope : Scope) (key : Option Expression) → IfSome key (IsWrittenExpression names) → Tells names (check_key declared scope key)
key_of names declared scope None h = tt
key_of names declared scope (Some e) h = after names (type_of declared scope e) (λ _. Passes tt) (typed names declared scope e h.0) (λ _. tt)

fold : (names : Table) (book : Book) (reports : List Name) (scope : Scope) (q : plain.Report) → IsWrittenReport names q → Tells names (check_fold book reports scope q)
fold names book reports scope q h =
    let inner = types_bound q.binders ++ (q.carry, q.ty) ∷ scope in
    let keyed = check_key book.declared (types_bound q.binders ++ scope) q.key in
    let bound = q.carry ∷ names_bound q.binders in
    after names (check_type book.declared scope q.ty q.start) (λ _. check_new (in_use book reports) [] bound >>= λ _. check_type book.declared inner q.ty q.step >>= λ _. keyed)
    (of_type names book.declared scope q.ty q.start h.start.0)
    (λ _. after names (check_new (in_use book reports) [] bound) (λ _. check_type book.declared inner q.ty q.step >>= λ _. keyed)
    (new names (in_use book reports) [] bound (All-cons (IsListed names) q.carry (names_bound q.binders) h.carry h.binders))
    (λ _. after names (check_type book.declared inner q.ty q.step) (λ _. keyed) (of_type names book.declared inner q.ty q.step h.step.0)
    (λ _. key_of names book.declared (types_bound q.binders ++ scope) q.key h.key)))

report : (names : Table) (book : Book) (reports : List Name) (q : plain.Report) → IsWrittenReport names q → Tells names (check_report book reports q)
report names book reports q h =
    after names (check_new (in_use book reports) [] (map (λ p. p.name) q.params)) (λ _. check_fold book reports (scope_of q.params) q)
    (new names (in_use book reports) [] (map (λ p. p.name) q.params) (parameters names q.params h.params))
    (λ _. fold names book reports (scope_of q.params) q h)

declaration : (names : Table) (declared : Declared) (wanted : Ty) (x : Name) → IsListed names x → Tells names (check_declared declared wanted x)
declaration names declared wanted x h = after names (name_type x (declared x)) (must_be wanted) (named names x (declared x) h) (must names wanted)

event : (names : Table) (declared : Declared) (e : Event) → IsListed names e.sender → IsListed names e.receiver → IsListed names e.what.kind → Tells names (check_event declared e)
event names declared e sender receiver kind =
    let third = check_declared declared T.Kind e.what.kind in
    after names (check_declared declared T.Agent e.sender) (λ _. check_declared declared T.Agent e.receiver >>= λ _. third) (declaration names declared T.Agent e.sender sender)
    (λ _. after names (check_declared declared T.Agent e.receiver) (λ _. third) (declaration names declared T.Agent e.receiver receiver)
    (λ _. declaration names declared T.Kind e.what.kind kind))

question : (names : Table) (declared : Declared) (x : Name) (o : Option plain.Report) (args : List Expression) → IsListed names x → All (CanWrite names) args →
    Tells names (check_report_arguments declared x o args)
question names declared x None args h k = h
question names declared x (Some q) args h k = arguments names declared [] x q.params args h k

command : (names : Table) (book : Book) (reports : List plain.Report) (r : plain.Command) → CanWriteCommand names r → Tells names (check_command book reports r)
command names book reports (plain.Command.Register x c) h = contract names book (report_names reports) [] c h.1
command names book reports (plain.Command.Transmit x e) h = event names book.declared e h.1 h.2 h.4
command names book reports (plain.Command.Void x k) h = tt
command names book reports (plain.Command.End x) h = tt
command names book reports (plain.Command.Show x) h = tt
command names book reports (plain.Command.Tally x args) h = question names book.declared x (report_in reports x) args h.0 h.1
command names book reports (plain.Command.Portfolio x args over) h = question names book.declared x (report_in reports x) args h.0 h.1
command names book reports (plain.Command.Watch x args) h = question names book.declared x (report_in reports x) args h.0 h.1
command names book reports (plain.Command.Read n) h = tt

statement : (names : Table) (book : Book) (reports : List plain.Report) (s : Statement) → IsWritten names s → Tells names (check_statement book reports s)
statement names book reports (Agents xs) h = tt
statement names book reports (Kinds xs) h = tt
statement names book reports (Template t) h = template names book (report_names reports) t h
statement names book reports (Report q) h = report names book (report_names reports) q h
statement names book reports Clerk h = tt
statement names book reports Journal h = tt
statement names book reports (Command r) h = command names book reports r h.0
statement names book reports (Numbered clerk r) h = command names book reports r h.0

declares : (names : Table) (s : Statement) → IsWritten names s → All (IsListed names) (names_declared s)
declares names (Agents xs) h = h
declares names (Kinds xs) h = h
declares names (Template t) h = All-cons (IsListed names) t.name [] h.name (All-nil (IsListed names))
declares names (Report q) h = All-cons (IsListed names) q.name [] h.name (All-nil (IsListed names))
declares names s h = All-nil (IsListed names)

-- ---- the first fault

-- the name of the fault, if there is one, stands in the table
abbrev pub IsTold : Table → TypeFault → Type 0
IsTold names found = IfSome found (λ p. IsListedFault names p.1)

told_or_else : (names : Table) (check : Verdict (Unit {0})) (number : ℕ) (others : TypeFault) → Tells names check → IsTold names others → IsTold names (or_else check number others)
told_or_else names (Passes a) number others h k = k
told_or_else names (Fails fault) number others h k = h

told_twice : (names : Table) (number : ℕ) (earlier : List Name) (statements : List Statement) → All (IsWritten names) statements → IsTold names (twice_from number earlier statements)
told_twice names number earlier [] h = tt
told_twice names number earlier (s ∷ statements) h =
    told_or_else names (check_new (is_among earlier) [] (names_declared s)) number (twice_from (number + 1) (names_declared s ++ earlier) statements)
    (new names (is_among earlier) [] (names_declared s) (declares names s (All-head (IsWritten names) s statements h)))
    (told_twice names (number + 1) (names_declared s ++ earlier) statements (All-tail (IsWritten names) s statements h))

told_mistyped : (names : Table) (number : ℕ) (book : Book) (reports : List plain.Report) (statements : List Statement) → All (IsWritten names) statements →
    IsTold names (mistyped_from number book reports statements)
told_mistyped names number book reports [] h = tt
told_mistyped names number book reports (s ∷ statements) h =
    told_or_else names (check_statement book reports s) number (mistyped_from (number + 1) book reports statements)
    (statement names book reports s (All-head (IsWritten names) s statements h))
    (told_mistyped names (number + 1) book reports statements (All-tail (IsWritten names) s statements h))

told_first : (names : Table) (first later : TypeFault) → IsTold names first → IsTold names later → IsTold names (first_of first later)
told_first names None later h k = k
told_first names (Some fault) later h k = h

pub fault_told : (names : Table) (statements : List Statement) → All (IsWritten names) statements → IsTold names (first_fault statements)
fault_told names statements h =
    told_first names (twice_from 1 [] statements) (mistyped_from 1 (book_from statements) (reports_of statements) statements)
    (told_twice names 1 [] statements h) (told_mistyped names 1 (book_from statements) (reports_of statements) statements h)
