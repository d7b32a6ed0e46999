-- Typed contracts, or the first fault.
use Rattle.std.specs.Prelude.{nat_eq, Bool, ◌||◌, is_some, length, map, Option, Some, None}
use Rattle.std.specs.Prelude.{if◌then◌else◌}
use Rattle.std.specs.Prelude.{List, [], ◌∷◌, ◌++◌}
use Rattle.std.specs.List.{list_any}
use Rattle.poets_value.specs.declared.value.Name.{Name}
use Rattle.poets_value.specs.declared.value.Ty.{Ty}
use Rattle.poets_value.specs.declared.value.Ty.TheVariants as T
use Rattle.poets_expr.specs.Expression.{Expression}
use Rattle.poets_expr.specs.Env.{Declared, same_name}
use Rattle.poets_syntax.specs.declared.term.Binders.{Binders}
use Rattle.poets_syntax.specs.declared.term.Param.{Param}
use Rattle.poets_syntax.specs.Contract.{Contract, Success, Failure, Transmit, Plus, Par, Seq, App}
use Rattle.poets_syntax.specs.Plain.{Book, Template, Twice, Unknown, WrongCount}
use Rattle.poets_syntax.specs.Book.{template_in}
use Rattle.poets_syntax.specs.TypeOf.{Verdict, Passes, Fails, ◌>>=◌, Scope, must_be, type_of}

-- the name is one of these
abbrev pub is_among : List Name → Name → Bool
is_among names x = list_any (same_name x) names

-- the name is that of an agent, a kind, a template or a report
abbrev pub in_use : Book → List Name → Name → Bool
in_use book reports x = is_some (book.declared x) || is_some (template_in book.templates x) || is_among reports x

-- the fault of the first name that is in use or occurs earlier in the list
abbrev pub check_new : (Name → Bool) → (earlier names : List Name) → Verdict (Unit {0})
check_new used earlier [] = Passes tt
check_new used earlier (x ∷ names) =
    if used x || is_among earlier x then Fails (Twice x) else check_new used (x ∷ earlier) names

abbrev pub names_bound : Binders → List Name
names_bound b = b.sender ∷ b.receiver ∷ b.what ∷ b.day ∷ []

abbrev pub types_bound : Binders → Scope
types_bound b = (b.day, T.Day) ∷ (b.what, T.Resource) ∷ (b.receiver, T.Agent) ∷ (b.sender, T.Agent) ∷ []

abbrev pub scope_of : List Param → Scope
scope_of params = map (λ p. (p.name, p.ty)) params

-- the expression has the wanted type
abbrev pub check_type : Declared → Scope → Ty → Expression → Verdict (Unit {0})
check_type declared scope wanted e = do
  found ← type_of declared scope e
  must_be wanted found

-- each argument has the type of its parameter
abbrev pub check_args : Declared → Scope → List Param → List Expression → Verdict (Unit {0})
check_args declared scope (p ∷ params) (a ∷ args) = do
  _ ← check_type declared scope p.ty a
  check_args declared scope params args
check_args declared scope _ _ = Passes tt

-- as many arguments as parameters, each with the type of its parameter
abbrev pub check_arguments : Declared → Scope → Name → List Param → List Expression → Verdict (Unit {0})
check_arguments declared scope x params args =
    if nat_eq (length params) (length args) then check_args declared scope params args
    else Fails (WrongCount x (length params) (length args))

abbrev pub check_application : Declared → Scope → Name → Option Template → List Expression → Verdict (Unit {0})
check_application declared scope f None args = Fails (Unknown f)
check_application declared scope f (Some t) args = check_arguments declared scope f t.params args

-- the first fault of a contract in the scope
abbrev pub check_contract : Book → (reports : List Name) → Scope → Contract → Verdict (Unit {0})
check_contract book reports scope Success = Passes tt
check_contract book reports scope Failure = Passes tt
check_contract book reports scope (Transmit b p c) = do
  _ ← check_new (in_use book reports) [] (names_bound b)
  _ ← check_type book.declared (types_bound b ++ scope) T.Bool p
  check_contract book reports (types_bound b ++ scope) c
check_contract book reports scope (Plus c₁ c₂) = do
  _ ← check_contract book reports scope c₁
  check_contract book reports scope c₂
check_contract book reports scope (Par c₁ c₂) = do
  _ ← check_contract book reports scope c₁
  check_contract book reports scope c₂
check_contract book reports scope (Seq c₁ c₂) = do
  _ ← check_contract book reports scope c₁
  check_contract book reports scope c₂
check_contract book reports scope (App f args) =
    check_application book.declared scope f (template_in book.templates f) args
