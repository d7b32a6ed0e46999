-- What checks of types say by the rules of typing, and what typing says of values and of replacing
-- names, as statements.
use Rattle.std.specs.Prelude.{◌≡◌, ◌↔◌, List, ◌++◌}
use Rattle.poets_value.specs.declared.value.Name.{Name}
use Rattle.poets_value.specs.declared.value.Ty.{Ty}
use Rattle.poets_expr.specs.Expression.{Expression}
use Rattle.poets_expr.specs.Env.{Declared, Env}
use Rattle.poets_expr.specs.Val.{val}
use Rattle.poets_expr.specs.Subst.{Givens, subst}
use Rattle.poets_expr.specs.Fold.{fold_closed, HasDeclaredNames}
use Rattle.poets_syntax.specs.Contract.{Contract}
use Rattle.poets_syntax.specs.Plain.{Book}
use Rattle.poets_syntax.specs.Replace.{replace}
use Rattle.poets_syntax.specs.TypeOf.{Passes, Scope, type_of}
use Rattle.poets_syntax.specs.Typed.{check_contract}
use Rattle.poets_syntax.specs.Typing.{Has, IsTyped}
use Rattle.poets_syntax.specs.OfType.{IsOfType, IsTypedEnv, AreOfTypes, types_given}
use Rattle.poets_syntax.specs.OfType.{IsUndeclaredScope}

-- an expression passes with the type that it has by the rules, and with no other
abbrev pub TypesByRules : Type 0
TypesByRules =
    (declared : Declared) (scope : Scope) (e : Expression) (t : Ty) →
    type_of declared scope e ≡ Passes t ↔ Has declared scope e t

-- a contract passes exactly where it is typed by the rules
abbrev pub ContractsByRules : Type 0
ContractsByRules = (book : Book) (reports : List Name) (scope : Scope) (c : Contract) →
    check_contract book reports scope c ≡ Passes tt ↔ IsTyped book reports scope c

-- the value of a typed expression, where the names in its scope have values of their types, is
-- undefined or of the expression's type, and its agents and kinds are declared
abbrev pub ValueIsOfType : Type 0
ValueIsOfType =
    (declared : Declared) (scope : Scope) (env : Env) (e : Expression) (t : Ty) → IsTypedEnv declared scope env →
    Has declared scope e t → IsOfType (val declared env e) t × HasDeclaredNames declared (val declared env e)

-- folding a closed expression keeps its type
abbrev pub FoldedHasType : Type 0
FoldedHasType = (declared : Declared) (scope : Scope) (e : Expression) (t : Ty) → IsUndeclaredScope declared scope →
    Has declared scope e t → Has declared scope (fold_closed declared e t) t

-- an expression keeps its type where the newest names in its scope are replaced by values of their
-- types
abbrev pub ReplacedHasType : Type 0
ReplacedHasType = (declared : Declared) (given : Givens) (scope : Scope) (e : Expression) (t : Ty) →
    AreOfTypes declared given → IsUndeclaredScope declared scope →
    Has declared (types_given given ++ scope) e t → Has declared scope (subst given e) t

-- a typed contract stays typed where the newest names in its scope are replaced by values of their
-- types
abbrev pub ReplacedIsTyped : Type 0
ReplacedIsTyped = (book : Book) (reports : List Name) (given : Givens) (scope : Scope) (c : Contract) →
    AreOfTypes book.declared given → IsUndeclaredScope book.declared scope →
    IsTyped book reports (types_given given ++ scope) c → IsTyped book reports scope (replace given c)
