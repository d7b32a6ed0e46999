-- What passes the checks of types.
use Rattle.std.specs.Prelude.{◌≡◌, List, [], map, Some}
use Rattle.poets_value.specs.declared.value.Name.{Name}
use Rattle.poets_value.specs.declared.value.Ty.{Ty}
use Rattle.poets_expr.specs.Expression.{Expression}
use Rattle.poets_expr.specs.Env.{Declared}
use Rattle.poets_syntax.specs.Contract.{Contract}
use Rattle.poets_syntax.specs.Plain.{Book, Template}
use Rattle.poets_syntax.specs.Book.{template_in}
use Rattle.poets_syntax.specs.TypeOf.{Passes, Scope, type_of}
use Rattle.poets_syntax.specs.Typed.{in_use, check_new, scope_of, check_contract}

abbrev pub HasType : Declared → Scope → Expression → Ty → Type 0
HasType declared scope e t = type_of declared scope e ≡ Passes t

-- the checks find no fault in the contract
abbrev pub ContractPasses : Book → (reports : List Name) → Scope → Contract → Type 0
ContractPasses book reports scope c = check_contract book reports scope c ≡ Passes tt

-- the checks find no fault in the template's parameters, nor in its body under them
abbrev pub TemplatePasses : Book → (reports : List Name) → Template → Type 0
TemplatePasses book reports t =
    (check_new (in_use book reports) [] (map (λ p. p.name) t.params) ≡ Passes tt)
    × ContractPasses book reports (scope_of t.params) t.body

abbrev pub BookPasses : Book → (reports : List Name) → Type 0
BookPasses book reports =
    (f : Name) (t : Template) → template_in book.templates f ≡ Some t → TemplatePasses book reports t
