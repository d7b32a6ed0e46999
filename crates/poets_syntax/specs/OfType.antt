-- The types of values.
use Rattle.std.specs.Prelude.{◌≡◌, [], ◌∷◌, All, map, Option, None, IfSome}
use Rattle.std.specs.List.{AllZip}
use Rattle.poets_value.specs.declared.value.Ty.{Ty}
use Rattle.poets_value.specs.declared.value.Ty.TheVariants as T
use Rattle.poets_value.specs.declared.value.Value.{Value}
use Rattle.poets_value.specs.declared.value.Value.TheVariants as V
use Rattle.poets_expr.specs.Env.{Declared, Env}
use Rattle.poets_expr.specs.Subst.{Givens}
use Rattle.poets_expr.specs.Fold.{HasDeclaredNames}
use Rattle.poets_syntax.specs.TypeOf.{Scope}

abbrev pub value_type : Value → Ty
value_type (V.Int n) = T.Int
value_type (V.Bool b) = T.Bool
value_type (V.Agent x) = T.Agent
value_type (V.Kind x) = T.Kind
value_type (V.Resource r) = T.Resource
value_type (V.Day d) = T.Day

-- undefined, or a value of the type
abbrev pub IsOfType : Option Value → Ty → Type 0
IsOfType o t = IfSome o (λ v. value_type v ≡ t)

-- the values of the replaced names are of their types, and their agents and kinds are declared
abbrev pub AreOfTypes : Declared → Givens → Type 0
AreOfTypes declared [] = Unit {0}
AreOfTypes declared (p ∷ given) =
    HasDeclaredNames declared p.1.value × IsOfType p.1.value p.1.ty × AreOfTypes declared given

-- the pairs are of the names in the scope, in order; their values are of the names' types, and the
-- agents and kinds are declared
abbrev pub IsTypedEnv : Declared → Scope → Env → Type 0
IsTypedEnv declared scope env = AllZip (λ s p. (s.0 ≡ p.0) × HasDeclaredNames declared p.1 × IsOfType p.1 s.1) scope env

-- the replaced names with their types
abbrev pub types_given : Givens → Scope
types_given given = map (λ p. (p.0, p.1.ty)) given

-- no declared name is in the scope
abbrev pub IsUndeclaredScope : Declared → Scope → Type 0
IsUndeclaredScope declared scope = All (λ p. declared p.0 ≡ None) scope
