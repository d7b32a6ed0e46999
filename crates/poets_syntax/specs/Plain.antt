-- Templates, books and the causes of faults of types, as plain data.
use Rattle.std.specs.Prelude.{ℕ, List}
use Rattle.poets_value.specs.declared.value.Name.{Name}
use Rattle.poets_value.specs.declared.value.Ty.{Ty}
use Rattle.poets_expr.specs.Env.{Declared}
use Rattle.poets_syntax.specs.declared.term.Param.{Param}
use Rattle.poets_syntax.specs.Contract.{Contract}

-- a template, with its body as a tree
pub record Template : Type 0 where
  pub name : Name
  pub params : List Param
  pub body : Contract

-- what is declared, and the templates
pub record Book : Type 0 where
  pub declared : Declared
  pub templates : List Template

-- why something has no type: a name that stands twice, one that is unknown, a wrong number of
-- arguments, a wrong type
pub data TypeCause : Type 0 where
  Twice : Name → TypeCause
  Unknown : Name → TypeCause
  WrongCount : (name : Name) → (wanted found : ℕ) → TypeCause
  WrongType : (wanted found : Ty) → TypeCause
