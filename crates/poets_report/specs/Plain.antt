-- Reports and answers as plain data.
use Rattle.std.specs.Prelude.{List, Option}
use Rattle.poets_value.specs.declared.value.Name.{Name}
use Rattle.poets_value.specs.declared.value.Ty.{Ty}
use Rattle.poets_value.specs.declared.value.Value.{Value}
use Rattle.poets_expr.specs.Expression.{Expression}
use Rattle.poets_syntax.specs.declared.term.Binders.{Binders}
use Rattle.poets_syntax.specs.declared.term.Param.{Param}
use Rattle.poets_report.specs.Keys.{Key}
pub use Rattle.poets_syntax.specs.Plain.{Template, Book, TypeCause}

-- a report
pub record Report : Type 0 where
  pub name : Name
  pub params : List Param
  pub ty : Ty
  pub start : Expression
  pub carry : Name
  pub binders : Binders
  pub step : Expression
  pub key : Option Expression

-- a key and its value
abbrev pub KeyRow : Type 0
KeyRow = Key × Option Value

-- an answer
pub data Answer : Type 0 where
  Single : Option Value → Answer
  Rows : List KeyRow → Answer
