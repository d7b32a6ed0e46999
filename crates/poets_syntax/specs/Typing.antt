-- The rules of typing: which expressions have a type, and which contracts, templates and books are
-- typed.
use Rattle.std.specs.Prelude.{◌≡◌, ℤ, Bool, false, List, [], ◌∷◌, ◌++◌, map, Some}
use Rattle.std.specs.List.{AllZip}
use Rattle.poets_value.specs.declared.value.Name.{Name}
use Rattle.poets_value.specs.declared.value.Ty.{Ty}
use Rattle.poets_value.specs.declared.value.Ty.TheVariants as T
use Rattle.poets_value.specs.declared.value.Value.TheVariants as V
use Rattle.poets_value.specs.declared.day.Day.{Day}
use Rattle.poets_value.specs.declared.value.Resource.{Resource}
use Rattle.poets_expr.specs.declared.expr.Op.{Op}
use Rattle.poets_expr.specs.declared.expr.Op.TheVariants as O
use Rattle.poets_expr.specs.Expression.{Minus, Not, AmountOf, KindOf}
use Rattle.poets_expr.specs.Expression.{Expression, Literal, Undefined, Named, Unary, Make, Binary}
use Rattle.poets_expr.specs.Expression.{If}
use Rattle.poets_expr.specs.Env.{Declared}
use Rattle.poets_syntax.specs.declared.term.Binders.{Binders}
use Rattle.poets_syntax.specs.declared.term.Param.{Param}
use Rattle.poets_syntax.specs.Contract.{Contract, Success, Failure, Transmit, Plus, Par, Seq, App}
use Rattle.poets_syntax.specs.Plain.{Book, Template}
use Rattle.poets_syntax.specs.Book.{template_in}
use Rattle.poets_syntax.specs.TypeOf.{Scope, type_in}
use Rattle.poets_syntax.specs.Typed.{is_among, in_use, names_bound, types_bound, scope_of}

-- the types of numbers and days, which can be ordered, and which a number can be added to and
-- subtracted from
pub data IsNumberOrDay : Ty → Type 0 where
  Number : IsNumberOrDay T.Int
  ADay : IsNumberOrDay T.Day

-- `+` and `-`
pub data IsSum : Op → Type 0 where
  Added : IsSum O.Add
  TakenAway : IsSum O.Sub

-- `*`, `/` and `%`
pub data IsProduct : Op → Type 0 where
  Times : IsProduct O.Mul
  Over : IsProduct O.Div
  Modulo : IsProduct O.Rem

-- `=` and `<>`
pub data IsEquality : Op → Type 0 where
  Equal : IsEquality O.Eq
  Unequal : IsEquality O.Ne

-- `<`, `<=`, `>` and `>=`
pub data IsComparison : Op → Type 0 where
  Below : IsComparison O.Lt
  AtMost : IsComparison O.Le
  Above : IsComparison O.Gt
  AtLeast : IsComparison O.Ge

-- `and` and `or`
pub data IsConnective : Op → Type 0 where
  Both : IsConnective O.And
  Either : IsConnective O.Or

-- an expression has a type where the names in scope have theirs
pub data Has (declared : Declared) (scope : Scope) : Expression → Ty → Type 0 where
  ANumber : {n : ℤ} → Has declared scope (Literal (V.Int n)) T.Int
  ATruth : {b : Bool} → Has declared scope (Literal (V.Bool b)) T.Bool
  ADate : {d : Day} → Has declared scope (Literal (V.Day d)) T.Day
  AnAmount : {r : Resource} → declared r.kind ≡ Some T.Kind → Has declared scope (Literal (V.Resource r)) T.Resource
  Unknown : {t : Ty} → Has declared scope (Undefined t) t
  AName : {x : Name} {t : Ty} → type_in declared scope x ≡ Some t → Has declared scope (Named x) t
  Negation : {a : Expression} → Has declared scope a T.Int → Has declared scope (Unary Minus a) T.Int
  Denial : {a : Expression} → Has declared scope a T.Bool → Has declared scope (Unary Not a) T.Bool
  TheAmount : {a : Expression} → Has declared scope a T.Resource → Has declared scope (Unary AmountOf a) T.Int
  TheKind : {a : Expression} → Has declared scope a T.Resource → Has declared scope (Unary KindOf a) T.Kind
  Made :
      {a b : Expression} → Has declared scope a T.Int → Has declared scope b T.Kind →
      Has declared scope (Make a b) T.Resource
  Sum :
      {o : Op} {a b : Expression} {t : Ty} →
      IsSum o → IsNumberOrDay t → Has declared scope a t → Has declared scope b T.Int →
      Has declared scope (Binary o a b) t
  Days :
      {a b : Expression} → Has declared scope a T.Day → Has declared scope b T.Day →
      Has declared scope (Binary O.Sub a b) T.Int
  Product :
      {o : Op} {a b : Expression} →
      IsProduct o → Has declared scope a T.Int → Has declared scope b T.Int → Has declared scope (Binary o a b) T.Int
  Equality :
      {o : Op} {a b : Expression} {t : Ty} →
      IsEquality o → Has declared scope a t → Has declared scope b t → Has declared scope (Binary o a b) T.Bool
  Comparison :
      {o : Op} {a b : Expression} {t : Ty} →
      IsComparison o → IsNumberOrDay t → Has declared scope a t → Has declared scope b t →
      Has declared scope (Binary o a b) T.Bool
  Connective :
      {o : Op} {a b : Expression} →
      IsConnective o → Has declared scope a T.Bool → Has declared scope b T.Bool →
      Has declared scope (Binary o a b) T.Bool
  Choice :
      {a b c : Expression} {t : Ty} →
      Has declared scope a T.Bool → Has declared scope b t → Has declared scope c t → Has declared scope (If a b c) t

-- as many arguments as parameters, each with the type of its parameter
abbrev pub Fit : Declared → Scope → List Param → List Expression → Type 0
Fit declared scope params args = AllZip (λ p a. Has declared scope a p.ty) params args

-- none of the names is in use, and none occurs earlier in the list
pub data AreNew (used : Name → Bool) : (earlier names : List Name) → Type 0 where
  NoName : {earlier : List Name} → AreNew used earlier []
  OneMore :
      {earlier names : List Name} {x : Name} →
      used x ≡ false → is_among earlier x ≡ false → AreNew used (x ∷ earlier) names → AreNew used earlier (x ∷ names)

-- a contract is typed in a scope, under the book and beside reports with these names
pub data IsTyped (book : Book) (reports : List Name) : Scope → Contract → Type 0 where
  Succeeds : {scope : Scope} → IsTyped book reports scope Success
  Fails : {scope : Scope} → IsTyped book reports scope Failure
  Transmits :
      {scope : Scope} {b : Binders} {p : Expression} {c : Contract} →
      AreNew (in_use book reports) [] (names_bound b) → Has book.declared (types_bound b ++ scope) p T.Bool →
      IsTyped book reports (types_bound b ++ scope) c → IsTyped book reports scope (Transmit b p c)
  Chooses :
      {scope : Scope} {c₁ c₂ : Contract} → IsTyped book reports scope c₁ → IsTyped book reports scope c₂ →
      IsTyped book reports scope (Plus c₁ c₂)
  Joins :
      {scope : Scope} {c₁ c₂ : Contract} → IsTyped book reports scope c₁ → IsTyped book reports scope c₂ →
      IsTyped book reports scope (Par c₁ c₂)
  Follows :
      {scope : Scope} {c₁ c₂ : Contract} → IsTyped book reports scope c₁ → IsTyped book reports scope c₂ →
      IsTyped book reports scope (Seq c₁ c₂)
  Applies :
      {scope : Scope} {f : Name} {args : List Expression} {t : Template} →
      template_in book.templates f ≡ Some t → Fit book.declared scope t.params args →
      IsTyped book reports scope (App f args)

-- a template: its parameters are new, and its body is typed under them
pub record IsTypedTemplate (book : Book) (reports : List Name) (t : Template) : Type 0 where
  pub params : AreNew (in_use book reports) [] (map (λ p. p.name) t.params)
  pub body : IsTyped book reports (scope_of t.params) t.body

-- each template in the book is typed
abbrev pub IsTypedBook : Book → (reports : List Name) → Type 0
IsTypedBook book reports =
    (f : Name) (t : Template) → template_in book.templates f ≡ Some t → IsTypedTemplate book reports t
