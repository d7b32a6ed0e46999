-- What typing demands of expressions and contracts, in the order in which faults are reported: the
-- fault is that of the first demand that is not met.
use Rattle.std.specs.Prelude.{◌≡◌, ◌⊎◌, Bool, false, List, [], ◌∷◌, ◌++◌, All, length, map, Option}
use Rattle.std.specs.Prelude.{Some, None}
use Rattle.poets_value.specs.declared.value.Name.{Name}
use Rattle.poets_value.specs.declared.value.Ty.{Ty}
use Rattle.poets_value.specs.declared.value.Ty.TheVariants as T
use Rattle.poets_value.specs.declared.value.Value.{Value}
use Rattle.poets_value.specs.declared.value.Value.TheVariants as V
use Rattle.poets_expr.specs.declared.expr.Op.{Op}
use Rattle.poets_expr.specs.declared.expr.Op.TheVariants as O
use Rattle.poets_expr.specs.Expression.{UnaryOp, Minus, Not, AmountOf, KindOf}
use Rattle.poets_expr.specs.Expression.{Expression, Literal, Undefined, Named, Unary, Make, Binary}
use Rattle.poets_expr.specs.Expression.{If}
use Rattle.poets_expr.specs.Env.{Declared}
use Rattle.poets_syntax.specs.declared.term.Param.{Param}
use Rattle.poets_syntax.specs.Contract.{Contract, Success, Failure, Transmit, Plus, Par, Seq, App}
use Rattle.poets_syntax.specs.Plain.{Book, Template, TypeCause, Twice, Unknown, WrongCount}
use Rattle.poets_syntax.specs.Plain.{WrongType}
use Rattle.poets_syntax.specs.Book.{template_in}
use Rattle.poets_syntax.specs.TypeOf.{Scope, type_in}
use Rattle.poets_syntax.specs.Typed.{is_among, in_use, names_bound, types_bound, scope_of}
use Rattle.poets_syntax.specs.Typing.{IsNumberOrDay, Has}

-- what is demanded at one place
pub data Demand : Type 0 where
  -- the name has a type
  Known : Scope → Name → Demand
  -- the expression has the type
  OfType : Scope → (wanted : Ty) → Expression → Demand
  -- the expression is a number or a day
  NumberOrDay : Scope → Expression → Demand
  -- the second expression has the type of the first
  OneType : Scope → Expression → Expression → Demand
  -- the second expression can be taken from the first: it is a number, or both are days
  TakenFrom : Scope → Expression → Expression → Demand
  -- the name is not in use, and is not one of those before it
  New : (used : Name → Bool) → (earlier : List Name) → Name → Demand
  -- what has the name gets as many arguments as it has parameters
  AsMany : Name → List Param → List Expression → Demand
  -- nothing meets it
  Never : TypeCause → Demand

abbrev pub IsMet : Declared → Demand → Type 0
IsMet declared (Known scope x) = (t : Ty) × (type_in declared scope x ≡ Some t)
IsMet declared (OfType scope wanted e) = Has declared scope e wanted
IsMet declared (NumberOrDay scope e) = (t : Ty) × IsNumberOrDay t × Has declared scope e t
IsMet declared (OneType scope a b) = (t : Ty) × Has declared scope a t × Has declared scope b t
IsMet declared (TakenFrom scope a b) =
    Has declared scope b T.Int ⊎ (Has declared scope a T.Day × Has declared scope b T.Day)
IsMet declared (New used earlier x) = (used x ≡ false) × (is_among earlier x ≡ false)
IsMet declared (AsMany x params args) = length params ≡ length args
IsMet declared (Never cause) = ⊥

-- the cause that is reported where the demand is not met
abbrev pub IsCauseOf : Declared → Demand → TypeCause → Type 0
IsCauseOf declared (Known scope x) cause = cause ≡ Unknown x
IsCauseOf declared (OfType scope wanted e) cause =
    (found : Ty) × Has declared scope e found × (cause ≡ WrongType wanted found)
IsCauseOf declared (NumberOrDay scope e) cause =
    (found : Ty) × Has declared scope e found × (cause ≡ WrongType T.Int found)
IsCauseOf declared (OneType scope a b) cause =
    (wanted : Ty) × (found : Ty) × Has declared scope a wanted × Has declared scope b found
    × (cause ≡ WrongType wanted found)
IsCauseOf declared (TakenFrom scope a b) cause =
    (found : Ty) × Has declared scope b found × (cause ≡ WrongType T.Int found)
IsCauseOf declared (New used earlier x) cause = cause ≡ Twice x
IsCauseOf declared (AsMany x params args) cause = cause ≡ WrongCount x (length params) (length args)
IsCauseOf declared (Never given) cause = cause ≡ given

-- each demand is met
abbrev pub AreMet : Declared → List Demand → Type 0
AreMet declared demands = All (IsMet declared) demands

-- the first demand that is not met has this cause
pub data FirstFault (declared : Declared) : List Demand → TypeCause → Type 0 where
  Here :
      {demand : Demand} {others : List Demand} {cause : TypeCause} →
      ¬ (IsMet declared demand) → IsCauseOf declared demand cause → FirstFault declared (demand ∷ others) cause
  Later :
      {demand : Demand} {others : List Demand} {cause : TypeCause} →
      IsMet declared demand → FirstFault declared others cause → FirstFault declared (demand ∷ others) cause

-- ---- expressions: their parts from left to right, then the node

-- the name is declared as the wanted one of an agent and a kind
abbrev pub declared_demands : (wanted : Ty) → Name → List Demand
declared_demands wanted x = Known [] x ∷ OfType [] wanted (Named x) ∷ []

-- an agent or a kind stands in an expression as a name, and not as a literal
abbrev pub literal_demands : Value → List Demand
literal_demands (V.Resource r) = declared_demands T.Kind r.kind
literal_demands (V.Agent x) = Never (Unknown x) ∷ []
literal_demands (V.Kind x) = Never (Unknown x) ∷ []
literal_demands v = []

abbrev pub unary_demand : Scope → UnaryOp → Expression → Demand
unary_demand scope Minus a = OfType scope T.Int a
unary_demand scope Not a = OfType scope T.Bool a
unary_demand scope AmountOf a = OfType scope T.Resource a
unary_demand scope KindOf a = OfType scope T.Resource a

abbrev pub both_of : Scope → Ty → Expression → Expression → List Demand
both_of scope wanted a b = OfType scope wanted a ∷ OfType scope wanted b ∷ []

abbrev pub order_demands : Scope → Expression → Expression → List Demand
order_demands scope a b = NumberOrDay scope a ∷ OneType scope a b ∷ []

abbrev pub binary_demands : Scope → Op → Expression → Expression → List Demand
binary_demands scope O.Add a b = NumberOrDay scope a ∷ OfType scope T.Int b ∷ []
binary_demands scope O.Sub a b = NumberOrDay scope a ∷ TakenFrom scope a b ∷ []
binary_demands scope O.Mul a b = both_of scope T.Int a b
binary_demands scope O.Div a b = both_of scope T.Int a b
binary_demands scope O.Rem a b = both_of scope T.Int a b
binary_demands scope O.Eq a b = OneType scope a b ∷ []
binary_demands scope O.Ne a b = OneType scope a b ∷ []
binary_demands scope O.Lt a b = order_demands scope a b
binary_demands scope O.Le a b = order_demands scope a b
binary_demands scope O.Gt a b = order_demands scope a b
binary_demands scope O.Ge a b = order_demands scope a b
binary_demands scope O.And a b = both_of scope T.Bool a b
binary_demands scope O.Or a b = both_of scope T.Bool a b

-- the demands of an expression: those of its parts from left to right, then its own
abbrev pub demands_of : Scope → Expression → List Demand
demands_of scope (Literal v) = literal_demands v
demands_of scope (Undefined t) = []
demands_of scope (Named x) = Known scope x ∷ []
demands_of scope (Unary o a) = demands_of scope a ++ unary_demand scope o a ∷ []
demands_of scope (Make a b) =
    demands_of scope a ++ demands_of scope b ++ OfType scope T.Int a ∷ OfType scope T.Kind b ∷ []
demands_of scope (Binary o a b) = demands_of scope a ++ demands_of scope b ++ binary_demands scope o a b
demands_of scope (If a b c) =
    demands_of scope a ++ demands_of scope b ++ demands_of scope c ++ OfType scope T.Bool a ∷ OneType scope b c ∷ []

-- an expression of the wanted type
abbrev pub wanted_demands : Scope → (wanted : Ty) → Expression → List Demand
wanted_demands scope wanted e = demands_of scope e ++ OfType scope wanted e ∷ []

-- ---- contracts

-- new names, from the left
abbrev pub new_demands : (used : Name → Bool) → (earlier names : List Name) → List Demand
new_demands used earlier [] = []
new_demands used earlier (x ∷ names) = New used earlier x ∷ new_demands used (x ∷ earlier) names

-- arguments of the types of their parameters
abbrev pub each_argument : Scope → List Param → List Expression → List Demand
each_argument scope (p ∷ params) (a ∷ args) = wanted_demands scope p.ty a ++ each_argument scope params args
each_argument scope _ _ = []

-- first their number
abbrev pub argument_demands : Scope → Name → List Param → List Expression → List Demand
argument_demands scope x params args = AsMany x params args ∷ each_argument scope params args

abbrev pub application_demands : Scope → Name → Option Template → List Expression → List Demand
application_demands scope f None args = Never (Unknown f) ∷ []
application_demands scope f (Some t) args = argument_demands scope f t.params args

-- a transmission: its binders, its condition, and what follows
abbrev pub contract_demands : Book → (reports : List Name) → Scope → Contract → List Demand
contract_demands book reports scope Success = []
contract_demands book reports scope Failure = []
contract_demands book reports scope (Transmit b p c) =
    new_demands (in_use book reports) [] (names_bound b)
    ++ wanted_demands (types_bound b ++ scope) T.Bool p
    ++ contract_demands book reports (types_bound b ++ scope) c
contract_demands book reports scope (Plus c₁ c₂) =
    contract_demands book reports scope c₁ ++ contract_demands book reports scope c₂
contract_demands book reports scope (Par c₁ c₂) =
    contract_demands book reports scope c₁ ++ contract_demands book reports scope c₂
contract_demands book reports scope (Seq c₁ c₂) =
    contract_demands book reports scope c₁ ++ contract_demands book reports scope c₂
contract_demands book reports scope (App f args) = application_demands scope f (template_in book.templates f) args

-- a template: its parameters, then its body under them
abbrev pub template_demands : Book → (reports : List Name) → Template → List Demand
template_demands book reports t =
    new_demands (in_use book reports) [] (map (λ p. p.name) t.params)
    ++ contract_demands book reports (scope_of t.params) t.body
