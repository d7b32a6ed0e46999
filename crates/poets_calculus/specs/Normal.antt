-- The normal form of a contract.
use Rattle.std.specs.Prelude.{not, List, [], ◌∷◌, ◌++◌, filter, fold, Option, Some, None}
use Rattle.std.specs.Prelude.{if◌then◌else◌}
use Rattle.poets_value.specs.declared.value.Name.{Name}
use Rattle.poets_expr.specs.Expression.{Expression}
use Rattle.poets_expr.specs.Env.{Declared}
use Rattle.poets_expr.specs.Fold.{fold_closed}
use Rattle.poets_syntax.specs.declared.term.Binders.{Binders}
use Rattle.poets_syntax.specs.declared.term.Param.{Param}
use Rattle.poets_syntax.specs.Contract.{Contract, Success, Failure, Transmit, Plus, Par, Seq, App}
use Rattle.poets_syntax.specs.Plain.{Book, Template}
use Rattle.poets_syntax.specs.Book.{template_in}
use Rattle.poets_meaning.specs.Marks.{Marks}
use Rattle.poets_calculus.specs.Alike.{alike, parts}

-- the alternatives of a choice, from the left; `Failure` has none, and every other form is its own
-- one alternative
abbrev pub alternatives : Contract → List Contract
alternatives (Plus a b) = alternatives a ++ alternatives b
alternatives Failure = []
alternatives Success = Success ∷ []
alternatives (Transmit b p c) = Transmit b p c ∷ []
alternatives (Par a b) = Par a b ∷ []
alternatives (Seq a b) = Seq a b ∷ []
alternatives (App f args) = App f args ∷ []

-- the contracts without repeats: of alike ones the first is kept
abbrev pub distinct : List Contract → List Contract
distinct [] = []
distinct (c ∷ cs) = c ∷ filter (λ d. not (alike c d)) (distinct cs)

-- alternatives joined by `+`, grouped to the left; no alternative gives `Failure`
abbrev pub choice : List Contract → Contract
choice [] = Failure
choice (c ∷ cs) = fold Plus c cs

-- the choice of two contracts: the alternatives of the first, then those of the second; of alike
-- ones the first is kept
abbrev pub plus : Contract → Contract → Contract
plus a b = choice (distinct (alternatives a ++ alternatives b))

-- parts joined by `||`, grouped to the left; no part gives `Success`
abbrev pub side_by_side : List Contract → Contract
side_by_side [] = Success
side_by_side (c ∷ cs) = fold Par c cs

-- two contracts side by side: `Failure` where either is `Failure`, the other where one is
-- `Success`, and otherwise the parts of the first, then those of the second, grouped to the left
abbrev pub par : Contract → Contract → Contract
par Failure b = Failure
par a Failure = Failure
par Success b = b
par a Success = a
par a b = side_by_side (parts a ++ parts b)

-- two contracts in sequence: `Failure` where either is `Failure`, and the other where one is
-- `Success`
abbrev pub seq : Contract → Contract → Contract
seq Failure b = Failure
seq a Failure = Failure
seq Success b = b
seq a Success = a
seq a b = Seq a b

-- a transmit before `Failure` is `Failure`
abbrev pub send : Binders → Expression → Contract → Contract
send b p Failure = Failure
send b p c = Transmit b p c

-- each closed argument that is no literal is replaced by the literal of its value, of its
-- parameter's type
abbrev pub folded : Declared → List Param → List Expression → List Expression
folded declared (p ∷ params) (a ∷ args) = fold_closed declared a p.ty ∷ folded declared params args
folded declared params args = args

-- the parameters of the template of that name
abbrev pub params_in : Book → Name → List Param
params_in book f = params_of (template_in book.templates f)
  where
    params_of : Option Template → List Param
    params_of None = []
    params_of (Some t) = t.params

-- an application, with its arguments folded; `Failure` where the template is not hopeful
abbrev pub app : Book → Marks → Name → List Expression → Contract
app book marks f args = if marks.hopeful f then App f (folded book.declared (params_in book f) args) else Failure

-- the contract rebuilt from its parts upwards, continuations included; predicates stay
abbrev pub normal : Book → Marks → Contract → Contract
normal book marks Success = Success
normal book marks Failure = Failure
normal book marks (Transmit b p c) = send b p (normal book marks c)
normal book marks (Plus a b) = plus (normal book marks a) (normal book marks b)
normal book marks (Par a b) = par (normal book marks a) (normal book marks b)
normal book marks (Seq a b) = seq (normal book marks a) (normal book marks b)
normal book marks (App f args) = app book marks f args
