-- The printed texts of expressions and contracts.
use Rattle.std.specs.Prelude.{◌≡◌, ℕ, Bool, true, false, nat_lt, nat_le, List, [], ◌∷◌, ◌++◌}
use Rattle.std.specs.Prelude.{unwrap_or, slice_get}
use Rattle.std.specs.Prelude.{codes, String, string_bytes}
use Rattle.std.specs.Fmt.{signed_decimal}
use Rattle.std.specs.declared.alloc.Global.{Global}
use Rattle.std.specs.List.{flat_map}
use Rattle.poets_value.specs.declared.value.Name.{Name}
use Rattle.poets_value.specs.declared.value.Ty.{Ty}
use Rattle.poets_value.specs.declared.value.Ty.TheVariants as T
use Rattle.poets_value.specs.declared.value.Resource.{Resource}
use Rattle.poets_value.specs.declared.value.Value.{Value}
use Rattle.poets_value.specs.declared.value.Value.TheVariants as V
use Rattle.poets_value.specs.Civil.{day_text}
use Rattle.poets_expr.specs.declared.expr.Op.{Op}
use Rattle.poets_expr.specs.declared.expr.Op.TheVariants as O
use Rattle.poets_expr.specs.Expression.{Expression, Minus, Not, AmountOf, KindOf, Literal}
use Rattle.poets_expr.specs.Expression.{Undefined, Named, Unary}
use Rattle.poets_expr.specs.Expression.{Make, Binary, If}
use Rattle.poets_syntax.specs.declared.term.Binders.{Binders}
use Rattle.poets_syntax.specs.Contract.{Contract, Success, Failure, Transmit, Plus, Par, Seq, App}
use Rattle.poets_lex.specs.Table.{Table}
use Rattle.poets_print.specs.Levels.{left_in_brackets, right_in_brackets, negated_in_brackets}
use Rattle.poets_print.specs.Levels.{denied_in_brackets}
use Rattle.poets_print.specs.Levels.{contract_level}

-- the string is this text
abbrev pub IsText : List ℕ → String Global → Type 0
IsText text string = string_bytes string ≡ text

-- the text of a name: its bytes in the table, and nothing for a name that the table does not have
abbrev pub name_text : Table → Name → List ℕ
name_text names x = unwrap_or (slice_get names x.id) []

-- in brackets, or not
abbrev pub bracketed : Bool → List ℕ → List ℕ
bracketed true text = codes "(" ++ text ++ codes ")"
bracketed false text = text

-- the text of each after `, `
abbrev pub behind_commas : {A : Type 0} → (A → List ℕ) → List A → List ℕ
behind_commas text_of xs = flat_map (λ x. codes ", " ++ text_of x) xs

-- the text of each, with `, ` between them
abbrev pub listed : {A : Type 0} → (A → List ℕ) → List A → List ℕ
listed text_of [] = []
listed text_of (x ∷ xs) = text_of x ++ behind_commas text_of xs

-- the word for a type
abbrev pub type_text : Ty → List ℕ
type_text T.Int = codes "Int"
type_text T.Bool = codes "Bool"
type_text T.Agent = codes "Agent"
type_text T.Kind = codes "Kind"
type_text T.Resource = codes "Resource"
type_text T.Day = codes "Day"

abbrev pub truth_text : Bool → List ℕ
truth_text true = codes "true"
truth_text false = codes "false"

abbrev pub resource_text : Table → Resource → List ℕ
resource_text names r = codes "[" ++ signed_decimal r.amount ++ codes " " ++ name_text names r.kind ++ codes "]"

-- a value prints as its literal
abbrev pub value_text : Table → Value → List ℕ
value_text names (V.Int z) = signed_decimal z
value_text names (V.Bool b) = truth_text b
value_text names (V.Agent x) = name_text names x
value_text names (V.Kind x) = name_text names x
value_text names (V.Resource r) = resource_text names r
value_text names (V.Day d) = codes "@" ++ day_text d

abbrev pub op_text : Op → List ℕ
op_text O.Add = codes "+"
op_text O.Sub = codes "-"
op_text O.Mul = codes "*"
op_text O.Div = codes "/"
op_text O.Rem = codes "%"
op_text O.Eq = codes "="
op_text O.Ne = codes "<>"
op_text O.Lt = codes "<"
op_text O.Le = codes "<="
op_text O.Gt = codes ">"
op_text O.Ge = codes ">="
op_text O.And = codes "and"
op_text O.Or = codes "or"

-- the text of an expression, with single spaces around operators
abbrev pub expression_text : Table → Expression → List ℕ
expression_text names (Literal v) = value_text names v
expression_text names (Undefined t) = codes "undefined " ++ type_text t
expression_text names (Named x) = name_text names x
expression_text names (Unary Minus a) = codes "-" ++ bracketed (negated_in_brackets a) (expression_text names a)
expression_text names (Unary Not a) = codes "not " ++ bracketed (denied_in_brackets a) (expression_text names a)
expression_text names (Unary AmountOf a) = codes "amount(" ++ expression_text names a ++ codes ")"
expression_text names (Unary KindOf a) = codes "kind(" ++ expression_text names a ++ codes ")"
expression_text names (Make a b) =
    codes "res(" ++ expression_text names a ++ codes ", " ++ expression_text names b ++ codes ")"
expression_text names (Binary o a b) =
    bracketed (left_in_brackets o a) (expression_text names a)
    ++ codes " " ++ op_text o ++ codes " "
    ++ bracketed (right_in_brackets o b) (expression_text names b)
expression_text names (If a b c) =
    codes "if " ++ expression_text names a ++ codes " then " ++ expression_text names b
    ++ codes " else " ++ expression_text names c ++ codes " end"

-- `f(x, y)`
abbrev pub call_text : Table → Name → List Expression → List ℕ
call_text names f args = name_text names f ++ codes "(" ++ listed (expression_text names) args ++ codes ")"

-- `a, b, r, t`
abbrev pub binders_text : Table → Binders → List ℕ
binders_text names b =
    listed (name_text names) (b.sender ∷ b.receiver ∷ b.what ∷ b.day ∷ [])

-- `transmit(a, b, r, t | P)`: a transmission without its continuation
abbrev pub step_text : Table → Binders → Expression → List ℕ
step_text names b p =
    codes "transmit(" ++ binders_text names b ++ codes " | " ++ expression_text names p ++ codes ")"

-- the text of a contract: a left part is in brackets where its level is below its parent's, a right
-- part where it is not above it, and the continuation of a transmit where it is below 4
abbrev pub contract_text : Table → Contract → List ℕ
contract_text names Success = codes "Success"
contract_text names Failure = codes "Failure"
contract_text names (Transmit b p c) =
    codes "transmit(" ++ binders_text names b ++ codes " | " ++ expression_text names p ++ codes "). "
    ++ bracketed (nat_lt (contract_level c) 4) (contract_text names c)
contract_text names (Plus a b) =
    bracketed (nat_lt (contract_level a) 1) (contract_text names a)
    ++ codes " + "
    ++ bracketed (nat_le (contract_level b) 1) (contract_text names b)
contract_text names (Par a b) =
    bracketed (nat_lt (contract_level a) 2) (contract_text names a)
    ++ codes " || "
    ++ bracketed (nat_le (contract_level b) 2) (contract_text names b)
contract_text names (Seq a b) =
    bracketed (nat_lt (contract_level a) 3) (contract_text names a)
    ++ codes " ; "
    ++ bracketed (nat_le (contract_level b) 3) (contract_text names b)
contract_text names (App f args) = call_text names f args
