-- Names that are replaced by literals.
use Rattle.std.specs.Prelude.{◌≡◌, List, [], ◌∷◌, map, Option, Some, None, if◌then◌else◌}
use Rattle.poets_value.specs.declared.value.Name.{Name}
use Rattle.poets_value.specs.declared.value.Ty.{Ty}
use Rattle.poets_value.specs.declared.value.Ty.TheVariants as T
use Rattle.poets_value.specs.declared.value.Value.{Value}
use Rattle.poets_value.specs.declared.value.Value.TheVariants as V
use Rattle.poets_expr.specs.declared.expr.Given.{Given}
use Rattle.poets_expr.specs.Expression.{Expression, Literal, Undefined, Named, Unary, Make, Binary}
use Rattle.poets_expr.specs.Expression.{If}
use Rattle.poets_expr.specs.Env.{Declared, Env, same_name}

-- names and what they are replaced by, the newest first
abbrev pub Givens : Type 0
Givens = List (Name × Given)

-- the literal of a value of type t; an agent or a kind is its name
abbrev pub literal_of : Option Value → Ty → Expression
literal_of None t = Undefined t
literal_of (Some (V.Agent x)) t = Named x
literal_of (Some (V.Kind x)) t = Named x
literal_of (Some v) t = Literal v

-- the literal that a name is replaced by
abbrev pub literal : Given → Expression
literal g = literal_of g.value g.ty

-- what a name is replaced by: the newest pair counts, and a name without a pair stays
abbrev pub replaced : Givens → Name → Expression
replaced [] x = Named x
replaced (p ∷ given) x = if same_name p.0 x then literal p.1 else replaced given x

-- the expression with its names replaced
abbrev pub subst : Givens → Expression → Expression
subst given (Literal v) = Literal v
subst given (Undefined t) = Undefined t
subst given (Named x) = replaced given x
subst given (Unary o a) = Unary o (subst given a)
subst given (Make a b) = Make (subst given a) (subst given b)
subst given (Binary o a b) = Binary o (subst given a) (subst given b)
subst given (If a b c) = If (subst given a) (subst given b) (subst given c)

-- the names with their values
abbrev pub env_of : Givens → Env
env_of given = map (λ p. (p.0, p.1.value)) given

-- a value that is an agent or a kind is declared as such
abbrev pub IsDeclared : Declared → Option Value → Type 0
IsDeclared declared (Some (V.Agent x)) = declared x ≡ Some T.Agent
IsDeclared declared (Some (V.Kind x)) = declared x ≡ Some T.Kind
IsDeclared declared _ = Unit {0}

-- each value that a name is replaced by is declared as such, if it is an agent or a kind
abbrev pub AreDeclared : Declared → Givens → Type 0
AreDeclared declared [] = Unit {0}
AreDeclared declared (p ∷ given) = IsDeclared declared p.1.value × AreDeclared declared given
