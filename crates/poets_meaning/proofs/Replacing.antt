-- A contract whose names were replaced says what it says under their values.
use Rattle.std.proofs.Common.{◌≡◌, Bool, false, List, [], ◌∷◌, map, refl, sym, ◌∙◌, ap₂, Option, Some, None, inl, inr}
use Rattle.poets_value.specs.declared.value.Name.{Name}
use Rattle.poets_value.specs.declared.value.Value.TheVariants as V
use Rattle.poets_value.specs.declared.value.Ty.{Ty}
use Rattle.poets_value.specs.declared.value.Value.{Value}
use Rattle.poets_expr.specs.Expression.{Expression}
use Rattle.poets_expr.specs.Env.{Declared, Env, same_name}
use Rattle.poets_expr.specs.Val.{val}
use Rattle.poets_expr.specs.Subst.{Givens, subst, replaced, literal_of, IsDeclared, AreDeclared}
use Rattle.poets_expr.proofs.ValSubst.{Agrees, val-subst, truth_of as truth}
use Rattle.poets_syntax.specs.declared.term.Binders.{Binders}
use Rattle.poets_syntax.specs.Contract.{Contract}
use Rattle.poets_syntax.specs.Book.{BinderValues, bound}
use Rattle.poets_syntax.specs.Replace.{binds, without, replace, AreUndeclared, BindersAreUndeclared}
use Rattle.poets_syntax.proofs.Replacing.{bound-free, bound-same, declared_free, replaced-free, replaced-bound, args_count}
use Rattle.poets_meaning.proofs.Saying.{SaysSame}

-- the literal of a value that stands has that value also below binders
literal-bound : (declared : Declared) (b : Binders) (v : BinderValues) (env : Env) → AreUndeclared declared b → (o : Option Value) (t : Ty) → IsDeclared declared o →
    val declared (bound b v env) (literal_of o t) ≡ val declared env (literal_of o t)
literal-bound declared b v env f None t h = refl
literal-bound declared b v env f (Some (V.Int n)) t h = refl
literal-bound declared b v env f (Some (V.Bool n)) t h = refl
literal-bound declared b v env f (Some (V.Agent x)) t h = bound-free declared b v env x (declared_free declared b x f (λ e. cc))
literal-bound declared b v env f (Some (V.Kind x)) t h = bound-free declared b v env x (declared_free declared b x f (λ e. cc))
literal-bound declared b v env f (Some (V.Resource r)) t h = refl
literal-bound declared b v env f (Some (V.Day d)) t h = refl

-- what a name is replaced by has its value also below binders
replaced-value : (declared : Declared) (b : Binders) (v : BinderValues) (env : Env) → AreUndeclared declared b → (given : Givens) → AreDeclared declared given →
    (x : Name) → binds b x ≡ false → val declared (bound b v env) (replaced given x) ≡ val declared env (replaced given x)
replaced-value declared b v env f [] h x k = bound-free declared b v env x k
replaced-value declared b v env f (p ∷ given) h x k =
    let rest = replaced-value declared b v env f given h.1 x k in
    let here = literal-bound declared b v env f p.1.value p.1.ty h.0 in
    elim (truth (same_name p.0 x)) [ inl e ↦ rw e here | inr e ↦ rw e rest ]

-- names keep their values below binders
Agrees-bound : (declared : Declared) (b : Binders) (v : BinderValues) (env : Env) (given : Givens) (env' : Env) → AreUndeclared declared b → AreDeclared declared given →
    Agrees declared env given env' → Agrees declared (bound b v env) (without b given) (bound b v env')
Agrees-bound declared b v env given env' f h agrees x = elim (truth (binds b x)) [
  | inl k ↦ rw (replaced-bound b given x k) (bound-same declared b v env env' x k)
  | inr k ↦ rw (replaced-free b given x k) (replaced-value declared b v env f given h x k ∙ agrees x ∙ sym (bound-free declared b v env' x k))
]

AreDeclared-without : (declared : Declared) (b : Binders) (given : Givens) → AreDeclared declared given → AreDeclared declared (without b given)
AreDeclared-without declared b [] h = tt
AreDeclared-without declared b (p ∷ given) h =
    let rest = AreDeclared-without declared b given h.1 in
    elim (truth (binds b p.0)) [ inl k ↦ rw k rest | inr k ↦ rw k (h.0, rest) ]

args-alike : (declared : Declared) (env : Env) (given : Givens) (env' : Env) → Agrees declared env given env' →
    (args : List Expression) → map (val declared env) (map (subst given) args) ≡ map (val declared env') args
args-alike declared env given env' h [] = refl
args-alike declared env given env' h (a ∷ args) =
    ap₂ (λ x xs. x ∷ xs) (val-subst declared env given env' h a) (args-alike declared env given env' h args)

-- where names agree, the replaced contract says what the contract says
pub SaysSame-replace : (declared : Declared) (c : Contract) (env : Env) (given : Givens) (env' : Env) → BindersAreUndeclared declared c → AreDeclared declared given →
    Agrees declared env given env' → SaysSame declared env (replace given c) env' c
SaysSame-replace declared Contract.Success env given env' f h agrees = SaysSame.Success
SaysSame-replace declared Contract.Failure env given env' f h agrees = SaysSame.Failure
SaysSame-replace declared (Contract.Transmit b p c) env given env' f h agrees = SaysSame.Transmit
    (λ v. val-subst declared (bound b v env) (without b given) (bound b v env') (Agrees-bound declared b v env given env' f.0 h agrees) p)
    (λ v. SaysSame-replace declared c (bound b v env) (without b given) (bound b v env') f.1 (AreDeclared-without declared b given h)
    (Agrees-bound declared b v env given env' f.0 h agrees))
SaysSame-replace declared (Contract.Plus c d) env given env' f h agrees =
    SaysSame.Plus (SaysSame-replace declared c env given env' f.0 h agrees) (SaysSame-replace declared d env given env' f.1 h agrees)
SaysSame-replace declared (Contract.Par c d) env given env' f h agrees =
    SaysSame.Par (SaysSame-replace declared c env given env' f.0 h agrees) (SaysSame-replace declared d env given env' f.1 h agrees)
SaysSame-replace declared (Contract.Seq c d) env given env' f h agrees =
    SaysSame.Seq (SaysSame-replace declared c env given env' f.0 h agrees) (SaysSame-replace declared d env given env' f.1 h agrees)
SaysSame-replace declared (Contract.App g args) env given env' f h agrees =
    SaysSame.App (args_count given args) (args-alike declared env given env' agrees args)
