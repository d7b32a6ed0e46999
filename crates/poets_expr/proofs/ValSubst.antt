-- The value of an expression whose names were replaced.
use Rattle.std.proofs.Common.{◌≡◌, Bool, true, false, [], ◌∷◌, ◌++◌, refl, sym, ◌∙◌, ap, ap₂, Option, Some, None, ◌⊎◌, inl, inr}
use Rattle.std.proofs.lemmas.List.Elements.{All-head, All-tail, All-nil}
use Rattle.std.proofs.lemmas.List.{append-nil}
use Rattle.poets_value.specs.declared.value.Name.{Name}
use Rattle.poets_value.specs.declared.value.Ty.{Ty}
use Rattle.poets_value.specs.declared.value.Value.{Value}
use Rattle.poets_value.specs.declared.value.Value.TheVariants as V
use Rattle.poets_expr.specs.Expression.{Expression, Literal, Undefined, Named, Unary, Make, Binary, If}
use Rattle.poets_expr.specs.Env.{Declared, Env, same_name, value_in, PairsAreUndeclared}
use Rattle.poets_expr.specs.Val.{val, unary, binary, strict, resource_of}
use Rattle.poets_expr.specs.Subst.{Givens, literal_of, replaced, subst, env_of, IsDeclared, AreDeclared}
use Rattle.poets_expr.specs.Fold.{KeepsDeclared}
use Rattle.poets_expr.proofs.SameTrees.{name_one}

pub truth_of : (b : Bool) → (b ≡ true) ⊎ (b ≡ false)
truth_of true = inl refl
truth_of false = inr refl

-- each replaced name has in the first environment the value that it has in the second
abbrev pub Agrees : Declared → Env → Givens → Env → Type 0
Agrees declared env given env' = (x : Name) → val declared env (replaced given x) ≡ value_in declared env' x

pub val-subst : (declared : Declared) (env : Env) (given : Givens) (env' : Env) → Agrees declared env given env' →
    (e : Expression) → val declared env (subst given e) ≡ val declared env' e
val-subst declared env given env' h (Literal v) = refl
val-subst declared env given env' h (Undefined t) = refl
val-subst declared env given env' h (Named x) = h x
val-subst declared env given env' h (Unary o a) = ap (unary o) (val-subst declared env given env' h a)
val-subst declared env given env' h (Make a b) = ap₂ (strict resource_of) (val-subst declared env given env' h a) (val-subst declared env given env' h b)
val-subst declared env given env' h (Binary o a b) = ap₂ (binary o) (val-subst declared env given env' h a) (val-subst declared env given env' h b)
val-subst declared env given env' h (If a b c) =
    rw (val-subst declared env given env' h a, val-subst declared env given env' h b, val-subst declared env given env' h c) refl

-- with no pair of a declared name each of them stands for itself
pub KeepsDeclared-undeclared : (declared : Declared) (env : Env) → PairsAreUndeclared declared env → KeepsDeclared declared env
KeepsDeclared-undeclared declared [] h x k = refl
KeepsDeclared-undeclared declared (p ∷ env) h x k =
    let rest = KeepsDeclared-undeclared declared env (All-tail (λ q. declared q.0 ≡ None) p env h) x k in
    elim (truth_of (same_name p.0 x)) [
      | inl e ↦ absurd (k (ap declared (sym (name_one p.0 x e)) ∙ All-head (λ q. declared q.0 ≡ None) p env h))
      | inr e ↦ rw e rest
    ]

-- the literal of a value that is declared has that value
pub val-literal_of : (declared : Declared) (env : Env) → KeepsDeclared declared env → (o : Option Value) (t : Ty) → IsDeclared declared o →
    val declared env (literal_of o t) ≡ o
val-literal_of declared env k None t h = refl
val-literal_of declared env k (Some (V.Int n)) t h = refl
val-literal_of declared env k (Some (V.Bool n)) t h = refl
val-literal_of declared env k (Some (V.Agent x)) t h = rw (k x (λ e. cc), h) refl
val-literal_of declared env k (Some (V.Kind x)) t h = rw (k x (λ e. cc), h) refl
val-literal_of declared env k (Some (V.Resource r)) t h = refl
val-literal_of declared env k (Some (V.Day d)) t h = refl

-- the replaced names have their values in the environment with the pairs
pub Agrees-pairs : (declared : Declared) (env : Env) → KeepsDeclared declared env → (given : Givens) → AreDeclared declared given →
    Agrees declared env given (env_of given ++ env)
Agrees-pairs declared env k [] h x = refl
Agrees-pairs declared env k (p ∷ given) h x =
    let rest = Agrees-pairs declared env k given h.1 x in
    let here = val-literal_of declared env k p.1.value p.1.ty h.0 in
    elim (truth_of (same_name p.0 x)) [ inl e ↦ rw e here | inr e ↦ rw e rest ]

pub val-subst_pairs : (declared : Declared) (given : Givens) (env : Env) (e : Expression) → AreDeclared declared given → PairsAreUndeclared declared env →
    val declared env (subst given e) ≡ val declared (env_of given ++ env) e
val-subst_pairs declared given env e h k =
    val-subst declared env given (env_of given ++ env) (Agrees-pairs declared env (KeepsDeclared-undeclared declared env k) given h) e

pub val-subst_alone : (declared : Declared) (given : Givens) (e : Expression) → AreDeclared declared given →
    val declared [] (subst given e) ≡ val declared (env_of given) e
val-subst_alone declared given e h =
    val-subst_pairs declared given [] e h (All-nil (λ q. declared q.0 ≡ None)) ∙ ap (λ env. val declared env e) (append-nil (env_of given))

pub val-literal_undeclared : (declared : Declared) (env : Env) (o : Option Value) (t : Ty) → PairsAreUndeclared declared env → IsDeclared declared o →
    val declared env (literal_of o t) ≡ o
val-literal_undeclared declared env o t h i = val-literal_of declared env (KeepsDeclared-undeclared declared env h) o t i

-- nothing is replaced
pub subst_nil : (e : Expression) → subst [] e ≡ e
subst_nil (Literal v) = refl
subst_nil (Undefined t) = refl
subst_nil (Named x) = refl
subst_nil (Unary o a) = ap (Unary o) (subst_nil a)
subst_nil (Make a b) = ap₂ Make (subst_nil a) (subst_nil b)
subst_nil (Binary o a b) = ap₂ (Binary o) (subst_nil a) (subst_nil b)
subst_nil (If a b c) = rw (subst_nil a, subst_nil b, subst_nil c) refl
