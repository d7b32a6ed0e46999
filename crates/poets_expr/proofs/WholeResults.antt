-- What is made of whole expressions and values is whole.
use Rattle.std.proofs.Common.{[], ◌∷◌, Option, Some, None, inl, inr}
use Rattle.std.proofs.lemmas.List.Elements.{All-head, All-tail, All-nil}
use Rattle.poets_value.specs.declared.value.Name.{Name}
use Rattle.poets_value.specs.declared.value.Ty.{Ty}
use Rattle.poets_value.specs.declared.value.Ty.TheVariants as T
use Rattle.poets_value.specs.declared.value.Value.{Value}
use Rattle.poets_value.specs.declared.value.Value.TheVariants as V
use Rattle.poets_value.specs.Whole.{IsWholeValue}
use Rattle.poets_expr.specs.Expression.{Expression, Literal, Undefined, Named, Unary, Make, Binary, If}
use Rattle.poets_expr.specs.Env.{Declared, Env, same_name, value_in, itself}
use Rattle.poets_expr.specs.Val.{val}
use Rattle.poets_expr.specs.Subst.{Givens, literal_of, replaced, subst}
use Rattle.poets_expr.specs.Fold.{is_folded, fold_closed}
use Rattle.poets_expr.specs.Whole.{IsWholeExpression, IsWholeOption, IsWholeEnv, AreWholeGivens}
use Rattle.poets_expr.proofs.ValSubst.{truth_of}
use Rattle.poets_expr.proofs.Values.{IsKept, val-kept}

whole_kept : IsKept IsWholeValue
whole_kept = record {
  number = λ n h. h;
  truth = λ b. tt;
  day = λ n h. h;
  made = λ n k h i. h;
  amount = λ r h. h;
  kind = λ r h. tt;
}

whole_itself : (x : Name) (o : Option Ty) → IsWholeOption (itself x o)
whole_itself x None = tt
whole_itself x (Some T.Agent) = tt
whole_itself x (Some T.Kind) = tt
whole_itself x (Some _) = tt

whole_value_in : (declared : Declared) (env : Env) → IsWholeEnv env → (x : Name) → IsWholeOption (value_in declared env x)
whole_value_in declared [] h x = whole_itself x (declared x)
whole_value_in declared (p ∷ env) h x =
    let rest = whole_value_in declared env (All-tail (λ q. IsWholeOption q.1) p env h) x in
    let here = All-head (λ q. IsWholeOption q.1) p env h in
    elim (truth_of (same_name p.0 x)) [ inl e ↦ rw e here | inr e ↦ rw e rest ]

pub IsWhole-val : (declared : Declared) (env : Env) (e : Expression) → IsWholeEnv env → IsWholeExpression e → IsWholeOption (val declared env e)
IsWhole-val declared env e h i = val-kept IsWholeValue whole_kept declared env (whole_value_in declared env h) e i

pub IsWhole-literal_of : (o : Option Value) (t : Ty) → IsWholeOption o → IsWholeExpression (literal_of o t)
IsWhole-literal_of None t h = tt
IsWhole-literal_of (Some (V.Int n)) t h = h
IsWhole-literal_of (Some (V.Bool b)) t h = h
IsWhole-literal_of (Some (V.Agent x)) t h = tt
IsWhole-literal_of (Some (V.Kind x)) t h = tt
IsWhole-literal_of (Some (V.Resource r)) t h = h
IsWhole-literal_of (Some (V.Day d)) t h = h

whole_replaced : (given : Givens) → AreWholeGivens given → (x : Name) → IsWholeExpression (replaced given x)
whole_replaced [] h x = tt
whole_replaced (p ∷ given) h x =
    let rest = whole_replaced given (All-tail (λ q. IsWholeOption q.1.value) p given h) x in
    let here = IsWhole-literal_of p.1.value p.1.ty (All-head (λ q. IsWholeOption q.1.value) p given h) in
    elim (truth_of (same_name p.0 x)) [ inl e ↦ rw e here | inr e ↦ rw e rest ]

pub IsWhole-subst : (given : Givens) (e : Expression) → AreWholeGivens given → IsWholeExpression e → IsWholeExpression (subst given e)
IsWhole-subst given (Literal v) h i = i
IsWhole-subst given (Undefined t) h i = tt
IsWhole-subst given (Named x) h i = whole_replaced given h x
IsWhole-subst given (Unary o a) h i = IsWhole-subst given a h i
IsWhole-subst given (Make a b) h i = (IsWhole-subst given a h i.0, IsWhole-subst given b h i.1)
IsWhole-subst given (Binary o a b) h i = (IsWhole-subst given a h i.0, IsWhole-subst given b h i.1)
IsWhole-subst given (If a b c) h i = (IsWhole-subst given a h i.0, IsWhole-subst given b h i.1, IsWhole-subst given c h i.2)

pub IsWhole-fold_closed : (declared : Declared) (e : Expression) (t : Ty) → IsWholeExpression e → IsWholeExpression (fold_closed declared e t)
IsWhole-fold_closed declared e t h =
    let no_pairs : IsWholeEnv [] = All-nil (λ q. IsWholeOption q.1) in
    elim (truth_of (is_folded declared e)) [
      | inl q ↦ rw q (IsWhole-literal_of (val declared [] e) t (IsWhole-val declared [] e no_pairs h))
      | inr q ↦ rw q h
    ]
