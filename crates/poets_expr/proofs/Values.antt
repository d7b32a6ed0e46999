-- What the literals and the names' values have, and the operators keep, the value has.
use Rattle.std.proofs.Common.{◌≡◌, Bool, true, false, not, refl, Option, Some, None, IfSome, if◌then◌else◌, ℤ, pos, ◌+ℤ◌, ◌-ℤ◌, ◌*ℤ◌, neg_ℤ}
use Rattle.std.specs.Prelude.{int_div, int_rem, int_lt, int_le}
use Rattle.poets_value.specs.declared.value.Name.{Name}
use Rattle.poets_value.specs.declared.value.Resource.{Resource}
use Rattle.poets_value.specs.declared.value.Value.{Value}
use Rattle.poets_value.specs.declared.value.Value.TheVariants as V
use Rattle.poets_value.specs.Whole.{is_whole, is_day}
use Rattle.poets_expr.specs.declared.expr.Op.{Op}
use Rattle.poets_expr.specs.declared.expr.Op.TheVariants as O
use Rattle.poets_expr.specs.Expression.{UnaryOp, Minus, Not, AmountOf, KindOf, Expression, Literal, Undefined, Named, Unary, Make, Binary, If, EachLiteral}
use Rattle.poets_expr.specs.Env.{Declared, Env, value_in}
use Rattle.poets_expr.specs.Val.{val, unary, binary, strict, resource_of, chosen, decided, whole, day_at, truth, truth_value, sum, difference, product, divided, ordered, if_equal, equal, bool_eq, int_eq}

-- P holds of each number, truth value and day that an operator can give, and passes between a resource and its parts
pub record IsKept (P : Value → Type 0) : Type 0 where
  pub number : (n : ℤ) → is_whole n ≡ true → P (V.Int n)
  pub truth : (b : Bool) → P (V.Bool b)
  pub day : (n : ℤ) → is_day n ≡ true → P (V.Day n)
  pub made : (n : ℤ) (k : Name) → P (V.Int n) → P (V.Kind k) → P (V.Resource (record { amount = n; kind = k }))
  pub amount : (r : Resource) → P (V.Resource r) → P (V.Int r.amount)
  pub kind : (r : Resource) → P (V.Resource r) → P (V.Kind r.kind)

module _ (P : Value → Type 0) (kept : IsKept P) where
  kept_strict : (f : Value → Value → Option Value) → ((v w : Value) → P v → P w → IfSome (f v w) P) →
      (x y : Option Value) → IfSome x P → IfSome y P → IfSome (strict f x y) P
  kept_strict f h None y i j = tt
  kept_strict f h (Some v) None i j = tt
  kept_strict f h (Some v) (Some w) i j = h v w i j

  kept_whole : (n : ℤ) → IfSome (whole n) P
  kept_whole n = elim (is_whole n) as (λ b. is_whole n ≡ b → IfSome (if b then Some (V.Int n) else None) P) [
    | true ↦ (λ e. kept.number n e)
    | false ↦ (λ e. tt)
  ] refl

  kept_day : (n : ℤ) → IfSome (day_at n) P
  kept_day n = elim (is_day n) as (λ b. is_day n ≡ b → IfSome (if b then Some (V.Day n) else None) P) [
    | true ↦ (λ e. kept.day n e)
    | false ↦ (λ e. tt)
  ] refl

  kept_sum : (v w : Value) → IfSome (sum v w) P
  kept_sum (V.Int x) (V.Int y) = kept_whole (x +ℤ y)
  kept_sum (V.Day x) (V.Int y) = kept_day (x +ℤ y)
  kept_sum _ _ = tt

  kept_difference : (v w : Value) → IfSome (difference v w) P
  kept_difference (V.Int x) (V.Int y) = kept_whole (x -ℤ y)
  kept_difference (V.Day x) (V.Int y) = kept_day (x -ℤ y)
  kept_difference (V.Day x) (V.Day y) = kept_whole (x -ℤ y)
  kept_difference _ _ = tt

  kept_product : (v w : Value) → IfSome (product v w) P
  kept_product (V.Int x) (V.Int y) = kept_whole (x *ℤ y)
  kept_product _ _ = tt

  kept_unless : (b : Bool) (o : Option Value) → IfSome o P → IfSome (if b then None else o) P
  kept_unless true o h = tt
  kept_unless false o h = h

  kept_divided : (f : ℤ → ℤ → ℤ) (v w : Value) → IfSome (divided f v w) P
  kept_divided f (V.Int x) (V.Int y) = kept_unless (int_eq y (pos 0)) (whole (f x y)) (kept_whole (f x y))
  kept_divided f _ _ = tt

  kept_ordered : (f : ℤ → ℤ → Bool) (v w : Value) → IfSome (ordered f v w) P
  kept_ordered f (V.Int x) (V.Int y) = kept.truth (f x y)
  kept_ordered f (V.Day x) (V.Day y) = kept.truth (f x y)
  kept_ordered f _ _ = tt

  kept_equal : (f : Bool → Bool) (o : Option Bool) → IfSome (if_equal f o) P
  kept_equal f None = tt
  kept_equal f (Some b) = kept.truth (f b)

  kept_made : (v w : Value) → P v → P w → IfSome (resource_of v w) P
  kept_made (V.Int n) (V.Kind k) i j = kept.made n k i j
  kept_made _ _ i j = tt

  kept_truth : (y : Option Value) → IfSome (truth_value y) P
  kept_truth (Some (V.Bool b)) = kept.truth b
  kept_truth _ = tt

  kept_decided : (b : Bool) (x y : Option Value) → IfSome (decided b x y) P
  kept_decided b (Some (V.Bool x)) y = elim (bool_eq x b) as (λ d. IfSome (if d then truth b else truth_value y) P) [
    | true ↦ kept.truth b
    | false ↦ kept_truth y
  ]
  kept_decided b _ y = tt

  kept_binary : (o : Op) (x y : Option Value) → IfSome x P → IfSome y P → IfSome (binary o x y) P
  kept_binary O.Add x y i j = kept_strict sum (λ v w _ _. kept_sum v w) x y i j
  kept_binary O.Sub x y i j = kept_strict difference (λ v w _ _. kept_difference v w) x y i j
  kept_binary O.Mul x y i j = kept_strict product (λ v w _ _. kept_product v w) x y i j
  kept_binary O.Div x y i j = kept_strict (divided int_div) (λ v w _ _. kept_divided int_div v w) x y i j
  kept_binary O.Rem x y i j = kept_strict (divided int_rem) (λ v w _ _. kept_divided int_rem v w) x y i j
  kept_binary O.Eq x y i j = kept_strict (λ u v. if_equal (λ b. b) (equal u v)) (λ v w _ _. kept_equal (λ b. b) (equal v w)) x y i j
  kept_binary O.Ne x y i j = kept_strict (λ u v. if_equal not (equal u v)) (λ v w _ _. kept_equal not (equal v w)) x y i j
  kept_binary O.Lt x y i j = kept_strict (ordered int_lt) (λ v w _ _. kept_ordered int_lt v w) x y i j
  kept_binary O.Le x y i j = kept_strict (ordered int_le) (λ v w _ _. kept_ordered int_le v w) x y i j
  kept_binary O.Gt x y i j = kept_strict (ordered (λ a b. int_lt b a)) (λ v w _ _. kept_ordered (λ a b. int_lt b a) v w) x y i j
  kept_binary O.Ge x y i j = kept_strict (ordered (λ a b. int_le b a)) (λ v w _ _. kept_ordered (λ a b. int_le b a) v w) x y i j
  kept_binary O.And x y i j = kept_decided false x y
  kept_binary O.Or x y i j = kept_decided true x y

  kept_unary : (o : UnaryOp) (x : Option Value) → IfSome x P → IfSome (unary o x) P
  kept_unary Minus (Some (V.Int n)) i = kept_whole (neg_ℤ n)
  kept_unary Not (Some (V.Bool b)) i = kept.truth (not b)
  kept_unary AmountOf (Some (V.Resource r)) i = kept.amount r i
  kept_unary KindOf (Some (V.Resource r)) i = kept.kind r i
  kept_unary _ _ i = tt

  kept_chosen : (x y z : Option Value) → IfSome y P → IfSome z P → IfSome (chosen x y z) P
  kept_chosen (Some (V.Bool true)) y z i j = i
  kept_chosen (Some (V.Bool false)) y z i j = j
  kept_chosen _ y z i j = tt

  pub val-kept : (declared : Declared) (env : Env) → ((x : Name) → IfSome (value_in declared env x) P) →
      (e : Expression) → EachLiteral P e → IfSome (val declared env e) P
  val-kept declared env names (Literal v) h = h
  val-kept declared env names (Undefined t) h = tt
  val-kept declared env names (Named x) h = names x
  val-kept declared env names (Unary o a) h = kept_unary o (val declared env a) (val-kept declared env names a h)
  val-kept declared env names (Make a b) h =
      kept_strict resource_of kept_made (val declared env a) (val declared env b) (val-kept declared env names a h.0) (val-kept declared env names b h.1)
  val-kept declared env names (Binary o a b) h =
      kept_binary o (val declared env a) (val declared env b) (val-kept declared env names a h.0) (val-kept declared env names b h.1)
  val-kept declared env names (If a b c) h =
      kept_chosen (val declared env a) (val declared env b) (val declared env c) (val-kept declared env names b h.1) (val-kept declared env names c h.2)
