-- What is made of expressions that can be written with the names of a table can be written with them.
use Rattle.std.proofs.Common.{◌≡◌, refl, [], ◌∷◌, Option, Some, None, IfSome, inl, inr}
use Rattle.std.specs.List.{All}
use Rattle.std.proofs.lemmas.List.Elements.{All-head, All-tail}
use Rattle.poets_value.specs.declared.value.Name.{Name}
use Rattle.poets_value.specs.declared.value.Ty.{Ty}
use Rattle.poets_value.specs.declared.value.Ty.TheVariants as T
use Rattle.poets_value.specs.declared.value.Value.{Value}
use Rattle.poets_value.specs.declared.value.Value.TheVariants as V
use Rattle.poets_lex.specs.Table.{Table}
use Rattle.poets_expr.specs.Expression.{Expression, EachLiteral, Literal, Undefined, Named, Unary, Make, Binary, If}
use Rattle.poets_expr.specs.Env.{Declared, same_name, itself}
use Rattle.poets_expr.specs.Val.{val}
use Rattle.poets_expr.specs.Subst.{Givens, literal_of, replaced, subst}
use Rattle.poets_expr.specs.Fold.{is_folded, fold_closed}
use Rattle.poets_expr.proofs.ValSubst.{truth_of}
use Rattle.poets_expr.proofs.Values.{IsKept, val-kept}
use Rattle.poets_print.specs.Laws.{IsListed, HasLiteral, CanWrite}

-- each declared name stands in the table
abbrev pub AreListedDeclared : Table → Declared → Type 0
AreListedDeclared names declared = (x : Name) (t : Ty) → declared x ≡ Some t → IsListed names x

-- the agent, the kind or the resource's kind stands in the table
abbrev pub IsListedValue : Table → Value → Type 0
IsListedValue names (V.Int n) = Unit {0}
IsListedValue names (V.Bool b) = Unit {0}
IsListedValue names (V.Agent x) = IsListed names x
IsListedValue names (V.Kind x) = IsListed names x
IsListedValue names (V.Resource r) = IsListed names r.kind
IsListedValue names (V.Day d) = Unit {0}

abbrev pub IsListedOption : Table → Option Value → Type 0
IsListedOption names o = IfSome o (IsListedValue names)

-- so do the names in the values that names are replaced by
abbrev pub AreListedGivens : Table → Givens → Type 0
AreListedGivens names given = All (λ p. IsListedOption names p.1.value) given

module _ (names : Table) where
  listed_kept : IsKept (IsListedValue names)
  listed_kept = record {
    number = λ n h. tt;
    truth = λ b. tt;
    day = λ n h. tt;
    made = λ n k h i. i;
    amount = λ r h. tt;
    kind = λ r h. h;
  }

  listed_itself : (x : Name) (o : Option Ty) → ((t : Ty) → o ≡ Some t → IsListed names x) → IsListedOption names (itself x o)
  listed_itself x None h = tt
  listed_itself x (Some T.Agent) h = h T.Agent refl
  listed_itself x (Some T.Kind) h = h T.Kind refl
  listed_itself x (Some _) h = tt

  listed_literal : (v : Value) → HasLiteral names v → IsListedValue names v
  listed_literal (V.Int n) h = tt
  listed_literal (V.Bool b) h = tt
  listed_literal (V.Agent x) h = absurd h
  listed_literal (V.Kind x) h = absurd h
  listed_literal (V.Resource r) h = h
  listed_literal (V.Day d) h = tt

  listed_literals : (e : Expression) → CanWrite names e → EachLiteral (IsListedValue names) e
  listed_literals (Literal v) h = listed_literal v h
  listed_literals (Undefined t) h = tt
  listed_literals (Named x) h = tt
  listed_literals (Unary o a) h = listed_literals a h
  listed_literals (Make a b) h = (listed_literals a h.0, listed_literals b h.1)
  listed_literals (Binary o a b) h = (listed_literals a h.0, listed_literals b h.1)
  listed_literals (If a b c) h = (listed_literals a h.0, listed_literals b h.1, listed_literals c h.2)

  pub IsListed-val : (declared : Declared) → AreListedDeclared names declared → (e : Expression) → CanWrite names e →
      IsListedOption names (val declared [] e)
  IsListed-val declared h e i =
      val-kept (IsListedValue names) listed_kept declared [] (λ x. listed_itself x (declared x) (h x)) e (listed_literals e i)

  pub CanWrite-literal_of : (o : Option Value) (t : Ty) → IsListedOption names o → CanWrite names (literal_of o t)
  CanWrite-literal_of None t h = tt
  CanWrite-literal_of (Some (V.Int n)) t h = tt
  CanWrite-literal_of (Some (V.Bool b)) t h = tt
  CanWrite-literal_of (Some (V.Agent x)) t h = h
  CanWrite-literal_of (Some (V.Kind x)) t h = h
  CanWrite-literal_of (Some (V.Resource r)) t h = h
  CanWrite-literal_of (Some (V.Day d)) t h = tt

  written_replaced : (given : Givens) → AreListedGivens names given → (x : Name) → IsListed names x → CanWrite names (replaced given x)
  written_replaced [] h x i = i
  written_replaced (p ∷ given) h x i =
      let rest = written_replaced given (All-tail (λ q. IsListedOption names q.1.value) p given h) x i in
      let here = CanWrite-literal_of p.1.value p.1.ty (All-head (λ q. IsListedOption names q.1.value) p given h) in
      elim (truth_of (same_name p.0 x)) [ inl e ↦ rw e here | inr e ↦ rw e rest ]

  pub CanWrite-subst : (given : Givens) (e : Expression) → AreListedGivens names given → CanWrite names e → CanWrite names (subst given e)
  CanWrite-subst given (Literal v) h i = i
  CanWrite-subst given (Undefined t) h i = tt
  CanWrite-subst given (Named x) h i = written_replaced given h x i
  CanWrite-subst given (Unary o a) h i = CanWrite-subst given a h i
  CanWrite-subst given (Make a b) h i = (CanWrite-subst given a h i.0, CanWrite-subst given b h i.1)
  CanWrite-subst given (Binary o a b) h i = (CanWrite-subst given a h i.0, CanWrite-subst given b h i.1)
  CanWrite-subst given (If a b c) h i = (CanWrite-subst given a h i.0, CanWrite-subst given b h i.1, CanWrite-subst given c h i.2)

  pub CanWrite-fold_closed : (declared : Declared) → AreListedDeclared names declared → (e : Expression) (t : Ty) → CanWrite names e →
      CanWrite names (fold_closed declared e t)
  CanWrite-fold_closed declared d e t h = elim (truth_of (is_folded declared e)) [
    | inl q ↦ rw q (CanWrite-literal_of (val declared [] e) t (IsListed-val declared d e h))
    | inr q ↦ rw q h
  ]
