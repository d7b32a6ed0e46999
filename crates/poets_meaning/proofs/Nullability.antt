-- Right marks tell which contracts the empty trace performs.
use Rattle.std.proofs.Common.{◌≡◌, Bool, true, false, ◌||◌, ◌&&◌, List, [], map, refl, sym, ◌∙◌, ap, subst, Option, Some, ◌⊎◌, inl, inr}
use Rattle.poets_value.specs.declared.value.Name.{Name}
use Rattle.poets_value.specs.declared.event.Event.{Event}
use Rattle.poets_value.specs.declared.value.Value.{Value}
use Rattle.poets_value.specs.declared.value.Value.TheVariants as V
use Rattle.poets_expr.specs.Env.{Env}
use Rattle.poets_expr.specs.Expression.{Expression}
use Rattle.poets_expr.specs.Val.{val}
use Rattle.poets_expr.proofs.SameTrees.{both_true}
use Rattle.poets_syntax.specs.Contract.{Contract}
use Rattle.poets_syntax.specs.Plain.{Book}
use Rattle.poets_syntax.specs.Book.{parameter_env}
use Rattle.poets_syntax.specs.Applied.{FitsTemplate, CountsFit}
use Rattle.poets_meaning.specs.Between.{Between}
use Rattle.poets_meaning.specs.Perf.{Perf}
use Rattle.poets_meaning.specs.Marks.{Marks, AreRight, nullable}
use Rattle.poets_meaning.specs.Exposed.{EachExposed}
use Rattle.poets_meaning.specs.Truth.{is_true}
use Rattle.poets_meaning.proofs.Granting.{May-Perf, Perf-May, May-anywhere}
use Rattle.poets_meaning.proofs.Lists.{Between-nil, parts_of_nil}

pub or_first : (a b : Bool) → a ≡ true → (a || b) ≡ true
or_first a b e = rw e refl

pub or_second : (a b : Bool) → b ≡ true → (a || b) ≡ true
or_second true b e = refl
or_second false b e = e

pub and_both : (a b : Bool) → a ≡ true → b ≡ true → (a && b) ≡ true
and_both a b e k = rw e k

pub either_true : (a b : Bool) → (a || b) ≡ true → (a ≡ true) ⊎ (b ≡ true)
either_true true b e = inl refl
either_true false b e = inr e

-- the empty trace performs it in every environment, or in none
pub Perf-anywhere : {book : Book} {env : Env} {c : Contract} → (env' : Env) → Perf book env c [] → Perf book env' c []
Perf-anywhere env' p = May-Perf (May-anywhere (Perf-May p) refl env') refl

-- a weaker fact of each exposed application
pub EachExposed-weaker : (Is Is' : Name → List Expression → Type 0) (marks : Marks) → ((f : Name) (args : List Expression) → Is f args → Is' f args) →
    (c : Contract) → EachExposed Is marks c → EachExposed Is' marks c
EachExposed-weaker Is Is' marks h Contract.Success e = tt
EachExposed-weaker Is Is' marks h Contract.Failure e = tt
EachExposed-weaker Is Is' marks h (Contract.Transmit b p c) e = tt
EachExposed-weaker Is Is' marks h (Contract.Plus c d) e = (EachExposed-weaker Is Is' marks h c e.0, EachExposed-weaker Is Is' marks h d e.1)
EachExposed-weaker Is Is' marks h (Contract.Par c d) e = (EachExposed-weaker Is Is' marks h c e.0, EachExposed-weaker Is Is' marks h d e.1)
EachExposed-weaker Is Is' marks h (Contract.Seq c d) e = (EachExposed-weaker Is Is' marks h c e.0, λ k. EachExposed-weaker Is Is' marks h d (e.1 k))
EachExposed-weaker Is Is' marks h (Contract.App f args) e = h f args e

-- what fits is exposed fitting
pub EachExposed-fits : (book : Book) (marks : Marks) (c : Contract) → CountsFit book c → EachExposed (FitsTemplate book) marks c
EachExposed-fits book marks Contract.Success h = tt
EachExposed-fits book marks Contract.Failure h = tt
EachExposed-fits book marks (Contract.Transmit b p c) h = tt
EachExposed-fits book marks (Contract.Plus c d) h = (EachExposed-fits book marks c h.0, EachExposed-fits book marks d h.1)
EachExposed-fits book marks (Contract.Par c d) h = (EachExposed-fits book marks c h.0, EachExposed-fits book marks d h.1)
EachExposed-fits book marks (Contract.Seq c d) h = (EachExposed-fits book marks c h.0, λ _. EachExposed-fits book marks d h.1)
EachExposed-fits book marks (Contract.App f args) h = h

module _ (book : Book) (marks : Marks) (right : AreRight book marks) where
  -- what the empty trace performs is nullable by the marks
  pub nullable_in : {env : Env} {c : Contract} {s : List Event} → Perf book env c s → s ≡ [] → nullable marks c ≡ true
  nullable_in Perf.Done e = refl
  nullable_in (Perf.Taken h p) e = absurd cc
  nullable_in (Perf.Left {c₁ = a} {c₂ = b} p) e = or_first (nullable marks a) (nullable marks b) (nullable_in p e)
  nullable_in (Perf.Right {c₁ = a} {c₂ = b} p) e = or_second (nullable marks a) (nullable marks b) (nullable_in p e)
  nullable_in (Perf.Beside {c₁ = a} {c₂ = b} i p q) e =
      let k = Between-nil i e in
      and_both (nullable marks a) (nullable marks b) (nullable_in p k.0) (nullable_in q k.1)
  nullable_in (Perf.Then {c₁ = a} {c₂ = b} {s₁ = s₁} {s₂ = s₂} i p q) e =
      let k = parts_of_nil s₁ s₂ (sym e ∙ i) in
      and_both (nullable marks a) (nullable marks b) (nullable_in p k.0) (nullable_in q k.1)
  nullable_in (Perf.Body {env = env} {f = f} {args = args} {t = t} i l p) e =
      (right.nullable f).1 (t, i, Perf-anywhere [] (subst (λ u. Perf book (parameter_env t.params (map (val book.declared env) args)) t.body u) e p))

  -- what is nullable by the marks the empty trace performs, where the exposed applications of templates fit them
  pub nullable_performed : (env : Env) (c : Contract) → EachExposed (FitsTemplate book) marks c → nullable marks c ≡ true → Perf book env c []
  nullable_performed env Contract.Success h e = Perf.Done
  nullable_performed env Contract.Failure h e = absurd cc
  nullable_performed env (Contract.Transmit b p c) h e = absurd cc
  nullable_performed env (Contract.Plus a b) h e = elim (either_true (nullable marks a) (nullable marks b) e) [
    | inl k ↦ Perf.Left (nullable_performed env a h.0 k)
    | inr k ↦ Perf.Right (nullable_performed env b h.1 k)
  ]
  nullable_performed env (Contract.Par a b) h e =
      let k = both_true (nullable marks a) (nullable marks b) e in
      Perf.Beside Between.Empty (nullable_performed env a h.0 k.0) (nullable_performed env b h.1 k.1)
  nullable_performed env (Contract.Seq a b) h e =
      let k = both_true (nullable marks a) (nullable marks b) e in
      Perf.Then refl (nullable_performed env a h.0 k.0) (nullable_performed env b (h.1 k.0) k.1)
  nullable_performed env (Contract.App f args) h e =
      let body = (right.nullable f).0 e in
      Perf.Body body.1 (h body.0 body.1) (Perf-anywhere (parameter_env body.0.params (map (val book.declared env) args)) body.2)

-- a predicate's test
pub true_holds : (o : Option Value) → is_true o ≡ true → o ≡ Some (V.Bool true)
true_holds (Some (V.Bool true)) e = refl
true_holds (Some (V.Bool false)) e = absurd cc
true_holds _ e = absurd cc

pub false_fails : (o : Option Value) → is_true o ≡ false → o ≡ Some (V.Bool true) → ⊥
false_fails o e k = let j : is_true (Some (V.Bool true)) ≡ false = sym (ap is_true k) ∙ e in cc
