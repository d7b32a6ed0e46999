-- From ways of a residual to ways of the contract, form by form.
use Rattle.std.proofs.Common.{◌≡◌, ℕ, suc, min, ◌-◌, Bool, true, false, List, [], ◌∷◌, length, take, refl, sym, ◌∙◌, ap, subst, arith, inl, inr}
use Rattle.poets_value.specs.declared.event.Event.{Event}
use Rattle.poets_expr.specs.Expression.{Expression}
use Rattle.poets_expr.specs.Val.{val}
use Rattle.poets_syntax.specs.declared.term.Binders.{Binders}
use Rattle.poets_syntax.specs.Contract.{Contract, Success, Transmit, Plus, Par, Seq}
use Rattle.poets_syntax.specs.Plain.{Book}
use Rattle.poets_syntax.specs.Book.{taken}
use Rattle.poets_syntax.specs.Replace.{replace, env_of}
use Rattle.poets_syntax.specs.Givens.{event_givens}
use Rattle.poets_syntax.specs.WellFormed.{IsWellFormed, IsDeclaredEvent}
use Rattle.poets_syntax.proofs.Givens.{HaveDeclaredNames-event}
use Rattle.poets_syntax.proofs.Replacing.{truth}
use Rattle.poets_meaning.specs.Marks.{Marks, nullable}
use Rattle.poets_meaning.specs.Truth.{is_true}
use Rattle.poets_meaning.proofs.Nullability.{true_holds}
use Rattle.poets_calculus.specs.Normal.{plus, par, seq}
use Rattle.poets_calculus.specs.Residual.{after}
use Rattle.poets_residue.proofs.Equations.{after-transmit, after-plus, after-par, after-seq}
use Rattle.poets_way.specs.Way.{Way}
use Rattle.poets_way.specs.Way as W
use Rattle.poets_way.specs.Ways.{Ways, first_of, second_of}
use Rattle.poets_norm.specs.Choices.{regrouped}
use Rattle.poets_norm.specs.code.Grouping.{beside_parts}
use Rattle.poets_norm.proofs.Parts.{IsProper}
use Rattle.poets_route.specs.code.Choices.{IsAlternative, Embeds, HasNoFront, HasNoStart}
use Rattle.poets_route.specs.code.Grouping.{Takes}
use Rattle.poets_way.specs.code.Sides.{repeated}
use Rattle.poets_way.specs.Trails.{seconds}
use Rattle.poets_route.specs.code.Undone.{Undoes, Ends}
use Rattle.poets_route.specs.code.Back.{Backs, BacksWhole, ByFirst, BySecond, Begins}
use Rattle.poets_route.proofs.Saying.{replaced_way}
use Rattle.poets_route.proofs.Choices.{of_plus, no_alternative, itself}
use Rattle.poets_route.specs.code.Reading.{IsBoth, IsThen}
use Rattle.poets_route.proofs.Regrouped.{is_both}
use Rattle.poets_route.proofs.Undone.{is_then}
use Rattle.poets_route.proofs.Joined.{par-second, par_with, par_rest, par_both, seq_with, seq_rest}
use Rattle.poets_way.proofs.Sided.{length-repeated, all_first, no_second, all_second, no_first, seconds_and_first, length-second, length-taken}

is_done : (c : Contract) → c ≡ Success → IsAlternative c Success
is_done c e = subst (λ x. IsAlternative x Success) (sym e) (itself Success)

module _ (book : Book) (marks : Marks) (e : Event) where
  -- the contract after the event
  abbrev next : Contract → Contract
  next c = after book marks e c

  pub backs-transmit : (n : ℕ) (b : Binders) (p : Expression) (c a : Contract) (v w : Way) → IsDeclaredEvent book.declared e → IsWellFormed book.declared c →
      Undoes book marks n (replace (event_givens b e) c) a v w → Backs book marks e n (Transmit b p c) a v (W.Take w)
  backs-transmit n b p c a v w declared formed h s l i way =
      let j = subst (λ x. IsAlternative x a) (after-transmit book marks e b p c) i in
      elim (truth (is_true (val book.declared (taken b e []) p))) [
        | inl t ↦ Ways.Take (true_holds (val book.declared (taken b e []) p) t)
            (replaced_way book (event_givens b e) c (HaveDeclaredNames-event book.declared b e declared) formed
            (h [] (λ x k. refl) s l (rw t at j) way))
        | inr f ↦ no_alternative a (rw f at j)
      ]

  pub backs-right : (n : ℕ) (a b c : Contract) (v w : Way) → IsAlternative (after book marks e b) c → Backs book marks e n b c v w →
      Backs book marks e n (Plus a b) c v (W.Right w)
  backs-right n a b c v w i h s l j way = Ways.Right (h s l i way)

  pub backs-left : (n : ℕ) (a b c : Contract) (v w : Way) → (IsAlternative (after book marks e b) c → ⊥) → Backs book marks e n a c v w →
      Backs book marks e n (Plus a b) c v (W.Left w)
  backs-left n a b c v w i h s l j way = elim (of_plus (next a) (next b) c (subst (λ x. IsAlternative x c) (after-plus book marks e a b) j)) [
    | inl x ↦ Ways.Left (h s l x way)
    | inr x ↦ absurd (i x)
  ]

  -- side by side, the second one took the event
  pub second-done : (n : ℕ) (a b c : Contract) (v u w : Way) → after book marks e b ≡ Success → Embeds a c v u → Backs book marks e 0 b Success W.Nothing w →
      BySecond book marks e n a b c v (W.Both (true ∷ repeated n false) u w)
  second-done n a b c v u w done embed h s l i way =
      let alone : par a (next b) ≡ a = ap (par a) done ∙ par-second a in
      Ways.Both (ap suc (length-repeated n false ∙ sym l))
      (subst (λ x. Ways book [] a x u) (sym (all_first n s l)) (embed book [] s (subst (λ x. IsAlternative x c) alone i) way))
      (subst (λ x. Ways book [] b (e ∷ x) w) (sym (no_second n s l)) (h [] refl (is_done (next b) done) Ways.Nothing))

  module _ (n : ℕ) (a b r : Contract) (q : r ≡ after book marks e b) where
    second_on : (sides : List Bool) (v u w : Way) → BacksWhole book marks e (min (seconds sides) n) b r u w →
        {s : List Event} → length s ≡ n → Ways book [] (Par a r) s (W.Both sides v u) → Ways book [] (Par a b) (e ∷ s) (W.Both (true ∷ sides) v w)
    second_on sides v u w h {s} k (Ways.Both l first second) =
        let all = seconds_and_first sides s l in
        let some = length-second sides s l in
        Ways.Both (ap suc l) first (h (second_of sides s) (omega (arith, all, some, k)) q second)

    module _ (grouped : regrouped a ≡ a) (some : IsProper a) (more : r ≡ Success → ⊥) where
      pub second-both : (c : Contract) (sides : List Bool) (o v u w : Way) → Takes r o (W.Both sides v u) →
          BacksWhole book marks e (min (seconds sides) n) b r u w → BySecond book marks e n a b c o (W.Both (true ∷ sides) v w)
      second-both c sides o v u w takes h s l i way =
          let j : c ≡ beside_parts a r = par_both a r c grouped some more (subst (λ x. IsAlternative (par a x) c) (sym q) i) in
          second_on sides v u w h l (takes book [] a s (subst (λ x. Ways book [] x s o) j way))

      -- a way that has no sides is none
      pub second-none : (c : Contract) (o v w : Way) → Takes r o v → (IsBoth v → ⊥) → BySecond book marks e n a b c o w
      second-none c o v w takes absent s l i way =
          let j : c ≡ beside_parts a r = par_both a r c grouped some more (subst (λ x. IsAlternative (par a x) c) (sym q) i) in
          absurd (absent (is_both (takes book [] a s (subst (λ x. Ways book [] x s o) j way))))

  -- the first one took it
  first_on : (n : ℕ) (a b x : Contract) (sides : List Bool) (v u w : Way) → x ≡ after book marks e a →
      BacksWhole book marks e (n - min (seconds sides) n) a x v w →
      {s : List Event} → length s ≡ n → Ways book [] (Par x b) s (W.Both sides v u) → Ways book [] (Par a b) (e ∷ s) (W.Both (false ∷ sides) w u)
  first_on n a b x sides v u w q h {s} k (Ways.Both l first second) =
      let all = seconds_and_first sides s l in
      Ways.Both (ap suc l) (h (first_of sides s) (omega (arith, all, k)) q first) second

  pub first-none : (n : ℕ) (a b x c : Contract) (o v w : Way) → c ≡ beside_parts x b → Takes b o v → (IsBoth v → ⊥) → ByFirst book marks e n a b c o w
  first-none n a b x c o v w whole takes absent s l i way =
      absurd (absent (is_both (takes book [] x s (subst (λ z. Ways book [] z s o) whole way))))

  module _ (n : ℕ) (a b : Contract) (grouped : regrouped (after book marks e a) ≡ after book marks e a) (some : b ≡ Success → ⊥) where
    pub first-both : (x c : Contract) (sides : List Bool) (o v u w : Way) → c ≡ beside_parts x b → Takes b o (W.Both sides v u) →
        BacksWhole book marks e (n - min (seconds sides) n) a x v w → ByFirst book marks e n a b c o (W.Both (false ∷ sides) w u)
    first-both x c sides o v u w whole takes h s l i way =
        let j : x ≡ next a = par_with (next a) b x grouped some (subst (λ z. IsAlternative (par (next a) b) z) whole i) in
        first_on n a b x sides v u w j h l (takes book [] x s (subst (λ z. Ways book [] z s o) whole way))

    pub first-rest : (c : Contract) (v u w : Way) → HasNoFront c b → Embeds b c v u → Backs book marks e 0 a Success W.Nothing w →
        ByFirst book marks e n a b c v (W.Both (false ∷ repeated n true) w u)
    first-rest c v u w q embed h s l i way =
        let rest = par_rest (next a) b c grouped some q i in
        Ways.Both (ap suc (length-repeated n true ∙ sym l))
        (subst (λ x. Ways book [] a (e ∷ x) w) (sym (no_first n s l)) (h [] refl (is_done (next a) rest.0) Ways.Nothing))
        (subst (λ x. Ways book [] b x u) (sym (all_second n s l)) (embed book [] s rest.1 way))

  pub backs-first : (n : ℕ) (a b c : Contract) (v w : Way) → (IsAlternative (par a (after book marks e b)) c → ⊥) → ByFirst book marks e n a b c v w →
      Backs book marks e n (Par a b) c v w
  backs-first n a b c v w i h s l j way =
      elim (of_plus (par (next a) b) (par a (next b)) c (subst (λ x. IsAlternative x c) (after-par book marks e a b) j)) [
        | inl x ↦ h s l x way
        | inr x ↦ absurd (i x)
      ]

  -- in sequence, the first part took the event
  begin_on : (m : ℕ) (a b x : Contract) (v u w : Way) → x ≡ after book marks e a → BacksWhole book marks e m a x v w →
      {s : List Event} → Ways book [] (Seq x b) s (W.Then m v u) → Ways book [] (Seq a b) (e ∷ s) (W.Then (suc m) w u)
  begin_on m a b x v u w q h {s} (Ways.Then l first second) = Ways.Then (omega (arith, l)) (h (take m s) (length-taken m s l) q first) second

  pub begins-both : (n m : ℕ) (a b x c : Contract) (v u w : Way) → (b ≡ Success → ⊥) → c ≡ Seq x b → BacksWhole book marks e m a x v w →
      Begins book marks e n a b c (W.Then m v u) (W.Then (suc m) w u)
  begins-both n m a b x c v u w some whole h s l i way =
      let j : x ≡ next a = seq_with (next a) b x some (subst (λ z. IsAlternative (seq (next a) b) z) whole i) in
      begin_on m a b x v u w j h (subst (λ z. Ways book [] z s (W.Then m v u)) whole way)

  -- a way that has no count, or too great a one, is none
  pub begins-none : (n : ℕ) (a b x c : Contract) (v w : Way) → c ≡ Seq x b → (IsThen n v → ⊥) → Begins book marks e n a b c v w
  begins-none n a b x c v w whole absent s l i way =
      absurd (absent (subst (λ m. IsThen m v) l (is_then (subst (λ z. Ways book [] z s v) whole way))))

  pub begins-rest : (n : ℕ) (a b c : Contract) (v u w : Way) → (b ≡ Success → ⊥) → HasNoStart c b → Embeds b c v u →
      Backs book marks e 0 a Success W.Nothing w → Begins book marks e n a b c v (W.Then 1 w u)
  begins-rest n a b c v u w some q embed h s l i way =
      let rest = seq_rest (next a) b c some q i in
      Ways.Then (omega arith) (h [] refl (is_done (next a) rest.0) Ways.Nothing) (embed book [] s rest.1 way)

  -- the first part was over
  pub backs-over : (n : ℕ) (a b c : Contract) (v w u : Way) → IsAlternative (after book marks e b) c → Ends book a u → Backs book marks e n b c v w →
      Backs book marks e n (Seq a b) c v (W.Then 0 u w)
  backs-over n a b c v w u i end h s l j way = Ways.Then (omega arith) (end []) (h s l i way)

  pub backs-began : (n : ℕ) (a b c : Contract) (v w : Way) → (nullable marks a ≡ true → IsAlternative (after book marks e b) c → ⊥) →
      Begins book marks e n a b c v w → Backs book marks e n (Seq a b) c v w
  backs-began n a b c v w i h s l j way =
      let k = subst (λ x. IsAlternative x c) (after-seq book marks e a b) j in
      elim (truth (nullable marks a)) [
        | inl t ↦ elim (of_plus (seq (next a) b) (next b) c (rw t at k)) [
          | inl x ↦ h s l x way
          | inr x ↦ absurd (i t x)
        ]
        | inr f ↦ h s l (rw f at k) way
      ]
