-- From ways of a normal form to ways of the contract, form by form.
use Rattle.std.proofs.Common.{◌≡◌, ℕ, min, ◌-◌, Bool, true, false, List, [], length, take, drop, refl, sym, ◌∙◌, ap, subst, arith, inl, inr}
use Rattle.poets_value.specs.declared.value.Name.{Name}
use Rattle.poets_value.specs.declared.event.Event.{Event}
use Rattle.poets_expr.specs.Env.{Env}
use Rattle.poets_expr.specs.Expression.{Expression}
use Rattle.poets_expr.specs.Fold.{KeepsDeclared}
use Rattle.poets_syntax.specs.declared.term.Binders.{Binders}
use Rattle.poets_syntax.specs.Contract.{Contract, Success, Failure, Transmit, Plus, Par, Seq, App}
use Rattle.poets_syntax.specs.Plain.{Book}
use Rattle.poets_syntax.specs.Book.{values_of, taken}
use Rattle.poets_syntax.specs.Replace.{AreUndeclared}
use Rattle.poets_syntax.specs.WellFormed.{HaveDeclaredLiterals}
use Rattle.poets_syntax.proofs.Replacing.{truth}
use Rattle.poets_meaning.specs.Marks.{Marks}
use Rattle.poets_calculus.specs.Normal.{folded, params_in, normal, par, seq}
use Rattle.poets_norm.proofs.Meaning.{Keeps-bound}
use Rattle.poets_way.specs.Way.{Way}
use Rattle.poets_way.specs.Way as W
use Rattle.poets_way.specs.Ways.{Ways, first_of, second_of}
use Rattle.poets_norm.specs.code.Grouping.{beside_parts}
use Rattle.poets_route.specs.code.Choices.{IsAlternative, HasNoFront, HasNoStart}
use Rattle.poets_route.specs.code.Grouping.{Takes}
use Rattle.poets_way.specs.code.Sides.{repeated}
use Rattle.poets_way.specs.Trails.{seconds}
use Rattle.poets_route.specs.code.Undone.{Undoes, UndoesWhole}
use Rattle.poets_route.proofs.Saying.{SaysSame-Ways, folded_alike}
use Rattle.poets_route.proofs.Choices.{of_plus, no_alternative, one_alternative, itself}
use Rattle.poets_route.specs.code.Reading.{IsTake, IsBoth, IsThen}
use Rattle.poets_route.proofs.Regrouped.{regrouped_normal, is_both}
use Rattle.poets_route.proofs.Joined.{par-second, seq-second, of_send, par_with, par_rest, seq_with, seq_rest}
use Rattle.poets_way.proofs.Sided.{length-repeated, all_first, no_second, all_second, no_first, seconds_and_first, length-second, take_all, drop_all, length-taken, length-left}

-- a way of a sequence has a count, at most that of the events
pub is_then : {book : Book} {env : Env} {x y : Contract} {s : List Event} {w : Way} → Ways book env (Seq x y) s w → IsThen (length s) w
is_then (Ways.Then l h k) = IsThen.Then l

-- a way of a transmit takes an event
pub is_take : {book : Book} {env : Env} {b : Binders} {p : Expression} {x : Contract} {s : List Event} {w : Way} →
    Ways book env (Transmit b p x) s w → IsTake w
is_take (Ways.Take q h) = IsTake.Take

-- the one alternative of `Success`
done_in : (c : Contract) → c ≡ Success → IsAlternative c Success
done_in c e = subst (λ x. IsAlternative x Success) (sym e) (itself Success)

module _ (book : Book) (marks : Marks) where
  pub undoes-success : (n : ℕ) (a : Contract) (v : Way) → Undoes book marks n Success a v v
  undoes-success n a v env k s l h way = subst (λ x. Ways book env x s v) (sym (one_alternative Success a h)) way

  pub undoes-failure : (n : ℕ) (a : Contract) (v w : Way) → Undoes book marks n Failure a v w
  undoes-failure n a v w env k s l h way = no_alternative a h

  pub undoes-app : (n : ℕ) (f : Name) (args : List Expression) (a : Contract) (v : Way) → HaveDeclaredLiterals book.declared args →
      Undoes book marks n (App f args) a v v
  undoes-app n f args a v literals env k s l h way = elim (truth (marks.hopeful f)) [
    | inl e ↦ (let q : App f (folded book.declared (params_in book f) args) ≡ a = one_alternative (App f (folded book.declared (params_in book f) args)) a (rw e at h) in
        SaysSame-Ways (folded_alike book env k f args literals) (subst (λ x. Ways book env x s v) (sym q) way))
    | inr e ↦ no_alternative a (rw e at h)
  ]

  module _ (n : ℕ) (b : Binders) (p : Expression) (c : Contract) where
    -- a transmit took the first event
    take_on : (r : Contract) (v w : Way) → AreUndeclared book.declared b → UndoesWhole book marks (n - 1) c r v w →
        {env : Env} → KeepsDeclared book.declared env → {s : List Event} → length s ≡ n → r ≡ normal book marks c →
        Ways book env (Transmit b p r) s (W.Take v) → Ways book env (Transmit b p c) s (W.Take w)
    take_on r v w f h {env} k l e (Ways.Take {e = x} {s = s} q way) =
        Ways.Take q (h (taken b x env) (Keeps-bound book.declared b (values_of x) env f k) s (omega (arith, l)) e way)

    pub undoes-transmit : (a : Contract) (b' : Binders) (p' : Expression) (r : Contract) (v w : Way) → AreUndeclared book.declared b →
        a ≡ Transmit b' p' r → UndoesWhole book marks (n - 1) c r v w → Undoes book marks n (Transmit b p c) a (W.Take v) (W.Take w)
    undoes-transmit a b' p' r v w f whole h env k s l i way =
        let q : Transmit b p (normal book marks c) ≡ Transmit b' p' r = of_send b p (normal book marks c) a i ∙ whole in
        let e : r ≡ normal book marks c = cc in
        let same : a ≡ Transmit b p r = cc in
        take_on r v w f h k l e (subst (λ x. Ways book env x s (W.Take v)) same way)

    -- a way that takes no event, or one of another contract, is none
    pub undoes-transmit_none : (a : Contract) (v w : Way) → (IsTake v → ⊥) → Undoes book marks n (Transmit b p c) a v w
    undoes-transmit_none a v w absent env k s l i way =
        absurd (absent (is_take (subst (λ x. Ways book env x s v) (sym (of_send b p (normal book marks c) a i)) way)))

  pub undoes-right : (n : ℕ) (a b c : Contract) (v w : Way) → IsAlternative (normal book marks b) c → Undoes book marks n b c v w →
      Undoes book marks n (Plus a b) c v (W.Right w)
  undoes-right n a b c v w i h env k s l j way = Ways.Right (h env k s l i way)

  pub undoes-left : (n : ℕ) (a b c : Contract) (v w : Way) → (IsAlternative (normal book marks b) c → ⊥) → Undoes book marks n a c v w →
      Undoes book marks n (Plus a b) c v (W.Left w)
  undoes-left n a b c v w i h env k s l j way = elim (of_plus (normal book marks a) (normal book marks b) c j) [
    | inl x ↦ Ways.Left (h env k s l x way)
    | inr x ↦ absurd (i x)
  ]

  -- side by side with what is over in its normal form
  pub undoes-par_done : (n : ℕ) (a b c : Contract) (v w u : Way) → normal book marks b ≡ Success → Undoes book marks n a c v w →
      Undoes book marks 0 b Success W.Nothing u → Undoes book marks n (Par a b) c v (W.Both (repeated n false) w u)
  undoes-par_done n a b c v w u done h i env k s l j way =
      let alone : par (normal book marks a) (normal book marks b) ≡ normal book marks a = ap (par (normal book marks a)) done ∙ par-second (normal book marks a) in
      Ways.Both (length-repeated n false ∙ sym l)
      (subst (λ x. Ways book env a x w) (sym (all_first n s l)) (h env k s l (subst (λ x. IsAlternative x c) alone j) way))
      (subst (λ x. Ways book env b x u) (sym (no_second n s l)) (i env k [] refl (done_in (normal book marks b) done) Ways.Nothing))

  -- two contracts side by side, the parts of whose way are undone
  module _ (n : ℕ) (a b x y : Contract) (sides : List Bool) (v w v' w' : Way) (h : UndoesWhole book marks (n - min (seconds sides) n) a x v v')
      (i : UndoesWhole book marks (min (seconds sides) n) b y w w') where
    both_on : x ≡ normal book marks a → y ≡ normal book marks b → {env : Env} → KeepsDeclared book.declared env → {s : List Event} → length s ≡ n →
        Ways book env (Par x y) s (W.Both sides v w) → Ways book env (Par a b) s (W.Both sides v' w')
    both_on e q {env} k {s} l (Ways.Both m first second) =
        let all = seconds_and_first sides s m in
        let some = length-second sides s m in
        Ways.Both m (h env k (first_of sides s) (omega (arith, all, l)) e first) (i env k (second_of sides s) (omega (arith, all, some, l)) q second)

    pub undoes-par_both : (c : Contract) (o : Way) → c ≡ beside_parts x y → y ≡ normal book marks b → (y ≡ Success → ⊥) → Takes y o (W.Both sides v w) →
        Undoes book marks n (Par a b) c o (W.Both sides v' w')
    undoes-par_both c o whole q some takes env k s l j way =
        let here : IsAlternative (par (normal book marks a) y) (beside_parts x y) =
        subst (λ d. IsAlternative (par (normal book marks a) y) d) whole (subst (λ z. IsAlternative (par (normal book marks a) z) c) (sym q) j) in
        let e : x ≡ normal book marks a = par_with (normal book marks a) y x (regrouped_normal book marks a) some here in
        both_on e q k l (takes book env x s (subst (λ d. Ways book env d s o) whole way))

  -- a way that has no sides is none
  pub undoes-par_none : (n : ℕ) (a b x y c : Contract) (o v w : Way) → c ≡ beside_parts x y → Takes y o v → (IsBoth v → ⊥) →
      Undoes book marks n (Par a b) c o w
  undoes-par_none n a b x y c o v w whole takes absent env k s l j way =
      absurd (absent (is_both (takes book env x s (subst (λ d. Ways book env d s o) whole way))))

  pub undoes-par_rest : (n : ℕ) (a b c : Contract) (v w u : Way) → (normal book marks b ≡ Success → ⊥) → HasNoFront c (normal book marks b) →
      Undoes book marks 0 a Success W.Nothing u → Undoes book marks n b c v w → Undoes book marks n (Par a b) c v (W.Both (repeated n true) u w)
  undoes-par_rest n a b c v w u some q h i env k s l j way =
      let rest = par_rest (normal book marks a) (normal book marks b) c (regrouped_normal book marks a) some q j in
      Ways.Both (length-repeated n true ∙ sym l)
      (subst (λ x. Ways book env a x u) (sym (no_first n s l)) (h env k [] refl (done_in (normal book marks a) rest.0) Ways.Nothing))
      (subst (λ x. Ways book env b x w) (sym (all_second n s l)) (i env k s l rest.1 way))

  -- the same in sequence
  pub undoes-seq_done : (n : ℕ) (a b c : Contract) (v w u : Way) → normal book marks b ≡ Success → Undoes book marks n a c v w →
      Undoes book marks 0 b Success W.Nothing u → Undoes book marks n (Seq a b) c v (W.Then n w u)
  undoes-seq_done n a b c v w u done h i env k s l j way =
      let alone : seq (normal book marks a) (normal book marks b) ≡ normal book marks a = ap (seq (normal book marks a)) done ∙ seq-second (normal book marks a) in
      Ways.Then (omega (arith, l))
      (subst (λ x. Ways book env a x w) (sym (take_all n s l)) (h env k s l (subst (λ x. IsAlternative x c) alone j) way))
      (subst (λ x. Ways book env b x u) (sym (drop_all n s l)) (i env k [] refl (done_in (normal book marks b) done) Ways.Nothing))

  module _ (n m : ℕ) (a b x y : Contract) (v w v' w' : Way) (h : UndoesWhole book marks m a x v v') (i : UndoesWhole book marks (n - m) b y w w') where
    then_on : x ≡ normal book marks a → y ≡ normal book marks b → {env : Env} → KeepsDeclared book.declared env → {s : List Event} → length s ≡ n →
        Ways book env (Seq x y) s (W.Then m v w) → Ways book env (Seq a b) s (W.Then m v' w')
    then_on e q {env} k {s} l (Ways.Then j first second) =
        Ways.Then j (h env k (take m s) (length-taken m s j) e first)
        (i env k (drop m s) (length-left m s ∙ ap (λ z. z - m) l) q second)

    pub undoes-seq_both : (c : Contract) → c ≡ Seq x y → y ≡ normal book marks b → (y ≡ Success → ⊥) →
        Undoes book marks n (Seq a b) c (W.Then m v w) (W.Then m v' w')
    undoes-seq_both c whole q some env k s l j way =
        let here : IsAlternative (seq (normal book marks a) y) (Seq x y) =
        subst (λ d. IsAlternative (seq (normal book marks a) y) d) whole (subst (λ z. IsAlternative (seq (normal book marks a) z) c) (sym q) j) in
        let e : x ≡ normal book marks a = seq_with (normal book marks a) y x some here in
        then_on e q k l (subst (λ d. Ways book env d s (W.Then m v w)) whole way)

  -- a way that has no count, or too great a one, is none
  pub undoes-seq_none : (n : ℕ) (a b x y c : Contract) (v w : Way) → c ≡ Seq x y → (IsThen n v → ⊥) → Undoes book marks n (Seq a b) c v w
  undoes-seq_none n a b x y c v w whole absent env k s l j way =
      absurd (absent (subst (λ m. IsThen m v) l (is_then (subst (λ d. Ways book env d s v) whole way))))

  pub undoes-seq_rest : (n : ℕ) (a b c : Contract) (v w u : Way) → (normal book marks b ≡ Success → ⊥) → HasNoStart c (normal book marks b) →
      Undoes book marks 0 a Success W.Nothing u → Undoes book marks n b c v w → Undoes book marks n (Seq a b) c v (W.Then 0 u w)
  undoes-seq_rest n a b c v w u some q h i env k s l j way =
      let rest = seq_rest (normal book marks a) (normal book marks b) c some q j in
      Ways.Then (omega arith) (h env k [] refl (done_in (normal book marks a) rest.0) Ways.Nothing) (i env k s l rest.1 way)
