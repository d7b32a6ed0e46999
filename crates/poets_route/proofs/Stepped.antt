-- Steps of undoing, where what is at hand is equal to what is asked.
use Rattle.std.proofs.Common.{◌≡◌, ℕ, ◌-◌, Bool, true, false, List, refl, sym, ◌∙◌, subst}
use Rattle.poets_value.specs.declared.value.Name.{Name}
use Rattle.poets_expr.specs.Expression.{Expression}
use Rattle.poets_syntax.specs.declared.term.Binders.{Binders}
use Rattle.poets_syntax.specs.Contract.{Contract, Success, Failure, Transmit, Par, Seq, App}
use Rattle.poets_syntax.specs.Plain.{Book}
use Rattle.poets_syntax.specs.WellFormed.{IsWellFormed}
use Rattle.poets_meaning.specs.Marks.{Marks}
use Rattle.poets_calculus.specs.Normal.{normal}
use Rattle.poets_norm.specs.code.Grouping.{beside_parts}
use Rattle.poets_way.specs.code.Sides.{repeated}
use Rattle.poets_way.specs.Way.{Way}
use Rattle.poets_way.specs.Way as W
use Rattle.poets_route.specs.code.Choices.{HasNoFront, HasNoStart}
use Rattle.poets_route.specs.code.Grouping.{Takes}
use Rattle.poets_route.specs.code.Reading.{IsTake}
use Rattle.poets_route.specs.code.Undone.{Undoes, UndoesWhole}
use Rattle.poets_route.proofs.Sharing.{SharedWay}
use Rattle.poets_route.proofs.Undone.{undoes-success, undoes-failure, undoes-app, undoes-transmit, undoes-transmit_none, undoes-par_done, undoes-par_rest, undoes-par_both, undoes-seq_rest, undoes-seq_both}

module _ (book : Book) (marks : Marks) where
  module _ (n : ℕ) (a b x y : Contract) (whole : y ≡ normal book marks b) (some : y ≡ Success → ⊥) where
    pub both_undone : (o z : Way) → Takes y o z → (q : SharedWay n z) → (late : List Bool) (u v' w' : Way) → late ≡ q.sides → u ≡ q.second →
        UndoesWhole book marks q.first_count a x q.first v' → UndoesWhole book marks q.second_count b y u w' →
        Undoes book marks n (Par a b) (beside_parts x y) o (W.Both late v' w')
    both_undone o z takes q late u v' w' same part h i =
        subst (λ s. Undoes book marks n (Par a b) (beside_parts x y) o (W.Both s v' w')) (sym same)
        (undoes-par_both book marks n a b x y q.sides q.first q.second v' w' (subst (λ m. UndoesWhole book marks m a x q.first v') q.first_is h)
        (subst (λ m. UndoesWhole book marks m b y q.second w') q.second_is (subst (λ p. UndoesWhole book marks q.second_count b y p w') part i))
        (beside_parts x y) o refl whole some (subst (λ p. Takes y o p) q.is takes))

    pub then_undone : (m : ℕ) (z v u u' v' w' : Way) → z ≡ W.Then m v u → u' ≡ u → UndoesWhole book marks m a x v v' →
        UndoesWhole book marks (n - m) b y u' w' → Undoes book marks n (Seq a b) (Seq x y) z (W.Then m v' w')
    then_undone m z v u u' v' w' head part h i =
        subst (λ q. Undoes book marks n (Seq a b) (Seq x y) q (W.Then m v' w')) (sym head)
        (undoes-seq_both book marks n m a b x y v u v' w' h (subst (λ q. UndoesWhole book marks (n - m) b y q w') part i) (Seq x y) refl whole some)

  pub success_undone : (n : ℕ) (t g : Contract) (v : Way) → t ≡ Success → Undoes book marks n t g v v
  success_undone n t g v whole = subst (λ q. Undoes book marks n q g v v) (sym whole) (undoes-success book marks n g v)

  pub failure_undone : (n : ℕ) (t g : Contract) (v : Way) → t ≡ Failure → Undoes book marks n t g v v
  failure_undone n t g v whole = subst (λ q. Undoes book marks n q g v v) (sym whole) (undoes-failure book marks n g v v)

  pub app_undone : (n : ℕ) (t g : Contract) (v : Way) (f : Name) (args : List Expression) → IsWellFormed book.declared t → t ≡ App f args →
      Undoes book marks n t g v v
  app_undone n t g v f args formed whole =
      let literals : IsWellFormed book.declared (App f args) = subst (IsWellFormed book.declared) whole formed in
      subst (λ q. Undoes book marks n q g v v) (sym whole) (undoes-app book marks n f args g v literals)

  module _ (n : ℕ) (t g : Contract) (b : Binders) (p : Expression) (c : Contract) (whole : t ≡ Transmit b p c) where
    pub take_none : (v w : Way) → (IsTake v → ⊥) → Undoes book marks n t g v w
    take_none v w absent = subst (λ q. Undoes book marks n q g v w) (sym whole) (undoes-transmit_none book marks n b p c g v w absent)

    module _ (b' : Binders) (p' : Expression) (r : Contract) (goal : g ≡ Transmit b' p' r) where
      pub take_undone : (m : ℕ) (c' r' : Contract) (z v w : Way) → IsWellFormed book.declared t → c' ≡ c → r' ≡ r → z ≡ W.Take v → m ≡ n - 1 →
          UndoesWhole book marks m c' r' v w → Undoes book marks n t g z (W.Take w)
      take_undone m c' r' z v w formed same same' head fewer h =
          let f : IsWellFormed book.declared (Transmit b p c) = subst (IsWellFormed book.declared) whole formed in
          let i : UndoesWhole book marks (n - 1) c r v w =
          subst (λ q. UndoesWhole book marks q c r v w) fewer
          (subst (λ q. UndoesWhole book marks m c q v w) same' (subst (λ q. UndoesWhole book marks m q r' v w) same h)) in
          subst (λ q. Undoes book marks n q g z (W.Take w)) (sym whole)
          (subst (λ q. Undoes book marks n (Transmit b p c) g q (W.Take w)) (sym head) (undoes-transmit book marks n b p c g b' p' r v w f.0 goal i))

  -- the normal form of the second contract of two
  module _ (n : ℕ) (a b c y : Contract) (whole : y ≡ normal book marks b) where
    pub par_done : (sides : List Bool) (v w u : Way) → y ≡ Success → sides ≡ repeated n false → Undoes book marks n a c v w →
        Undoes book marks 0 b Success W.Nothing u → Undoes book marks n (Par a b) c v (W.Both sides w u)
    par_done sides v w u done are h i =
        subst (λ s. Undoes book marks n (Par a b) c v (W.Both s w u)) (sym are) (undoes-par_done book marks n a b c v w u (sym whole ∙ done) h i)

    pub par_rest_undone : (sides : List Bool) (v w u : Way) → (y ≡ Success → ⊥) → HasNoFront c y → sides ≡ repeated n true →
        Undoes book marks 0 a Success W.Nothing u → Undoes book marks n b c v w → Undoes book marks n (Par a b) c v (W.Both sides u w)
    par_rest_undone sides v w u some absent are h i =
        subst (λ s. Undoes book marks n (Par a b) c v (W.Both s u w)) (sym are)
        (undoes-par_rest book marks n a b c v w u (λ e. some (whole ∙ e)) (subst (λ q. HasNoFront c q) whole absent) h i)

    pub seq_rest_undone : (v w u : Way) → (y ≡ Success → ⊥) → HasNoStart c y → Undoes book marks 0 a Success W.Nothing u → Undoes book marks n b c v w →
        Undoes book marks n (Seq a b) c v (W.Then 0 u w)
    seq_rest_undone v w u some absent h i =
        undoes-seq_rest book marks n a b c v w u (λ e. some (whole ∙ e)) (subst (λ q. HasNoStart c q) whole absent) h i
