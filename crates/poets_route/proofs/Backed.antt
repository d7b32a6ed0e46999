-- Steps back over an event, where what is at hand is equal to what is asked.
use Rattle.std.proofs.Common.{◌≡◌, ℕ, suc, ◌+◌, arith, Bool, true, false, List, [], ◌∷◌, Some, ◌<◌, refl, sym, ◌∙◌, ap, subst}
use Rattle.poets_value.specs.declared.value.Name.{Name}
use Rattle.poets_value.specs.declared.event.Event.{Event}
use Rattle.poets_expr.specs.Expression.{Expression}
use Rattle.poets_syntax.specs.declared.term.Binders.{Binders}
use Rattle.poets_syntax.specs.Applied.{CountsFit}
use Rattle.poets_syntax.specs.Contract.{Contract, Success, Transmit, Par, Seq, App}
use Rattle.poets_meaning.specs.Marks.{Marks, nullable}
use Rattle.poets_meaning.specs.Width.{width}
use Rattle.poets_residue.proofs.Widths.{width-seq}
use Rattle.poets_syntax.specs.Book.{template_in}
use Rattle.poets_syntax.specs.Plain.{Book, Template}
use Rattle.poets_syntax.specs.Replace.{replace}
use Rattle.poets_syntax.specs.Givens.{event_givens, argument_givens}
use Rattle.poets_syntax.specs.WellFormed.{HaveDeclaredLiterals, IsWellFormed, IsDeclaredEvent}
use Rattle.poets_syntax.proofs.Givens.{HaveDeclaredNames-arguments, env_of-arguments}
use Rattle.poets_calculus.specs.Normal.{normal, par}
use Rattle.poets_calculus.specs.Residual.{after}
use Rattle.poets_residue.specs.Unfolding.{IsStudied}
use Rattle.poets_residue.proofs.Equations.{after-some}
use Rattle.poets_norm.specs.code.Grouping.{beside_parts}
use Rattle.poets_way.specs.code.Sides.{repeated}
use Rattle.poets_way.specs.Way.{Way}
use Rattle.poets_way.specs.Way as W
use Rattle.poets_way.specs.Ways.{Ways}
use Rattle.poets_route.specs.code.Back.{Backs, BacksBody, BacksWhole, ByFirst, BySecond, Begins, IsReady}
use Rattle.poets_route.specs.code.Choices.{IsAlternative, Embeds, HasNoFront, HasNoStart}
use Rattle.poets_route.specs.code.Grouping.{Takes}
use Rattle.poets_route.specs.code.Reading.{IsBoth}
use Rattle.poets_route.specs.code.Undone.{Ends, Undoes, UndoesWhole}
use Rattle.poets_route.proofs.Saying.{replaced_way}
use Rattle.poets_route.proofs.Sharing.{SharedWay}
use Rattle.poets_route.proofs.Backing.{backs-transmit, backs-first, second-done, second-both, second-none, first-both, first-rest, begins-both, begins-rest, backs-over}
use Rattle.poets_route.proofs.Ready.{ready_after, ready_grouped, ready_par, ready_seq, not_success}

-- the second part of a sequence whose first part may end is narrower
pub second_narrower : (book : Book) (marks : Marks) (a b : Contract) → nullable marks a ≡ true → width book marks b < width book marks (Seq a b)
second_narrower book marks a b h = let whole = rw h at (width-seq book marks a b) in omega (arith, whole)

module _ (book : Book) (marks : Marks) (e : Event) where
  module _ (n : ℕ) (t : Contract) (declared : IsDeclaredEvent book.declared e) (ready : IsReady book marks t) where
    pub transmit_backed : (a : Contract) (b : Binders) (p : Expression) (c c' : Contract) (v w : Way) → t ≡ Transmit b p c → c' ≡ c →
        Undoes book marks n (replace (event_givens b e) c') a v w → Backs book marks e n t a v (W.Take w)
    transmit_backed a b p c c' v w whole same h =
        let f : IsWellFormed book.declared (Transmit b p c) = subst (IsWellFormed book.declared) whole ready.formed.formed in
        subst (λ q. Backs book marks e n q a v (W.Take w)) (sym whole)
        (backs-transmit book marks e n b p c a v w declared f.1 (subst (λ q. Undoes book marks n (replace (event_givens b e) q) a v w) same h))

  -- two contracts side by side, and what the event leaves of the second one
  module _ (n : ℕ) (a b r : Contract) (same : r ≡ after book marks e b) where
    pub first_backed : (c : Contract) (v w : Way) → (IsAlternative (par a r) c → ⊥) → ByFirst book marks e n a b c v w → Backs book marks e n (Par a b) c v w
    first_backed c v w i h = backs-first book marks e n a b c v w (λ j. i (subst (λ q. IsAlternative (par a q) c) (sym same) j)) h

    pub second_done : (c : Contract) (sides rest : List Bool) (v u w : Way) → r ≡ Success → sides ≡ true ∷ rest → rest ≡ repeated n false →
        Embeds a c v u → Backs book marks e 0 b Success W.Nothing w → BySecond book marks e n a b c v (W.Both sides u w)
    second_done c sides rest v u w done whose others embed h =
        subst (λ s. BySecond book marks e n a b c v (W.Both s u w)) (sym (whose ∙ ap (λ s. true ∷ s) others))
        (second-done book marks e n a b c v u w (sym same ∙ done) embed h)

    module _ (ready : IsReady book marks (Par a b)) (more : r ≡ Success → ⊥) where
      pub second_both : (c : Contract) (o z : Way) → Takes r o z → (q : SharedWay n z) (sides : List Bool) (v w : Way) → sides ≡ true ∷ q.sides →
          v ≡ q.first → BacksWhole book marks e q.second_count b r q.second w → BySecond book marks e n a b c o (W.Both sides v w)
      second_both c o z takes q sides v w whose first h =
          let parts = ready_par book marks a b ready in
          subst (λ s. BySecond book marks e n a b c o (W.Both s v w)) (sym whose)
          (subst (λ x. BySecond book marks e n a b c o (W.Both (true ∷ q.sides) x w)) (sym first)
          (second-both book marks e n a b r same (ready_grouped book marks a parts.0) parts.2 more c q.sides o q.first q.second w
          (subst (λ x. Takes r o x) q.is takes) (subst (λ m. BacksWhole book marks e m b r q.second w) q.second_is h)))

      pub second_none : (c : Contract) (o v w : Way) → Takes r o v → (IsBoth v → ⊥) → BySecond book marks e n a b c o w
      second_none c o v w takes absent =
          let parts = ready_par book marks a b ready in
          second-none book marks e n a b r same (ready_grouped book marks a parts.0) parts.2 more c o v w takes absent

  module _ (n : ℕ) (a b : Contract) (declared : IsDeclaredEvent book.declared e) (ready : IsReady book marks (Par a b)) where
    pub first_both : (x c : Contract) → c ≡ beside_parts x b → (o z : Way) → Takes b o z → (q : SharedWay n z) (sides : List Bool) (u : Way) {w : Way} →
        sides ≡ false ∷ q.sides → u ≡ q.second → BacksWhole book marks e q.first_count a x q.first w → ByFirst book marks e n a b c o (W.Both sides w u)
    first_both x c whole o z takes q sides u {w} whose second h =
        let parts = ready_par book marks a b ready in
        subst (λ s. ByFirst book marks e n a b c o (W.Both s w u)) (sym whose)
        (subst (λ y. ByFirst book marks e n a b c o (W.Both (false ∷ q.sides) w y)) (sym second)
        (first-both book marks e n a b (ready_grouped book marks (after book marks e a) (ready_after book marks e declared a parts.0))
        (not_success b parts.3) x c q.sides o q.first q.second w whole (subst (λ y. Takes b o y) q.is takes)
        (subst (λ m. BacksWhole book marks e m a x q.first w) q.first_is h)))

    pub first_rest : (c : Contract) (sides rest : List Bool) (v u w : Way) → HasNoFront c b → sides ≡ false ∷ rest → rest ≡ repeated n true →
        Embeds b c v u → Backs book marks e 0 a Success W.Nothing w → ByFirst book marks e n a b c v (W.Both sides w u)
    first_rest c sides rest v u w q whose others embed h =
        let parts = ready_par book marks a b ready in
        subst (λ s. ByFirst book marks e n a b c v (W.Both s w u)) (sym (whose ∙ ap (λ s. false ∷ s) others))
        (first-rest book marks e n a b (ready_grouped book marks (after book marks e a) (ready_after book marks e declared a parts.0))
        (not_success b parts.3) c v u w q embed h)

  -- in sequence
  module _ (n : ℕ) (a b : Contract) (ready : IsReady book marks (Seq a b)) where
    pub begun_both : (m : ℕ) (x c : Contract) (z v u u' w : Way) → c ≡ Seq x b → z ≡ W.Then m v u → u' ≡ u → BacksWhole book marks e m a x v w →
        Begins book marks e n a b c z (W.Then (m + 1) w u')
    begun_both m x c z v u u' w whole head second h =
        let one : m + 1 ≡ suc m = omega arith in
        subst (λ q. Begins book marks e n a b c q (W.Then (m + 1) w u')) (sym head)
        (subst (λ q. Begins book marks e n a b c (W.Then m v u) (W.Then q w u')) (sym one)
        (subst (λ q. Begins book marks e n a b c (W.Then m v u) (W.Then (suc m) w q)) (sym second)
        (begins-both book marks e n m a b x c v u w (ready_seq book marks a b ready).2 whole h)))

    pub begun_rest : (c : Contract) (v u w : Way) → HasNoStart c b → Embeds b c v u → Backs book marks e 0 a Success W.Nothing w →
        Begins book marks e n a b c v (W.Then 1 w u)
    begun_rest c v u w q embed h = begins-rest book marks e n a b c v u w (ready_seq book marks a b ready).2 q embed h

  pub over_backed : (n : ℕ) (a b c : Contract) (v v' w u : Way) → IsAlternative (after book marks e b) c → v' ≡ v → Ends book a u → Backs book marks e n b c v' w →
      Backs book marks e n (Seq a b) c v (W.Then 0 u w)
  over_backed n a b c v v' w u i same end h =
      backs-over book marks e n a b c v w u i end (subst (λ x. Backs book marks e n b c x w) same h)

  -- of a body
  pub body_backed : (n : ℕ) (d r a : Contract) (v w u : Way) → r ≡ normal book marks d → Backs book marks e n r a v w →
      UndoesWhole book marks (n + 1) d r w u → BacksBody book marks e n d a v u
  body_backed n d r a v w u same h i s l j from =
      let there = h s l (subst (λ x. IsAlternative (after book marks e x) a) (sym same) j) from in
      i [] (λ x y. refl) (e ∷ s) (omega (arith, l)) same there

  -- of an application, whose template this is
  module _ (study : IsStudied book marks) (f : Name) (args : List Expression) (t : Template) (q : template_in book.templates f ≡ Some t)
      (fit : CountsFit book (App f args)) (literals : HaveDeclaredLiterals book.declared args) where
    pub app_backed : (n : ℕ) (d a : Contract) (v u : Way) → d ≡ replace (argument_givens book.declared t.params args) t.body →
        BacksBody book marks e n d a v u → Backs book marks e n (App f args) a v (W.Enter u)
    app_backed n d a v u same h s l j way =
        let given = argument_givens book.declared t.params args in
        let k = subst (λ x. IsAlternative x a) (after-some book marks e study f args fit t q) j in
        let here = subst (λ x. IsAlternative (after book marks e (normal book marks x)) a) (sym same) k in
        let whole = subst (λ x. Ways book [] x (e ∷ s) u) same (h s l here way) in
        Ways.Enter q (fit t q)
        (subst (λ env. Ways book env t.body (e ∷ s) u) (env_of-arguments book.declared t.params args)
        (replaced_way book given t.body (HaveDeclaredNames-arguments book.declared t.params args literals) (study.formed f t q) whole))
