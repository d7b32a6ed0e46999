-- Ways of the empty trace.
use Rattle.std.proofs.Common.{◌≡◌, ◌<◌, arith, Bool, true, ◌||◌, List, [], map, refl, sym, ◌∙◌, ap, subst, Some, inl, inr}
use Rattle.poets_value.specs.declared.value.Name.{Name}
use Rattle.poets_expr.specs.Expression.{Expression}
use Rattle.poets_expr.specs.Val.{val}
use Rattle.poets_syntax.specs.Contract.{Contract, Success, Plus, Par, Seq, App}
use Rattle.poets_syntax.specs.Plain.{Book, Template}
use Rattle.poets_syntax.specs.Book.{template_in, parameter_env}
use Rattle.poets_meaning.specs.Marks.{Marks, nullable}
use Rattle.poets_meaning.specs.Perf.{Perf}
use Rattle.poets_meaning.specs.Width.{width}
use Rattle.poets_meaning.proofs.Nullability.{either_true, nullable_in, nullable_performed, EachExposed-fits}
use Rattle.poets_residue.proofs.Widths.{width-app}
use Rattle.poets_way.specs.Way.{Way}
use Rattle.poets_way.specs.Way as W
use Rattle.poets_way.specs.Ways.{Ways}
use Rattle.poets_route.specs.code.Undone.{Ends, IsFormed}
use Rattle.poets_route.proofs.Ready.{formed_plus}

module _ (book : Book) (marks : Marks) where
  -- a part at hand may end
  pub ends_first : (c a b d d' : Contract) → c ≡ Plus a b → d ≡ a → d' ≡ a → IsFormed book marks c → Perf book [] d [] →
      IsFormed book marks d' × (nullable marks d' ≡ true)
  ends_first c a b d d' whole first first' f p =
      let both = formed_plus book marks a b (subst (IsFormed book marks) whole f) in (
        subst (IsFormed book marks) (sym first') both.0,
        nullable_in book marks f.studied.right (subst (λ x. Perf book [] x []) (first ∙ sym first') p) refl,
      )

  pub ends_last : (c a b d d' : Contract) → c ≡ Plus a b → d ≡ a → d' ≡ b → IsFormed book marks c → nullable marks c ≡ true → (Perf book [] d [] → ⊥) →
      IsFormed book marks d' × (nullable marks d' ≡ true)
  ends_last c a b d d' whole first last f e absent =
      let g = subst (IsFormed book marks) whole f in
      let both = formed_plus book marks a b g in
      let either : (nullable marks a || nullable marks b) ≡ true = ap (nullable marks) (sym whole) ∙ e in (
        subst (IsFormed book marks) (sym last) both.1,
        ap (nullable marks) last ∙ elim (either_true (nullable marks a) (nullable marks b) either) [
          | inl h ↦ absurd (absent (subst (λ x. Perf book [] x []) (sym first)
              (nullable_performed book marks f.studied.right [] a (EachExposed-fits book marks a both.0.fits) h)))
          | inr h ↦ h
        ],
      )

  -- a template's body may end where its application may
  pub ends_body : (c : Contract) (f : Name) (args : List Expression) (t : Template) → c ≡ App f args → template_in book.templates f ≡ Some t →
      IsFormed book marks c → nullable marks c ≡ true → IsFormed book marks t.body × (nullable marks t.body ≡ true)
  ends_body c f args t whole q formed e =
      let study = formed.studied in
      let marked : marks.nullable f ≡ true = ap (nullable marks) (sym whole) ∙ e in
      let body = (study.right.nullable f).0 marked in
      let same : body.0 ≡ t = (let k : Some body.0 ≡ Some t = sym body.1 ∙ q in cc) in (
        record { studied = study; formed = study.formed f t q; fits = study.fit f t q },
        nullable_in book marks study.right (subst (λ u. Perf book [] u.body []) same body.2) refl,
      )

  pub body_narrower : (c : Contract) (f : Name) (args : List Expression) (t : Template) → c ≡ App f args → template_in book.templates f ≡ Some t →
      IsFormed book marks c → width book marks t.body < width book marks c
  body_narrower c f args t whole q formed =
      let g = subst (IsFormed book marks) whole formed in
      omega (arith, ap (width book marks) whole, width-app book marks g.studied f args g.fits t q)

  -- the ways
  pub ends-nothing : (c : Contract) → c ≡ Success → Ends book c W.Nothing
  ends-nothing c whole env = subst (λ x. Ways book env x [] W.Nothing) (sym whole) Ways.Nothing

  pub ends-left : (c a b d : Contract) (v : Way) → c ≡ Plus a b → d ≡ a → Ends book d v → Ends book c (W.Left v)
  ends-left c a b d v whole first h env =
      subst (λ x. Ways book env x [] (W.Left v)) (sym whole) (Ways.Left (subst (λ x. Ways book env x [] v) first (h env)))

  pub ends-right : (c a b d : Contract) (v : Way) → c ≡ Plus a b → d ≡ b → Ends book d v → Ends book c (W.Right v)
  ends-right c a b d v whole last h env =
      subst (λ x. Ways book env x [] (W.Right v)) (sym whole) (Ways.Right (subst (λ x. Ways book env x [] v) last (h env)))

  -- of two contracts that end
  module _ (a b d d' : Contract) (first : d ≡ a) (last : d' ≡ b) (v u : Way) (h : Ends book d v) (k : Ends book d' u) where
    pub ends-both : (c : Contract) (sides : List Bool) → c ≡ Par a b → sides ≡ [] → Ends book c (W.Both sides v u)
    ends-both c sides whole none env =
        subst (λ x. Ways book env x [] (W.Both sides v u)) (sym whole) (subst (λ s. Ways book env (Par a b) [] (W.Both s v u)) (sym none)
        (Ways.Both refl (subst (λ x. Ways book env x [] v) first (h env)) (subst (λ x. Ways book env x [] u) last (k env))))

    pub ends-then : (c : Contract) → c ≡ Seq a b → Ends book c (W.Then 0 v u)
    ends-then c whole env =
        subst (λ x. Ways book env x [] (W.Then 0 v u)) (sym whole)
        (Ways.Then (omega arith) (subst (λ x. Ways book env x [] v) first (h env)) (subst (λ x. Ways book env x [] u) last (k env)))

  pub ends-enter : (c : Contract) (f : Name) (args : List Expression) (t : Template) (v : Way) → c ≡ App f args → template_in book.templates f ≡ Some t →
      IsFormed book marks c → Ends book t.body v → Ends book c (W.Enter v)
  ends-enter c f args t v whole q formed h env =
      let g = subst (IsFormed book marks) whole formed in
      subst (λ x. Ways book env x [] (W.Enter v)) (sym whole)
      (Ways.Enter q (g.fits t q) (h (parameter_env t.params (map (val book.declared env) args))))
