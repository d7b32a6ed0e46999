-- What a contract takes, and what it is open for.
use Rattle.std.proofs.Common.{◌≡◌, ℕ, zero, suc, ◌+◌, List, [], ◌∷◌, ◌++◌, length, refl, sym, ◌∙◌, ap, subst, Some, None, inl, inr, ◌⊎◌, ◌↔◌, if◌then◌else◌}
use Rattle.poets_value.specs.declared.value.Name.{Name}
use Rattle.poets_value.specs.declared.event.Event.{Event}
use Rattle.poets_expr.specs.Expression.{Expression}
use Rattle.poets_syntax.specs.Contract.{Contract, Success, Failure, Transmit, Plus, Par, Seq, App}
use Rattle.poets_syntax.specs.Plain.{Book, Template}
use Rattle.poets_syntax.specs.Book.{template_in, taken}
use Rattle.poets_syntax.specs.Applied.{CountsFit}
use Rattle.poets_syntax.specs.Replace.{replace}
use Rattle.poets_syntax.specs.Givens.{argument_givens}
use Rattle.poets_syntax.specs.WellFormed.{IsWellFormed, IsDeclaredEvent, HaveDeclaredLiterals}
use Rattle.poets_syntax.proofs.Replacing.{truth}
use Rattle.poets_meaning.specs.Between.{Between}
use Rattle.poets_meaning.specs.Exposed.{EachExposed}
use Rattle.poets_meaning.specs.May.{May}
use Rattle.poets_meaning.specs.Marks.{Marks, nullable}
use Rattle.poets_meaning.proofs.Granting.{May-Perf, Perf-May}
use Rattle.poets_meaning.proofs.Nullability.{nullable_in, nullable_performed, EachExposed-fits}
use Rattle.poets_calculus.specs.Exposed.{UnfoldsWithin}
use Rattle.poets_calculus.specs.Normal.{normal}
use Rattle.poets_calculus.specs.Residual.{after, body_of}
use Rattle.poets_calculus.proofs.Unfolded.{unfolds-guarded}
use Rattle.poets_norm.proofs.Hope.{IsHopefulThroughout, IsFailureOrHopeful, hopeful_by_parts, hopeful_unless_failure, failure_is_hopeless, IsFailureOrHopeful-normal}
use Rattle.poets_norm.proofs.Counts.{CountsFit-replace}
use Rattle.poets_residue.specs.Once.{ready_by, ready_at, ready}
use Rattle.poets_residue.specs.Unfolding.{IsStudied}
use Rattle.poets_residue.proofs.Following.{Follows-body, Follows-none, first_event}
use Rattle.poets_residue.proofs.Kept.{IsWellFormed-body, CountsFit-body, IsFailureOrHopeful-after_at}
use Rattle.poets_residue.proofs.Ready.{ready_at-failure}
use Rattle.poets_residue.proofs.Traces.{Follows-after}
use Rattle.poets_residue.proofs.Unfoldings.{found, Follows-after_at}
use Rattle.poets_open.specs.Laws.{SomeStepHolds}
use Rattle.poets_open.specs.Next.{steps_in, next}
use Rattle.poets_open.proofs.Opened.{steps_in-append}
use Rattle.poets_open.proofs.Taking.{TakesSome, takes_first, takes_second, takes_either, taken_once, once_taken}

module _ (book : Book) (marks : Marks) (study : IsStudied book marks) (e : Event) (declared : IsDeclaredEvent book.declared e) where
  -- a step that was found takes the event
  abbrev Takes : List Contract → Type 0
  Takes cs = TakesSome book e (steps_in cs)

  both_first : (xs ys : List Contract) → Takes xs → Takes (xs ++ ys)
  both_first xs ys h = subst (TakesSome book e) (sym (steps_in-append xs ys)) (takes_first book e (steps_in xs) (steps_in ys) h)

  both_second : (xs ys : List Contract) → Takes ys → Takes (xs ++ ys)
  both_second xs ys h = subst (TakesSome book e) (sym (steps_in-append xs ys)) (takes_second book e (steps_in xs) (steps_in ys) h)

  either : (xs ys : List Contract) → Takes (xs ++ ys) → Takes xs ⊎ Takes ys
  either xs ys h = takes_either book e (steps_in xs) (steps_in ys) (subst (TakesSome book e) (steps_in-append xs ys) h)

  -- what is known of the body of an application
  module _ (f : Name) (args : List Expression) (t : Template) (q : template_in book.templates f ≡ Some t) where
    abbrev body : Contract
    body = body_of book marks (Some t) args

    body_formed : HaveDeclaredLiterals book.declared args → IsWellFormed book.declared body
    body_formed literals = IsWellFormed-body book marks t args (study.formed f t q) literals

    body_fits : CountsFit book body
    body_fits = rw q at (CountsFit-body book marks study.fit f args)

    body_hopeful : IsFailureOrHopeful book body
    body_hopeful =
        let given = argument_givens book.declared t.params args in
        IsFailureOrHopeful-normal book marks study.right (replace given t.body) (CountsFit-replace book given t.body (study.fit f t q))

    -- the application and its body take the same
    body_takes : length t.params ≡ length args → HaveDeclaredLiterals book.declared args → (d : ℕ) → UnfoldsWithin d book marks body →
        (s : List Event) (n : ℕ) → May book [] (App f args) (e ∷ s) n ↔ May book [] body (e ∷ s) n
    body_takes l literals d within s n =
        let rest = Follows-after_at book marks study.right e declared study.formed d body within (body_formed literals) in
        let whole = Follows-body book marks study.right e f args t (study.formed f t q) literals q l rest in
        ((λ m. (rest s n).0 ((whole s n).1 m)), (λ m. (whole s n).0 ((rest s n).1 m)))

  -- one unfolding more
  abbrev UnfoldsMore : ℕ → Name → List Expression → Type 0
  UnfoldsMore d f args =
      (t : Template) → template_in book.templates f ≡ Some t → (length t.params ≡ length args) × UnfoldsWithin d book marks (body_of book marks (Some t) args)

  -- nothing takes an event where there is no template
  none_takes : (f : Name) (args : List Expression) → template_in book.templates f ≡ None → (s : List Event) (n : ℕ) → May book [] (App f args) (e ∷ s) n → ⊥
  none_takes f args none s n m = let k : May book [] Failure s n = (Follows-none book e f args none s n).1 m in elim k [ ]

  -- what takes the event is open for it
  takes_by : (u : Name → List Expression → List Contract) (Is : Name → List Expression → Type 0) →
      ((f : Name) (args : List Expression) → Is f args → HaveDeclaredLiterals book.declared args → (s : List Event) (n : ℕ) →
      May book [] (App f args) (e ∷ s) n → Takes (u f args)) →
      (c : Contract) → EachExposed Is marks c → IsWellFormed book.declared c → (s : List Event) (n : ℕ) → May book [] c (e ∷ s) n → Takes (ready_by u marks c)
  takes_by u Is unfolded Success x h s n m = absurd (elim m [ ])
  takes_by u Is unfolded Failure x h s n m = absurd (elim m [ ])
  takes_by u Is unfolded (Transmit b p c) x h s n (May.Taken q m) = inl q
  takes_by u Is unfolded (Plus a b) x h s n (May.Left m) =
      both_first (ready_by u marks a) (ready_by u marks b) (takes_by u Is unfolded a x.0 h.0 s n m)
  takes_by u Is unfolded (Plus a b) x h s n (May.Right m) =
      both_second (ready_by u marks a) (ready_by u marks b) (takes_by u Is unfolded b x.1 h.1 s n m)
  takes_by u Is unfolded (Par a b) x h s n (May.Beside {s₁ = _ ∷ s₁} {n₁ = n₁} (Between.First i) q m₁ m₂) =
      both_first (ready_by u marks a) (ready_by u marks b) (takes_by u Is unfolded a x.0 h.0 s₁ n₁ m₁)
  takes_by u Is unfolded (Par a b) x h s n (May.Beside {s₂ = _ ∷ s₂} {n₂ = n₂} (Between.Second i) q m₁ m₂) =
      both_second (ready_by u marks a) (ready_by u marks b) (takes_by u Is unfolded b x.1 h.1 s₂ n₂ m₂)
  takes_by u Is unfolded (Seq a b) x h s n (May.ThenGranted {n₁ = n₁} q m₁ m₂) =
      both_first (ready_by u marks a) (if nullable marks a then ready_by u marks b else []) (takes_by u Is unfolded a x.0 h.0 s n₁ m₁)
  takes_by u Is unfolded (Seq a b) x h s n (May.Then {s₁ = s₁} {s₂ = s₂} q m₁ m₂) = first_event q
      (λ i j.
      let over = nullable_in book marks study.right (May-Perf (subst (λ r. May book [] a r 0) i m₁) refl) refl in
      let later = takes_by u Is unfolded b (x.1 over) h.1 s n (subst (λ r. May book [] b r n) (sym j) m₂) in
      both_second (ready_by u marks a) (if nullable marks a then ready_by u marks b else [])
      (rw over later))
      (λ s' i j.
      both_first (ready_by u marks a) (if nullable marks a then ready_by u marks b else [])
      (takes_by u Is unfolded a x.0 h.0 s' 0 (subst (λ r. May book [] a r 0) i m₁)))
  takes_by u Is unfolded (App f args) x h s n m = unfolded f args x h s n m

  takes_at : (d : ℕ) (c : Contract) → UnfoldsWithin d book marks c → IsWellFormed book.declared c → (s : List Event) (n : ℕ) →
      May book [] c (e ∷ s) n → Takes (ready_at d book marks c)
  takes_at zero c x h s n m =
      takes_by (λ _ _. []) (λ f args. template_in book.templates f ≡ None) (λ f args none _ s n m. none_takes f args none s n m) c x h s n m
  takes_at (suc d) c x h s n m =
      takes_by (λ f args. ready_at d book marks (body_of book marks (template_in book.templates f) args))
      (UnfoldsMore d)
      (λ f args k literals s n m. elim (found (template_in book.templates f)) [
        | inl none ↦ absurd (none_takes f args none s n m)
        | inr here ↦ (
            let more = k here.0 here.1 in
            rw here.1 (takes_at d (body f args here.0 here.1) more.1 (body_formed f args here.0 here.1 literals) s n
            ((body_takes f args here.0 here.1 more.0 literals d more.1 s n).0 m))
            )
      ]) c x h s n m

  -- the event alone, and then some granted steps, perform the contract
  abbrev Begins : Contract → Type 0
  Begins c = (n : ℕ) × May book [] c (e ∷ []) n

  -- what is open for the event takes it
  begins_by : (u : Name → List Expression → List Contract) (Is : Name → List Expression → Type 0) →
      ((f : Name) (args : List Expression) → Is f args → HaveDeclaredLiterals book.declared args → Takes (u f args) → Begins (App f args)) →
      (c : Contract) → EachExposed Is marks c → IsWellFormed book.declared c → CountsFit book c → IsHopefulThroughout book c → Takes (ready_by u marks c) → Begins c
  begins_by u Is unfolded Success x h k p t = absurd t
  begins_by u Is unfolded Failure x h k p t = absurd t
  begins_by u Is unfolded (Transmit b q c) x h k p (inl t) = let m = hopeful_by_parts book c p (taken b e []) in (m.0, May.Taken t m.1)
  begins_by u Is unfolded (Transmit b q c) x h k p (inr t) = absurd t
  begins_by u Is unfolded (Plus a b) x h k p t = elim (either (ready_by u marks a) (ready_by u marks b) t) [
    | inl i ↦ (let m = begins_by u Is unfolded a x.0 h.0 k.0 p.0 i in (m.0, May.Left m.1))
    | inr i ↦ (let m = begins_by u Is unfolded b x.1 h.1 k.1 p.1 i in (m.0, May.Right m.1))
  ]
  begins_by u Is unfolded (Par a b) x h k p t = elim (either (ready_by u marks a) (ready_by u marks b) t) [
    | inl i ↦ (
        let m = begins_by u Is unfolded a x.0 h.0 k.0 p.0 i in
        let r = hopeful_by_parts book b p.1 [] in
        (m.0 + r.0, May.Beside (Between.First Between.Empty) refl m.1 r.1)
        )
    | inr i ↦ (
        let m = begins_by u Is unfolded b x.1 h.1 k.1 p.1 i in
        let r = hopeful_by_parts book a p.0 [] in
        (r.0 + m.0, May.Beside (Between.Second Between.Empty) refl r.1 m.1)
        )
  ]
  begins_by u Is unfolded (Seq a b) x h k p t = elim (either (ready_by u marks a) (if nullable marks a then ready_by u marks b else []) t) [
    | inl i ↦ (
        let m = begins_by u Is unfolded a x.0 h.0 k.0 p.0 i in
        let r = hopeful_by_parts book b p.1 [] in
        (m.0 + r.0, May.ThenGranted refl m.1 r.1)
        )
    | inr i ↦ elim (truth (nullable marks a)) [
      | inl over ↦ (
          let later : Takes (ready_by u marks b) = rw over at i in
          let m = begins_by u Is unfolded b (x.1 over) h.1 k.1 p.1 later in
          let ended = nullable_performed book marks study.right [] a (EachExposed-fits book marks a k.0) over in
          (m.0, May.Then refl (Perf-May ended) m.1)
          )
      | inr going ↦ (let none : Takes [] = rw going at i in absurd none)
    ]
  ]
  begins_by u Is unfolded (App f args) x h k p t = unfolded f args x h t

  begins_at : (d : ℕ) (c : Contract) → UnfoldsWithin d book marks c → IsWellFormed book.declared c → CountsFit book c → IsFailureOrHopeful book c →
      Takes (ready_at d book marks c) → Begins c
  begins_at d c x h k (inl q) t =
      let none : Takes [] = subst Takes (ap (ready_at d book marks) q ∙ ready_at-failure book marks d) t in
      absurd none
  begins_at zero c x h k (inr p) t =
      begins_by (λ _ _. []) (λ f args. template_in book.templates f ≡ None) (λ f args none _ t. absurd t) c x h k p t
  begins_at (suc d) c x h k (inr p) t =
      begins_by (λ f args. ready_at d book marks (body_of book marks (template_in book.templates f) args))
      (UnfoldsMore d)
      (λ f args k literals t. elim (found (template_in book.templates f)) [
        | inl none ↦ (
            let nothing : Takes [] = subst Takes (ap (λ o. ready_at d book marks (body_of book marks o args)) none ∙ ready_at-failure book marks d) t in
            absurd nothing
            )
        | inr here ↦ (
            let more = k here.0 here.1 in
            let i = subst Takes (ap (λ o. ready_at d book marks (body_of book marks o args)) here.1) t in
            let m = begins_at d (body f args here.0 here.1) more.1 (body_formed f args here.0 here.1 literals) (body_fits f args here.0 here.1)
            (body_hopeful f args here.0 here.1) i in
            (m.0, (body_takes f args here.0 here.1 more.0 literals d more.1 [] m.0).1 m.1)
            )
      ]) c x h k p t

  module _ (c : Contract) (formed : IsWellFormed book.declared c) (fits : CountsFit book c) (normal_form : normal book marks c ≡ c) where
    unfolds : UnfoldsWithin (length book.templates) book marks c
    unfolds = unfolds-guarded book marks study.right study.guarded study.fit c fits

    hope : IsFailureOrHopeful book c
    hope = subst (IsFailureOrHopeful book) normal_form (IsFailureOrHopeful-normal book marks study.right c fits)

    -- what goes on is open for the event
    pub goes_on : (after book marks e c ≡ Failure → ⊥) → SomeStepHolds book e (next book marks c)
    goes_on unless =
        let later = IsFailureOrHopeful-after_at book marks study.right study.fit e (length book.templates) c fits hope in
        let more = hopeful_unless_failure book (after book marks e c) later unless in
        let m = (Follows-after book marks study e declared c formed fits [] more.0).0 more.1 in
        taken_once book e (steps_in (ready book marks c)) (takes_at (length book.templates) c unfolds formed [] more.0 m)

    -- what is open for the event goes on
    pub taken_on : SomeStepHolds book e (next book marks c) → after book marks e c ≡ Failure → ⊥
    taken_on t q =
        let m = begins_at (length book.templates) c unfolds formed fits hope (once_taken book e (steps_in (ready book marks c)) t) in
        failure_is_hopeless book (after book marks e c) q (m.0, (Follows-after book marks study e declared c formed fits [] m.0).1 m.1)
