-- The steps of each form of contract, from those of its parts.
use Rattle.std.proofs.Common.{◌≡◌, ◌<◌, ◌+◌, arith, Bool, true, false, List, [], ◌∷◌, ◌++◌, length, map, refl, sym, ◌∙◌, ap, subst, Result, Some, None, inl, inr, ◌↔◌, append-nil, if◌then◌else◌}
use Rattle.std.specs.Prelude.{OnOk, IsTrue}
use Rattle.std.specs.List.{list_any}
use Rattle.std.proofs.lemmas.List.Sums.{fold-append}
use Rattle.std.proofs.lemmas.Result.{on_ok_weaker}
use Rattle.poets_value.specs.declared.value.Name.{Name}
use Rattle.poets_expr.specs.Expression.{Expression}
use Rattle.poets_syntax.specs.Applied.{CountsFit}
use Rattle.poets_syntax.specs.Book.{template_in}
use Rattle.poets_syntax.specs.Contract.{Contract, Success, Failure, Transmit, Plus, Par, Seq, App}
use Rattle.poets_syntax.specs.Plain.{Book, Template}
use Rattle.poets_syntax.proofs.Replacing.{truth}
use Rattle.poets_meaning.specs.Marks.{Marks, nullable}
use Rattle.poets_meaning.specs.Perf.{Perf}
use Rattle.poets_meaning.specs.Width.{width}
use Rattle.poets_meaning.proofs.Nullability.{nullable_in, nullable_performed, EachExposed-fits}
use Rattle.poets_calculus.specs.Residual.{body_of}
use Rattle.poets_residue.specs.Once.{ready}
use Rattle.poets_residue.specs.Unfolding.{IsStudied}
use Rattle.poets_residue.proofs.Kept.{CountsFit-body}
use Rattle.poets_residue.proofs.Ready.{ready_at-failure, ready_at-plus, ready_at-par, ready_at-seq, ready-unfolded}
use Rattle.poets_residue.proofs.Widths.{width-seq, body-smaller}
use Rattle.poets_open.specs.Next.{Step, steps_in}
use Rattle.poets_open.specs.code.Opened.{added, added_all}

pub list_any-map : {A B : Type 0} (test : B → Bool) (f : A → B) (xs : List A) → list_any (λ x. test (f x)) xs ≡ list_any test (map f xs)
list_any-map test f [] = refl
list_any-map test f (x ∷ xs) = rw (list_any-map test f xs) refl

-- the steps of two lists
pub steps_in-append : (xs ys : List Contract) → steps_in (xs ++ ys) ≡ steps_in xs ++ steps_in ys
steps_in-append [] ys = refl
steps_in-append (Success ∷ xs) ys = steps_in-append xs ys
steps_in-append (Failure ∷ xs) ys = steps_in-append xs ys
steps_in-append (Transmit b p c ∷ xs) ys = ap (λ ts. record { binders = b; when = p } ∷ ts) (steps_in-append xs ys)
steps_in-append (Plus a b ∷ xs) ys = steps_in-append xs ys
steps_in-append (Par a b ∷ xs) ys = steps_in-append xs ys
steps_in-append (Seq a b ∷ xs) ys = steps_in-append xs ys
steps_in-append (App f args ∷ xs) ys = steps_in-append xs ys

-- the steps of a first list were listed, and then those of a second
listed_on : (old mid new xs ys : List Step) → mid ≡ added_all old xs → new ≡ added_all mid ys → new ≡ added_all old (xs ++ ys)
listed_on old mid new xs ys first second = second ∙ ap (λ ts. added_all ts ys) first ∙ sym (fold-append added old xs ys)

module _ (book : Book) (marks : Marks) where
  -- the steps of a contract, also those that are equal
  abbrev pub opened : Contract → List Step
  opened c = steps_in (ready book marks c)

  opened-plus : (a b : Contract) → opened (Plus a b) ≡ opened a ++ opened b
  opened-plus a b = ap steps_in (ready_at-plus book marks (length book.templates) a b) ∙ steps_in-append (ready book marks a) (ready book marks b)

  opened-par : (a b : Contract) → opened (Par a b) ≡ opened a ++ opened b
  opened-par a b = ap steps_in (ready_at-par book marks (length book.templates) a b) ∙ steps_in-append (ready book marks a) (ready book marks b)

  opened-over : (a b : Contract) → nullable marks a ≡ true → opened (Seq a b) ≡ opened a ++ opened b
  opened-over a b over =
      ap steps_in (ready_at-seq book marks (length book.templates) a b ∙ ap (λ v. ready book marks a ++ (if v then ready book marks b else [])) over)
      ∙ steps_in-append (ready book marks a) (ready book marks b)

  opened-going : (a b : Contract) → nullable marks a ≡ false → opened (Seq a b) ≡ opened a
  opened-going a b going =
      ap steps_in (ready_at-seq book marks (length book.templates) a b ∙ ap (λ v. ready book marks a ++ (if v then ready book marks b else [])) going
      ∙ append-nil (ready book marks a))

  -- where both parts were listed, the whole was
  pub plus_listed : {E : Type 0} (r : Result (Unit {0}) E) (t a b : Contract) (old mid new : List Step) → t ≡ Plus a b → mid ≡ added_all old (opened a) →
      OnOk r (new ≡ added_all mid (opened b)) → OnOk r (new ≡ added_all old (opened t))
  plus_listed r t a b old mid new is first =
      on_ok_weaker r (λ second. listed_on old mid new (opened a) (opened b) first second ∙ ap (added_all old) (sym (ap opened is ∙ opened-plus a b)))

  pub par_listed : {E : Type 0} (r : Result (Unit {0}) E) (t a b : Contract) (old mid new : List Step) → t ≡ Par a b → mid ≡ added_all old (opened a) →
      OnOk r (new ≡ added_all mid (opened b)) → OnOk r (new ≡ added_all old (opened t))
  par_listed r t a b old mid new is first =
      on_ok_weaker r (λ second. listed_on old mid new (opened a) (opened b) first second ∙ ap (added_all old) (sym (ap opened is ∙ opened-par a b)))

  pub over_listed : {E : Type 0} (r : Result (Unit {0}) E) (t a b : Contract) (old mid new : List Step) → t ≡ Seq a b → nullable marks a ≡ true →
      mid ≡ added_all old (opened a) → OnOk r (new ≡ added_all mid (opened b)) → OnOk r (new ≡ added_all old (opened t))
  over_listed r t a b old mid new is over first =
      on_ok_weaker r (λ second. listed_on old mid new (opened a) (opened b) first second ∙ ap (added_all old) (sym (ap opened is ∙ opened-over a b over)))

  pub going_listed : (t a b : Contract) (old new : List Step) → t ≡ Seq a b → nullable marks a ≡ false → new ≡ added_all old (opened a) →
      new ≡ added_all old (opened t)
  going_listed t a b old new is going first = first ∙ ap (added_all old) (sym (ap opened is ∙ opened-going a b going))

  -- the second part of two in sequence is narrower
  pub over_narrower : (t a b : Contract) → t ≡ Seq a b → nullable marks a ≡ true → width book marks b < width book marks t
  over_narrower t a b is over =
      let whole : width book marks t ≡ 1 + width book marks a + width book marks b = ap (width book marks) is ∙ (rw over at (width-seq book marks a b)) in
      omega (arith, whole)

  module _ (study : IsStudied book marks) where
    -- the test of the empty trace is that of the marks
    pub told : (a : Contract) → CountsFit book a → (r : Bool) → IsTrue r ↔ Perf book [] a [] → nullable marks a ≡ r
    told a fits true t = nullable_in book marks study.right (t.0 refl) refl
    told a fits false t = elim (truth (nullable marks a)) [
      | inl over ↦ (let e : false ≡ true = t.1 (nullable_performed book marks study.right [] a (EachExposed-fits book marks a fits) over) in absurd cc)
      | inr going ↦ going
    ]

    module _ (t : Contract) (f : Name) (args : List Expression) (is : t ≡ App f args) (fits : CountsFit book t) where
      app_fits : CountsFit book (App f args)
      app_fits = subst (CountsFit book) is fits

      -- the steps of an application are those of its body
      opened-app : opened t ≡ opened (body_of book marks (template_in book.templates f) args)
      opened-app = ap opened is ∙ ap steps_in (ready-unfolded book marks study.right study.guarded study.fit (App f args) app_fits)

      -- without a template there are none
      pub none_listed : template_in book.templates f ≡ None → (old : List Step) → old ≡ added_all old (opened t)
      none_listed none old =
          ap (added_all old) (sym (opened-app ∙ ap (λ o. opened (body_of book marks o args)) none ∙ ap steps_in (ready_at-failure book marks (length book.templates))))

      module _ (template : Template) (q : template_in book.templates f ≡ Some template) (d : Contract) (body : d ≡ body_of book marks (Some template) args) where
        pub body_listed : {E : Type 0} (r : Result (Unit {0}) E) (old new : List Step) → OnOk r (new ≡ added_all old (opened d)) → OnOk r (new ≡ added_all old (opened t))
        body_listed r old new =
            on_ok_weaker r (λ e. e ∙ ap (added_all old) (ap opened body ∙ sym (opened-app ∙ ap (λ o. opened (body_of book marks o args)) q)))

        pub body_fits : CountsFit book d
        body_fits = subst (CountsFit book) (sym body) (rw q at (CountsFit-body book marks study.fit f args))

        pub body_narrower : width book marks d < width book marks t
        body_narrower =
            let smaller = body-smaller book marks study f args template q app_fits in
            omega (arith, smaller, ap (width book marks) body, ap (width book marks) is)
