-- Transmits and applications that stand ready.
use Rattle.std.proofs.Common.{◌≡◌, ℕ, zero, suc, ◌≤◌, Bool, true, false, ◌||◌, arith, List, [], ◌∷◌, ◌++◌, length, refl, sym, ◌∙◌, ap, ap₂, subst, Some, None, inl, inr, ◌⊎◌, if◌then◌else◌}
use Rattle.std.specs.List.{IsDistinct, AllByRecursion, list_any}
use Rattle.std.proofs.lemmas.List.Folds.{list_any-append}
use Rattle.std.proofs.lemmas.Map.Keys.{IsDistinct-cons, IsDistinct-head, IsDistinct-tail}
use Rattle.poets_value.specs.declared.value.Name.{Name}
use Rattle.poets_expr.specs.Expression.{Expression}
use Rattle.poets_syntax.specs.Contract.{Contract, Success, Failure, Transmit, Plus, Par, Seq, App}
use Rattle.poets_syntax.specs.Same.{same_contract}
use Rattle.poets_syntax.specs.Plain.{Book, Template}
use Rattle.poets_syntax.specs.Book.{template_in}
use Rattle.poets_syntax.specs.Applied.{CountsFit, BodiesCountsFit}
use Rattle.poets_syntax.proofs.Replacing.{truth}
use Rattle.poets_syntax.proofs.SameContracts.{contract_one, contract_itself}
use Rattle.poets_meaning.specs.Marks.{Marks, AreRight, nullable}
use Rattle.poets_meaning.specs.Guarded.{IsGuarded}
use Rattle.poets_meaning.specs.Exposed.{EachExposed}
use Rattle.poets_meaning.specs.Width.{width}
use Rattle.poets_meaning.proofs.Nullability.{EachExposed-weaker}
use Rattle.poets_calculus.specs.Residual.{body_of}
use Rattle.poets_calculus.proofs.Unfolded.{unfolds-guarded}
use Rattle.poets_residue.specs.Once.{ready_by, ready_at, ready, IsAmong}
use Rattle.poets_residue.specs.Unfolding.{UnfoldsWithin, IsStudied}
use Rattle.poets_residue.proofs.Kept.{CountsFit-body}
use Rattle.poets_residue.proofs.Unfoldings.{found}
use Rattle.poets_residue.proofs.Widths.{width-plus, width-par, width-seq, width-first, body-smaller}

or_left : (x y : Bool) → x ≡ true → (x || y) ≡ true
or_left x y e = rw e refl

or_right : (x y : Bool) → y ≡ true → (x || y) ≡ true
or_right true y e = refl
or_right false y e = e

or_one : (x y : Bool) → (x || y) ≡ true → (x ≡ true) ⊎ (y ≡ true)
or_one true y e = inl refl
or_one false y e = inr e

pub among_here : (c : Contract) (cs : List Contract) → IsAmong c (c ∷ cs)
among_here c cs = or_left (same_contract c c) (list_any (same_contract c) cs) (contract_itself c)

pub among_later : (d c : Contract) (cs : List Contract) → IsAmong d cs → IsAmong d (c ∷ cs)
among_later d c cs h = or_right (same_contract d c) (list_any (same_contract d) cs) h

pub among_one : (d c : Contract) (cs : List Contract) → IsAmong d (c ∷ cs) → (d ≡ c) ⊎ IsAmong d cs
among_one d c cs h = elim (or_one (same_contract d c) (list_any (same_contract d) cs) h) [
  | inl e ↦ inl (contract_one d c e)
  | inr e ↦ inr e
]

pub among_first : (d : Contract) (cs ds : List Contract) → IsAmong d cs → IsAmong d (cs ++ ds)
among_first d cs ds h = list_any-append (same_contract d) cs ds ∙ or_left (list_any (same_contract d) cs) (list_any (same_contract d) ds) h

pub among_second : (d : Contract) (cs ds : List Contract) → IsAmong d ds → IsAmong d (cs ++ ds)
among_second d cs ds h = list_any-append (same_contract d) cs ds ∙ or_right (list_any (same_contract d) cs) (list_any (same_contract d) ds) h

pub among_two : (d : Contract) (cs ds : List Contract) → IsAmong d (cs ++ ds) → IsAmong d cs ⊎ IsAmong d ds
among_two d cs ds h = or_one (list_any (same_contract d) cs) (list_any (same_contract d) ds) (sym (list_any-append (same_contract d) cs ds) ∙ h)

apart_all : (c : Contract) (cs : List Contract) → (IsAmong c cs → ⊥) → AllByRecursion (λ d. same_contract c d ≡ false) cs
apart_all c [] h = tt
apart_all c (d ∷ cs) h = elim (truth (same_contract c d)) [
  | inl t ↦ absurd (h (or_left (same_contract c d) (list_any (same_contract c) cs) t))
  | inr t ↦ (t, apart_all c cs (λ m. h (among_later c d cs m)))
]

apart_not : (c : Contract) (cs : List Contract) → AllByRecursion (λ d. same_contract c d ≡ false) cs → IsAmong c cs → ⊥
apart_not c [] h m = absurd cc
apart_not c (d ∷ cs) h m = elim (or_one (same_contract c d) (list_any (same_contract c) cs) m) [
  | inl t ↦ (let f = h.0 in absurd cc)
  | inr k ↦ apart_not c cs h.1 k
]

-- one more
pub distinct_more : (c : Contract) (cs : List Contract) → (IsAmong c cs → ⊥) → IsDistinct same_contract cs → IsDistinct same_contract (c ∷ cs)
distinct_more c cs h d = IsDistinct-cons same_contract c cs (apart_all c cs h) d

-- those of two lists that have none in common
pub distinct_both : (cs ds : List Contract) → IsDistinct same_contract cs → IsDistinct same_contract ds → ((d : Contract) → IsAmong d cs → IsAmong d ds → ⊥) →
    IsDistinct same_contract (cs ++ ds)
distinct_both [] ds h k apart = k
distinct_both (c ∷ cs) ds h k apart = distinct_more c (cs ++ ds)
    (λ m. elim (among_two c cs ds m) [
      | inl x ↦ apart_not c cs (IsDistinct-head same_contract c cs h) x
      | inr x ↦ apart c (among_here c cs) x
    ])
    (distinct_both cs ds (IsDistinct-tail same_contract c cs h) k (λ d m. apart d (among_later d c cs m)))

module _ (book : Book) (marks : Marks) where
  ready_at-transmit : (d : ℕ) (b : _) (p : Expression) (c : Contract) → ready_at d book marks (Transmit b p c) ≡ Transmit b p c ∷ []
  ready_at-transmit zero b p c = refl
  ready_at-transmit (suc d) b p c = refl

  pub ready_at-plus : (d : ℕ) (a b : Contract) → ready_at d book marks (Plus a b) ≡ ready_at d book marks a ++ ready_at d book marks b
  ready_at-plus zero a b = refl
  ready_at-plus (suc d) a b = refl

  pub ready_at-par : (d : ℕ) (a b : Contract) → ready_at d book marks (Par a b) ≡ ready_at d book marks a ++ ready_at d book marks b
  ready_at-par zero a b = refl
  ready_at-par (suc d) a b = refl

  pub ready_at-seq : (d : ℕ) (a b : Contract) →
      ready_at d book marks (Seq a b) ≡ ready_at d book marks a ++ (if nullable marks a then ready_at d book marks b else [])
  ready_at-seq zero a b = refl
  ready_at-seq (suc d) a b = refl

  pub ready_at-failure : (d : ℕ) → ready_at d book marks Failure ≡ []
  ready_at-failure zero = refl
  ready_at-failure (suc d) = refl

  -- what is ready in a contract is ready in another
  abbrev pub ReadyIn : Contract → Contract → Type 0
  ReadyIn a c = (d : Contract) → IsAmong d (ready book marks a) → IsAmong d (ready book marks c)

  pub ready-transmit : (b : _) (p : Expression) (c : Contract) → IsAmong (Transmit b p c) (ready book marks (Transmit b p c))
  ready-transmit b p c = rw (ready_at-transmit (length book.templates) b p c) (among_here (Transmit b p c) [])

  pub plus_ready_first : (a b : Contract) → ReadyIn a (Plus a b)
  plus_ready_first a b d h = rw (ready_at-plus (length book.templates) a b) (among_first d (ready book marks a) (ready book marks b) h)

  pub plus_ready_second : (a b : Contract) → ReadyIn b (Plus a b)
  plus_ready_second a b d h = rw (ready_at-plus (length book.templates) a b) (among_second d (ready book marks a) (ready book marks b) h)

  -- in two parts side by side, or one after the other, as in a choice of them
  pub par_ready : (a b : Contract) → ReadyIn (Plus a b) (Par a b)
  par_ready a b d h =
      let n = length book.templates in
      subst (IsAmong d) (ready_at-plus n a b ∙ sym (ready_at-par n a b)) h

  pub seq_ready : (a b : Contract) → nullable marks a ≡ true → ReadyIn (Plus a b) (Seq a b)
  seq_ready a b k d h =
      let n = length book.templates in
      subst (IsAmong d) (ready_at-plus n a b ∙ sym (ready_at-seq n a b ∙ rw k refl)) h

  pub seq_ready_first : (a b : Contract) → ReadyIn a (Seq a b)
  seq_ready_first a b d h =
      rw (ready_at-seq (length book.templates) a b)
      (among_first d (ready book marks a) (if nullable marks a then ready book marks b else []) h)

  -- the ready ones agree where those of the exposed applications do
  ready_by-alike : (u v : Name → List Expression → List Contract) (c : Contract) → EachExposed (λ f args. u f args ≡ v f args) marks c →
      ready_by u marks c ≡ ready_by v marks c
  ready_by-alike u v Success h = refl
  ready_by-alike u v Failure h = refl
  ready_by-alike u v (Transmit b p c) h = refl
  ready_by-alike u v (Plus a b) h = ap₂ (λ x y. x ++ y) (ready_by-alike u v a h.0) (ready_by-alike u v b h.1)
  ready_by-alike u v (Par a b) h = ap₂ (λ x y. x ++ y) (ready_by-alike u v a h.0) (ready_by-alike u v b h.1)
  ready_by-alike u v (Seq a b) h =
      let first = ready_by-alike u v a h.0 in
      elim (truth (nullable marks a)) [
        | inl k ↦ (let second = ready_by-alike u v b (h.1 k) in rw k (ap₂ (λ x y. x ++ y) first second))
        | inr k ↦ rw k (ap (λ x. x ++ []) first)
      ]
  ready_by-alike u v (App f args) h = ap (λ cs. App f args ∷ cs) h

  -- more unfoldings than enough change nothing
  ready-enough : (d n : ℕ) (c : Contract) → n ≤ d → UnfoldsWithin n book marks c → ready_at d book marks c ≡ ready_at n book marks c
  ready-enough zero zero c l h = refl
  ready-enough zero (suc n) c l h = absurd (omega (arith, l))
  ready-enough (suc d) zero c l h =
      ready_by-alike (λ f args. ready_at d book marks (body_of book marks (template_in book.templates f) args)) (λ _ _. []) c
      (EachExposed-weaker (λ f args. template_in book.templates f ≡ None)
      (λ f args. ready_at d book marks (body_of book marks (template_in book.templates f) args) ≡ []) marks
      (λ f args k. rw k (ready_at-failure d)) c h)
  ready-enough (suc d) (suc n) c l h =
      ready_by-alike (λ f args. ready_at d book marks (body_of book marks (template_in book.templates f) args))
      (λ f args. ready_at n book marks (body_of book marks (template_in book.templates f) args)) c
      (EachExposed-weaker _ (λ f args. ready_at d book marks (body_of book marks (template_in book.templates f) args)
      ≡ ready_at n book marks (body_of book marks (template_in book.templates f) args)) marks
      (λ f args k. elim (found (template_in book.templates f)) [
        | inl none ↦ rw none (ready_at-failure d ∙ sym (ready_at-failure n))
        | inr t ↦ rw t.1 (ready-enough d n (body_of book marks (Some t.0) args) (omega (arith, l)) (k t.0 t.1).1)
      ]) c h)

  module _ (right : AreRight book marks) (guarded : IsGuarded book) (bodies : BodiesCountsFit book) (c : Contract) (h : CountsFit book c) where
    -- in a guarded book as many as there are templates are enough
    pub ready-at_least : (d : ℕ) → length book.templates ≤ d → ready_at d book marks c ≡ ready book marks c
    ready-at_least d l = ready-enough d (length book.templates) c l (unfolds-guarded book marks right guarded bodies c h)

    -- so the bodies of exposed applications are unfolded in the same way
    pub ready-unfolded : ready book marks c ≡ ready_by (λ f args. ready book marks (body_of book marks (template_in book.templates f) args)) marks c
    ready-unfolded = sym (ready-at_least (suc (length book.templates)) (omega arith))

  module _ (study : IsStudied book marks) where
    -- what is ready is no wider
    narrow_by : (unfolded : Name → List Expression → List Contract) →
        ((f : Name) (args : List Expression) → CountsFit book (App f args) → (d : Contract) → IsAmong d (unfolded f args) → width book marks d ≤ width book marks (App f args)) →
        (c : Contract) → CountsFit book c → (d : Contract) → IsAmong d (ready_by unfolded marks c) → width book marks d ≤ width book marks c
    narrow_by u w Success h d m = absurd cc
    narrow_by u w Failure h d m = absurd cc
    narrow_by u w (Transmit b p c) h d m = elim (among_one d (Transmit b p c) [] m) [
      | inl e ↦ omega (arith, ap (width book marks) e)
      | inr n ↦ absurd cc
    ]
    narrow_by u w (Plus a b) h d m =
        let whole = width-plus book marks a b in
        elim (among_two d (ready_by u marks a) (ready_by u marks b) m) [
          | inl n ↦ omega (arith, whole, narrow_by u w a h.0 d n)
          | inr n ↦ omega (arith, whole, narrow_by u w b h.1 d n)
        ]
    narrow_by u w (Par a b) h d m =
        let whole = width-par book marks a b in
        elim (among_two d (ready_by u marks a) (ready_by u marks b) m) [
          | inl n ↦ omega (arith, whole, narrow_by u w a h.0 d n)
          | inr n ↦ omega (arith, whole, narrow_by u w b h.1 d n)
        ]
    narrow_by u w (Seq a b) h d m =
        elim (among_two d (ready_by u marks a) (if nullable marks a then ready_by u marks b else []) m) [
          | inl n ↦ omega (arith, width-first book marks a b, narrow_by u w a h.0 d n)
          | inr n ↦ elim (truth (nullable marks a)) [
            | inl k ↦ (let whole = rw k at (width-seq book marks a b) in omega (arith, whole, narrow_by u w b h.1 d (rw k at n)))
            | inr k ↦ (let none = rw k at n in absurd cc)
          ]
        ]
    narrow_by u w (App f args) h d m = elim (among_one d (App f args) (u f args) m) [
      | inl e ↦ omega (arith, ap (width book marks) e)
      | inr n ↦ w f args h d n
    ]

    narrow : (n : ℕ) (c : Contract) → CountsFit book c → (d : Contract) → IsAmong d (ready_at n book marks c) → width book marks d ≤ width book marks c
    narrow zero c h d m = narrow_by (λ _ _. []) (λ f args k x y. absurd cc) c h d m
    narrow (suc n) c h d m =
        narrow_by (λ f args. ready_at n book marks (body_of book marks (template_in book.templates f) args))
        (λ f args k x y. elim (found (template_in book.templates f)) [
          | inl none ↦ (let z : IsAmong x [] = rw (none, ready_at-failure n) at y in absurd cc)
          | inr t ↦ (
              let z : IsAmong x (ready_at n book marks (body_of book marks (Some t.0) args)) = rw t.1 at y in
              let fits : CountsFit book (body_of book marks (Some t.0) args) = rw t.1 at (CountsFit-body book marks study.fit f args) in
              omega (arith, narrow n (body_of book marks (Some t.0) args) fits x z, body-smaller book marks study f args t.0 t.1 k)
              )
        ]) c h d m

    module _ (f : Name) (args : List Expression) (h : CountsFit book (App f args)) where
      ready-app : ready book marks (App f args) ≡ App f args ∷ ready book marks (body_of book marks (template_in book.templates f) args)
      ready-app = ready-unfolded study.right study.guarded study.fit (App f args) h

      pub app_ready_itself : IsAmong (App f args) (ready book marks (App f args))
      app_ready_itself = rw ready-app (among_here (App f args) (ready book marks (body_of book marks (template_in book.templates f) args)))

      module _ (t : Template) (q : template_in book.templates f ≡ Some t) where
        pub app_ready_body : ReadyIn (body_of book marks (Some t) args) (App f args)
        app_ready_body d m = rw (ready-app, q) (among_later d (App f args) (ready book marks (body_of book marks (Some t) args)) m)

        -- an application is not ready in its own body
        pub app_not_in_body : IsAmong (App f args) (ready book marks (body_of book marks (Some t) args)) → ⊥
        app_not_in_body m =
            let fits : CountsFit book (body_of book marks (Some t) args) = rw q at (CountsFit-body book marks study.fit f args) in
            absurd (omega (arith, narrow (length book.templates) (body_of book marks (Some t) args) fits (App f args) m, body-smaller book marks study f args t q h))
