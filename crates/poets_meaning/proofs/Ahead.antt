-- In a guarded book no more templates are unfolded in a row than there are: each is taken from the list of those to come.
use Rattle.std.proofs.Common.{◌≡◌, suc, ◌+◌, ◌≤◌, arith, Bool, true, false, not, ◌||◌, List, [], ◌∷◌, length, map, filter, refl, sym, ◌∙◌, ap, subst, Some, ◌⊎◌, inl, inr}
use Rattle.poets_value.specs.declared.value.Name.{Name}
use Rattle.poets_expr.specs.Env.{same_name}
use Rattle.poets_expr.specs.Expression.{Expression}
use Rattle.poets_expr.proofs.SameTrees.{name_one}
use Rattle.poets_syntax.specs.Contract.{Contract}
use Rattle.poets_syntax.specs.Plain.{Book, Template}
use Rattle.poets_syntax.specs.Book.{template_in}
use Rattle.poets_syntax.specs.Applied.{FitsTemplate, CountsFit}
use Rattle.poets_syntax.specs.Typed.{is_among}
use Rattle.poets_syntax.proofs.Replacing.{truth}
use Rattle.poets_meaning.specs.Marks.{Marks, AreRight}
use Rattle.poets_meaning.specs.Exposed.{EachExposed}
use Rattle.poets_meaning.specs.Guarded.{Exposes, UnguardedEdge, IsGuarded}
use Rattle.poets_meaning.proofs.Guarding.{Reaches, further, EachExposed-by, EachExposed-both}
use Rattle.poets_meaning.proofs.Nullability.{EachExposed-fits}

-- the names but for one
abbrev pub less : List Name → Name → List Name
less names x = filter (λ y. not (same_name x y)) names

pub still_among : (names : List Name) (x y : Name) → is_among names y ≡ true → (same_name x y ≡ true → ⊥) → is_among (less names x) y ≡ true
still_among [] x y h k = h
still_among (z ∷ names) x y h k =
    let rest = λ (l : is_among names y ≡ true). still_among names x y l k in
    elim (truth (same_name x z)) [
      | inl i ↦ elim (truth (same_name y z)) [
        | inl j ↦ absurd (k (subst (λ w. same_name x w ≡ true) (sym (name_one y z j)) i))
        | inr j ↦ rw i (rest (rw j at h))
      ]
      | inr i ↦ elim (truth (same_name y z)) [ inl j ↦ rw (i, j) refl | inr j ↦ rw (i, j) (rest (rw j at h)) ]
    ]

no_more : (names : List Name) (x : Name) → length (less names x) ≤ length names
no_more [] x = omega arith
no_more (y ∷ names) x =
    let rest = no_more names x in
    elim (truth (same_name x y)) [ inl e ↦ rw e (omega (arith, rest)) | inr e ↦ rw e (omega (arith, rest)) ]

pub fewer : (names : List Name) (x : Name) → is_among names x ≡ true → length (less names x) + 1 ≤ length names
fewer [] x h = absurd cc
fewer (y ∷ names) x h = elim (truth (same_name x y)) [
  | inl e ↦ (let rest = no_more names x in rw e (omega (arith, rest)))
  | inr e ↦ (let rest = fewer names x (rw e at h) in rw e (omega (arith, rest)))
]

same_name_turned : (x y : Name) → same_name x y ≡ true → same_name y x ≡ true
same_name_turned x y e = rw (name_one x y e) (rw (name_one x y e) at e)

abbrev pub names_of : List Template → List Name
names_of templates = map (λ t. t.name) templates

pub among_names : (templates : List Template) (x : Name) (t : Template) → template_in templates x ≡ Some t → is_among (names_of templates) x ≡ true
among_names [] x t h = absurd cc
among_names (u ∷ templates) x t h = elim (truth (same_name u.name x)) [
  | inl e ↦ rw (same_name_turned u.name x e) refl
  | inr e ↦ (let rest = among_names templates x t (rw e at h) in or_second (same_name x u.name) (is_among (names_of templates) x) rest)
]
  where
    or_second : (a b : Bool) → b ≡ true → (a || b) ≡ true
    or_second true b k = refl
    or_second false b k = k

pub length-names_of : (templates : List Template) → length (names_of templates) ≡ length templates
length-names_of [] = refl
length-names_of (t ∷ templates) = ap suc (length-names_of templates)

module _ (book : Book) (guarded : IsGuarded book) where
  -- each template is yet to come, or some path leads from it to the name
  abbrev pub IsAhead : List Name → Name → Type 0
  IsAhead coming g = (x : Name) (t : Template) → template_in book.templates x ≡ Some t → (is_among coming x ≡ true) ⊎ Reaches (UnguardedEdge book) x g

  -- a template from which a path would lead to itself is yet to come
  pub to_come : (coming : List Name) (g : Name) (t : Template) → template_in book.templates g ≡ Some t → IsAhead coming g → is_among coming g ≡ true
  to_come coming g t i h = elim (h g t i) [ inl k ↦ k | inr k ↦ absurd (guarded (g ∷ k.0) k.1) ]

  -- what stands ahead of a body's exposed names
  pub ahead_of_body : (coming : List Name) (g : Name) (t : Template) → template_in book.templates g ≡ Some t → IsAhead coming g →
      (h : Name) → Exposes book t.body h → IsAhead (less coming g) h
  ahead_of_body coming g t i k h x y u j = elim (k y u j) [
    | inl l ↦ elim (truth (same_name g y)) [
      | inl e ↦ inr (subst (λ z. Reaches (UnguardedEdge book) z h) (name_one g y e) ([], (t, i, x)))
      | inr e ↦ inl (still_among coming g y l (λ q. let r : true ≡ false = sym q ∙ e in cc))
    ]
    | inr l ↦ inr (further (UnguardedEdge book) y g h l.0 l.1 (t, i, x))
  ]

  -- an exposed application is ahead, and fits its template
  abbrev pub Comes : List Name → Name → List Expression → Type 0
  Comes coming f args = IsAhead coming f × FitsTemplate book f args

  -- a template that is unfolded leaves fewer to come
  pub fewer_to_come : (coming : List Name) (f : Name) (t : Template) → template_in book.templates f ≡ Some t → IsAhead coming f → length (less coming f) + 1 ≤ length coming
  fewer_to_come coming f t i k = fewer coming f (to_come coming f t i k)

  module _ (marks : Marks) (right : AreRight book marks) where
    -- at first all templates are to come
    pub all_come : (c : Contract) → CountsFit book c → EachExposed (Comes (names_of book.templates)) marks c
    all_come c h =
        EachExposed-both (λ g _. IsAhead (names_of book.templates) g) (FitsTemplate book) marks c
        (EachExposed-by book marks right (IsAhead (names_of book.templates)) c h (λ g _ x t i. inl (among_names book.templates x t i)))
        (EachExposed-fits book marks c h)

    -- in the body of one that comes, all but that one
    pub body_comes : (coming : List Name) (f : Name) (t : Template) → template_in book.templates f ≡ Some t → IsAhead coming f → CountsFit book t.body →
        EachExposed (Comes (less coming f)) marks t.body
    body_comes coming f t i k h =
        EachExposed-both (λ g _. IsAhead (less coming f) g) (FitsTemplate book) marks t.body
        (EachExposed-by book marks right (IsAhead (less coming f)) t.body h (ahead_of_body coming f t i k)) (EachExposed-fits book marks t.body h)
