-- Templates by place and by name.
use Rattle.std.proofs.Common.{◌≡◌, ℕ, zero, suc, ◌+◌, ◌<◌, arith, Bool, true, false, cond, List, [], ◌∷◌, ◌++◌, length, map, take, Option, Some, None, refl, sym, ◌∙◌, ap, subst, inl, inr}
use Rattle.std.specs.Prelude.{slice_index_or, option_map, if◌then◌else◌}
use Rattle.std.specs.List.{AllByRecursion, IsDistinct}
use Rattle.std.specs.Ordering.{is_eq}
use Rattle.std.proofs.lemmas.Bool.{eq-eqb}
use Rattle.std.proofs.lemmas.List.{take_more}
use Rattle.std.proofs.lemmas.Bool.Decides.{nat_tests}
use Rattle.std.proofs.lemmas.Map.Keys.{IsDistinct-head, IsDistinct-tail}
use Rattle.poets_value.specs.declared.value.Name.{Name}
use Rattle.poets_value.specs.Names.{name_cmp}
use Rattle.poets_expr.specs.Env.{same_name}
use Rattle.poets_expr.proofs.SameTrees.{name_one}
use Rattle.poets_syntax.specs.declared.term.Book.{Book}
use Rattle.poets_syntax.specs.declared.term.Template.{Template}
use Rattle.poets_syntax.specs.Book.{template_of, book_of, template_in}
use Rattle.poets_syntax.specs.Checked.{IsChecked}
use Rattle.poets_syntax.specs.Plain as plain
use Rattle.poets_syntax.proofs.Replacing.{truth}

pub same_name-self : (x : Name) → same_name x x ≡ true
same_name-self x = eq-eqb x.id x.id refl

pub same_name-one : (x y : Name) → x ≡ y → same_name x y ≡ true
same_name-one x y e = rw e (same_name-self y)

-- the order of names tells equal ones
pub name_cmp-same : (x y : Name) → is_eq (name_cmp x y) ≡ same_name x y
name_cmp-same x y = grind (arith, nat_tests)

abbrev pub names_of : List Template → List Name
names_of templates = map (λ t. t.name) (map template_of templates)

apart_at : (x : Name) (templates : List Template) (others : List Name) → AllByRecursion (λ y. same_name x y ≡ false) (names_of templates ++ others) →
    (k : ℕ) (t : Template) → k < length templates → t ≡ slice_index_or templates k t → same_name x t.name ≡ false
apart_at x [] others h k t l e = absurd (omega (arith, l))
apart_at x (u ∷ templates) others h zero t l e = subst (λ v. same_name x v.name ≡ false) (sym e) h.0
apart_at x (u ∷ templates) others h (suc k) t l e = apart_at x templates others h.1 k t (omega (arith, l)) e

-- of distinct names each template is the one of its name
template_in-at : (templates : List Template) (others : List Name) → IsDistinct same_name (names_of templates ++ others) →
    (k : ℕ) (t : Template) → k < length templates → t ≡ slice_index_or templates k t → template_in (map template_of templates) t.name ≡ Some (template_of t)
template_in-at [] others h k t l e = absurd (omega (arith, l))
template_in-at (u ∷ templates) others h zero t l e = rw (ap (λ v. same_name u.name v.name) e ∙ same_name-self u.name) (ap (λ v. Some (template_of v)) (sym e))
template_in-at (u ∷ templates) others h (suc k) t l e =
    let apart = apart_at u.name templates others (IsDistinct-head same_name u.name (names_of templates ++ others) h) k t (omega (arith, l)) e in
    rw apart (template_in-at templates others (IsDistinct-tail same_name u.name (names_of templates ++ others) h) k t (omega (arith, l)) e)

pub own_template : (book : Book) → IsChecked (book_of book) →
    (k : ℕ) (t : Template) → k < length book.templates.items → t ≡ slice_index_or book.templates.items k t →
    template_in (map template_of book.templates.items) t.name ≡ Some (template_of t)
own_template book checked k t l e = template_in-at book.templates.items checked.0 checked.1.distinct k t l e

-- a template stands at a place of the list
pub record StandsAt (templates : List Template) (k : ℕ) (t : Template) : Type 0 where
  pub within : k < length templates
  pub is : t ≡ slice_index_or templates k t

pub StandsAt-same : (xs ys : List Template) (k : ℕ) (t : Template) → xs ≡ ys → k < length xs → t ≡ slice_index_or xs k t → StandsAt ys k t
StandsAt-same xs ys k t same l e = record { within = rw (sym same) l; is = e ∙ ap (λ zs. slice_index_or zs k t) same }

-- no earlier one has its name
none_before_at : (templates : List Template) (others : List Name) → IsDistinct same_name (names_of templates ++ others) → (k : ℕ) (t : Template) → StandsAt templates k t →
    template_in (map template_of (take k templates)) t.name ≡ None
none_before_at [] others h k t s = absurd (let l = s.within in omega (arith, l))
none_before_at (u ∷ templates) others h zero t s = refl
none_before_at (u ∷ templates) others h (suc k) t s =
    let l : k < length templates = (let m = s.within in omega (arith, m)) in
    let apart = apart_at u.name templates others (IsDistinct-head same_name u.name (names_of templates ++ others) h) k t l s.is in
    rw apart (none_before_at templates others (IsDistinct-tail same_name u.name (names_of templates ++ others) h) k t (record { within = l; is = s.is }))

pub none_before : (book : Book) → IsChecked (book_of book) → (k : ℕ) (t : Template) → StandsAt book.templates.items k t →
    template_in (map template_of (take k book.templates.items)) t.name ≡ None
none_before book checked k t s = none_before_at book.templates.items checked.0 checked.1.distinct k t s

-- one template more at the end
template_in-push : (templates : List Template) (t : Template) (f : Name) → template_in (map template_of templates) t.name ≡ None →
    template_in (map template_of (templates ++ t ∷ [])) f ≡ (if same_name t.name f then Some (template_of t) else template_in (map template_of templates) f)
template_in-push [] t f none = refl
template_in-push (u ∷ templates) t f none = elim (truth (same_name u.name t.name)) [
  | inl e ↦ (let q : Some (template_of u) ≡ None = rw e at none in absurd cc)
  | inr e ↦ (let rest = template_in-push templates t f (rw e at none) in elim (truth (same_name u.name f)) [
    | inl k ↦ (let apart : same_name t.name f ≡ false = other u.name t.name f e k in rw (k, apart) refl)
    | inr k ↦ rw k rest
  ])
]
  where
    other : (x y z : Name) → same_name x y ≡ false → same_name x z ≡ true → same_name y z ≡ false
    other x y z e k = elim (truth (same_name y z)) [
      | inl l ↦ (let p : x ≡ y = name_one x z k ∙ sym (name_one y z l) in let q : true ≡ false = sym (rw p (same_name-self y)) ∙ e in absurd cc)
      | inr l ↦ l
    ]

pub taken : (templates : List Template) (k : ℕ) (t : Template) → StandsAt templates k t → take (k + 1) templates ≡ take k templates ++ t ∷ []
taken templates k t s = take_more templates k t s.within ∙ ap (λ u. take k templates ++ u ∷ []) (sym s.is)

pub template_in-take : (book : Book) → IsChecked (book_of book) → (k : ℕ) (t : Template) → StandsAt book.templates.items k t → (f : Name) →
    template_in (map template_of (take (k + 1) book.templates.items)) f
    ≡ (if same_name t.name f then Some (template_of t) else template_in (map template_of (take k book.templates.items)) f)
template_in-take book checked k t s f =
    let more : take (k + 1) book.templates.items ≡ take k book.templates.items ++ t ∷ [] = taken book.templates.items k t s in
    rw more (template_in-push (take k book.templates.items) t f (none_before book checked k t s))

-- one more entry of a map that has one for each template
module _ {V W : Type 0} (book : Book) (checked : IsChecked (book_of book)) (h : V → W) (g : plain.Template → W) (k : ℕ) (t : Template)
    (s : StandsAt book.templates.items k t) where
  pub template_in-entry : (old new : Name → Option V) (v : V) → h v ≡ g (template_of t) → ((f : Name) → new f ≡ cond (is_eq (name_cmp t.name f)) (Some v) (old f)) →
      ((f : Name) → option_map h (old f) ≡ option_map g (template_in (map template_of (take k book.templates.items)) f)) →
      (f : Name) → option_map h (new f) ≡ option_map g (template_in (map template_of (take (k + 1) book.templates.items)) f)
  template_in-entry old new v same update before f =
      ap (option_map h) (update f) ∙ by (same_name t.name f) (name_cmp-same t.name f) ∙ sym (ap (option_map g) (template_in-take book checked k t s f))
    where
      by : (b : Bool) → is_eq (name_cmp t.name f) ≡ b → option_map h (cond (is_eq (name_cmp t.name f)) (Some v) (old f))
          ≡ option_map g (if b then Some (template_of t) else template_in (map template_of (take k book.templates.items)) f)
      by true e = rw e (ap Some same)
      by false e = rw e (before f)
