use Rattle.std.proofs.Common.{◌≡◌, true, ◌||◌, List, [], refl, sym, subst, Some, ◌⊎◌, inl, inr}
use Rattle.poets_value.specs.declared.value.Name.{Name}
use Rattle.poets_value.specs.declared.event.Event.{Event}
use Rattle.poets_expr.specs.Env.{same_name}
use Rattle.poets_expr.proofs.SameTrees.{name_one}
use Rattle.poets_expr.specs.Expression.{Expression}
use Rattle.poets_syntax.specs.declared.term.Binders.{Binders}
use Rattle.poets_syntax.specs.Contract.{Contract}
use Rattle.poets_syntax.specs.Plain.{Template}
use Rattle.poets_syntax.specs.Book.{template_in}
use Rattle.poets_syntax.proofs.Replacing.{truth}
use Rattle.poets_meaning.specs.Perf.{Perf}
use Rattle.poets_meaning.specs.May.{May}
use Rattle.poets_meaning.specs.Marks.{BodySatisfies, Nullable, Hopeful}
use Rattle.poets_calculus.specs.Examples.{book, sale, again, sale_template, again_template}
use Rattle.poets_calculus.proofs.examples.right_marks.Goals as goal

-- a template of the book is one of the two
one_of_two : (f : Name) (t : Template) → template_in book.templates f ≡ Some t →
    ((sale ≡ f) × (sale_template ≡ t)) ⊎ ((again ≡ f) × (again_template ≡ t))
one_of_two f t q = elim (truth (same_name sale f)) [
  | inl e ↦ inl (name_one sale f e, some_one (rw e at q))
  | inr e ↦ elim (truth (same_name again f)) [
    | inl k ↦ inr (name_one again f k, some_one (rw (e, k) at q))
    | inr k ↦ (let none : _ = rw (e, k) at q in absurd cc)
  ]
]
  where
    some_one : {x y : Template} → Some x ≡ Some y → x ≡ y
    some_one e = cc

-- no transmit is performed by the empty trace
no_transmit : {b : Binders} {p : Expression} {t : Contract} {s : List Event} → Perf book [] (Contract.Transmit b p t) s → s ≡ [] → ⊥
no_transmit (Perf.Taken h p) e = cc

again_nullable : Perf book [] again_template.body []
again_nullable = Perf.Left Perf.Done

nullable_one : (f : Name) → same_name f again ≡ true → BodySatisfies book (Nullable book) f
nullable_one f e = subst (λ g. BodySatisfies book (Nullable book) g) (sym (name_one f again e)) (again_template, refl, again_nullable)

nullable_two : (f : Name) → BodySatisfies book (Nullable book) f → same_name f again ≡ true
nullable_two f h = elim (one_of_two f h.0 h.1) [
  | inl k ↦ absurd (no_transmit (subst (λ t. Perf book [] t.body []) (sym k.1) h.2) refl)
  | inr k ↦ subst (λ g. same_name g again ≡ true) k.0 refl
]

hopeful_one : (f : Name) → (same_name f sale || same_name f again) ≡ true → BodySatisfies book (Hopeful book) f
hopeful_one f e = elim (truth (same_name f sale)) [
  | inl k ↦ subst (λ g. BodySatisfies book (Hopeful book) g) (sym (name_one f sale k)) (sale_template, refl, (2, May.Granted (May.Granted May.Done)))
  | inr k ↦ subst (λ g. BodySatisfies book (Hopeful book) g) (sym (name_one f again (rw k at e))) (again_template, refl, (0, May.Left May.Done))
]

hopeful_two : (f : Name) → BodySatisfies book (Hopeful book) f → (same_name f sale || same_name f again) ≡ true
hopeful_two f h = elim (one_of_two f h.0 h.1) [
  | inl k ↦ subst (λ g. (same_name g sale || same_name g again) ≡ true) k.0 refl
  | inr k ↦ subst (λ g. (same_name g sale || same_name g again) ≡ true) k.0 refl
]

pub returns : goal.returns
returns c = record {
  nullable = λ f. ((λ e. nullable_one f e), (λ h. nullable_two f h));
  hopeful = λ f. ((λ e. hopeful_one f e), (λ h. hopeful_two f h));
}
