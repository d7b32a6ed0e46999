-- Residuals of whole contracts by whole events are whole.
use Rattle.std.proofs.Common.{◌≡◌, ℕ, List, [], ◌∷◌, fold, length, subst, Some, inl, inr}
use Rattle.std.specs.List.{All}
use Rattle.std.proofs.lemmas.List.Elements.{All-nil, All-head, All-tail, All-push, All-from_recursion}
use Rattle.poets_value.specs.declared.value.Name.{Name}
use Rattle.poets_value.specs.declared.event.Event.{Event}
use Rattle.poets_value.specs.Whole.{IsWholeEvent, IsWholeTrace}
use Rattle.poets_expr.specs.Env.{Declared, same_name}
use Rattle.poets_expr.specs.Expression.{Expression}
use Rattle.poets_expr.specs.Whole.{IsWholeExpression, IsWholeOption, AreWholeGivens}
use Rattle.poets_expr.proofs.WholeResults.{IsWhole-val}
use Rattle.poets_syntax.specs.declared.term.Binders.{Binders}
use Rattle.poets_syntax.specs.declared.term.Param.{Param}
use Rattle.poets_syntax.specs.Contract.{Contract}
use Rattle.poets_syntax.specs.Plain.{Book, Template}
use Rattle.poets_syntax.specs.Book.{template_in}
use Rattle.poets_syntax.specs.Replace.{replace}
use Rattle.poets_syntax.specs.Whole.{IsWholeContract, IsWholeBook}
use Rattle.poets_syntax.specs.Givens.{event_givens, argument_givens}
use Rattle.poets_syntax.proofs.Replacing.{truth}
use Rattle.poets_syntax.proofs.WholeContracts.{IsWhole-replace}
use Rattle.poets_meaning.specs.Marks.{Marks}
use Rattle.poets_calculus.specs.Normal.{normal}
use Rattle.poets_calculus.specs.Residual.{after, after_at, residual_after}
use Rattle.poets_norm.proofs.WholeNormals.{IsWhole-of_parts, IsWhole-normal}
use Rattle.poets_residue.proofs.Kept.{of_body, kept_by_after_at}

whole_body : (templates : List Template) → All (λ t. IsWholeContract t.body) templates → (f : Name) (t : Template) →
    template_in templates f ≡ Some t → IsWholeContract t.body
whole_body [] h f t q = absurd cc
whole_body (u ∷ templates) h f t q = elim (truth (same_name u.name f)) [
  | inl e ↦ (let here : Some u ≡ Some t = rw e at q in let same : u ≡ t = cc in subst (λ v. IsWholeContract v.body) same (All-head (λ v. IsWholeContract v.body) u templates h))
  | inr e ↦ whole_body templates (All-tail (λ v. IsWholeContract v.body) u templates h) f t (rw e at q)
]

-- what the binders stand for
AreWholeGivens-event : (b : Binders) (e : Event) → IsWholeEvent e → AreWholeGivens (event_givens b e)
AreWholeGivens-event b e h = All-from_recursion (λ p. IsWholeOption p.1.value) (event_givens b e) (h.1, (h.0, (tt, (tt, tt))))

-- what the parameters stand for
AreWholeGivens-arguments : (declared : Declared) (params : List Param) (args : List Expression) → All IsWholeExpression args →
    AreWholeGivens (argument_givens declared params args)
AreWholeGivens-arguments declared [] [] h = All-nil (λ p. IsWholeOption p.1.value)
AreWholeGivens-arguments declared [] (a ∷ args) h = All-nil (λ p. IsWholeOption p.1.value)
AreWholeGivens-arguments declared (p ∷ params) [] h = All-nil (λ p. IsWholeOption p.1.value)
AreWholeGivens-arguments declared (p ∷ params) (a ∷ args) h =
    All-push (λ q. IsWholeOption q.1.value) (argument_givens declared params args) _
    (AreWholeGivens-arguments declared params args (All-tail IsWholeExpression a args h))
    (IsWhole-val declared [] a (All-nil (λ q. IsWholeOption q.1)) (All-head IsWholeExpression a args h))

pub IsWhole-after_at : (book : Book) (marks : Marks) → IsWholeBook book → (e : Event) → IsWholeEvent e →
    (d : ℕ) (c : Contract) → IsWholeContract c → IsWholeContract (after_at d book marks e c)
IsWhole-after_at book marks bodies e whole =
    kept_by_after_at book marks e IsWholeContract IsWhole-of_parts
    (λ b p c h. IsWhole-normal book marks (replace (event_givens b e) c) (IsWhole-replace (event_givens b e) c (AreWholeGivens-event b e whole) h.1))
    (λ f args h. of_body book marks IsWholeContract tt (template_in book.templates f) args
    (λ t q. IsWhole-normal book marks (replace (argument_givens book.declared t.params args) t.body)
    (IsWhole-replace (argument_givens book.declared t.params args) t.body
    (AreWholeGivens-arguments book.declared t.params args h) (whole_body book.templates bodies f t q))))

whole_through : (book : Book) (marks : Marks) → IsWholeBook book → (s : List Event) → IsWholeTrace s →
    (c : Contract) → IsWholeContract c → IsWholeContract (fold (λ d e. after book marks e d) c s)
whole_through book marks bodies [] h c k = k
whole_through book marks bodies (e ∷ s) h c k =
    whole_through book marks bodies s (All-tail IsWholeEvent e s h) (after book marks e c)
    (IsWhole-after_at book marks bodies e (All-head IsWholeEvent e s h) (length book.templates) c k)

pub trace_whole : (book : Book) (marks : Marks) → IsWholeBook book → (o : Contract) → IsWholeContract o →
    (s : List Event) → IsWholeTrace s → IsWholeContract (residual_after book marks o s)
trace_whole book marks bodies o h s k = whole_through book marks bodies s k (normal book marks o) (IsWhole-normal book marks o h)
