-- Residuals can be written with the names that the contract, the book and the events can be written with.
use Rattle.std.proofs.Common.{◌≡◌, ℕ, not, List, [], ◌∷◌, fold, length, subst as along, Some, inl, inr}
use Rattle.std.specs.List.{All}
use Rattle.std.proofs.lemmas.List.Elements.{All-nil, All-cons, All-head, All-tail, All-push, All-map, All-filter, All-weaker, All-from_recursion}
use Rattle.poets_value.specs.declared.value.Name.{Name}
use Rattle.poets_value.specs.declared.event.Event.{Event}
use Rattle.poets_lex.specs.Table.{Table}
use Rattle.poets_expr.specs.Env.{Declared, same_name}
use Rattle.poets_expr.specs.Expression.{Expression}
use Rattle.poets_expr.specs.Subst.{Givens, subst}
use Rattle.poets_expr.specs.Fold.{fold_closed}
use Rattle.poets_syntax.specs.declared.term.Binders.{Binders}
use Rattle.poets_syntax.specs.declared.term.Param.{Param}
use Rattle.poets_syntax.specs.Contract.{Contract, Success, Failure, Transmit, Plus, Par, Seq, App}
use Rattle.poets_syntax.specs.Plain.{Book, Template}
use Rattle.poets_syntax.specs.Book.{template_in}
use Rattle.poets_syntax.specs.Replace.{binds, without, replace}
use Rattle.poets_syntax.specs.Givens.{event_givens, argument_givens}
use Rattle.poets_syntax.proofs.Replacing.{truth}
use Rattle.poets_meaning.specs.Marks.{Marks}
use Rattle.poets_calculus.specs.Normal.{folded, params_in, normal}
use Rattle.poets_calculus.specs.Residual.{after, after_at}
use Rattle.poets_norm.proofs.Parts.{IsOfParts, kept_by_normal}
use Rattle.poets_residue.proofs.Kept.{of_body, kept_by_after_at}
use Rattle.poets_print.specs.Laws.{CanWrite, CanWriteContract}
use Rattle.poets_books.specs.Laws.{CanWriteTemplate}
use Rattle.poets_named.specs.Laws.{ResidualsCanBeWritten}
use Rattle.poets_named.specs.Written.{IsListedEvent, CanWriteBook}
use Rattle.poets_named.proofs.ListedResults.{AreListedDeclared, IsListedOption, AreListedGivens, IsListed-val, CanWrite-subst, CanWrite-fold_closed}

module _ (names : Table) where
  listed_without : (b : Binders) (given : Givens) → AreListedGivens names given → AreListedGivens names (without b given)
  listed_without b given h = All-filter (λ p. not (binds b p.0)) (λ p. IsListedOption names p.1.value) given h

  pub CanWrite-replace : (given : Givens) (c : Contract) → AreListedGivens names given → CanWriteContract names c →
      CanWriteContract names (replace given c)
  CanWrite-replace given Success h i = tt
  CanWrite-replace given Failure h i = tt
  CanWrite-replace given (Transmit b p c) h i =
      let below = listed_without b given h in
      (i.0, CanWrite-subst names (without b given) p below i.1, CanWrite-replace (without b given) c below i.2)
  CanWrite-replace given (Plus a b) h i = (CanWrite-replace given a h i.0, CanWrite-replace given b h i.1)
  CanWrite-replace given (Par a b) h i = (CanWrite-replace given a h i.0, CanWrite-replace given b h i.1)
  CanWrite-replace given (Seq a b) h i = (CanWrite-replace given a h i.0, CanWrite-replace given b h i.1)
  CanWrite-replace given (App f args) h i = (
    i.0,
    All-map (CanWrite names) (subst given) args
        (All-weaker (CanWrite names) (λ a. CanWrite names (subst given a)) (λ a k. CanWrite-subst names given a h k) args i.1),
  )

  written_of_parts : IsOfParts (CanWriteContract names)
  written_of_parts = record {
    failure = tt;
    plus = λ a b h k. (h, k);
    par = λ a b h k. (h, k);
    seq = λ a b h k. (h, k);
    plus_parts = λ a b h. h;
    par_parts = λ a b h. h;
    seq_parts = λ a b h. h;
  }

  CanWrite-folded : (declared : Declared) → AreListedDeclared names declared → (params : List Param) (args : List Expression) →
      All (CanWrite names) args → All (CanWrite names) (folded declared params args)
  CanWrite-folded declared d [] [] h = h
  CanWrite-folded declared d [] (a ∷ args) h = h
  CanWrite-folded declared d (p ∷ params) [] h = h
  CanWrite-folded declared d (p ∷ params) (a ∷ args) h =
      All-cons (CanWrite names) (fold_closed declared a p.ty) (folded declared params args)
      (CanWrite-fold_closed names declared d a p.ty (All-head (CanWrite names) a args h))
      (CanWrite-folded declared d params args (All-tail (CanWrite names) a args h))

  pub CanWrite-normal : (book : Book) (marks : Marks) → AreListedDeclared names book.declared → (c : Contract) → CanWriteContract names c →
      CanWriteContract names (normal book marks c)
  CanWrite-normal book marks d = kept_by_normal book marks (CanWriteContract names) (record {
    of_parts = written_of_parts;
    below = λ b p c h. h.2;
    before = λ b p c d h k. (h.0, h.1, k);
    folded = λ f args h. (h.0, CanWrite-folded book.declared d (params_in book f) args h.1);
  })

  written_body : (templates : List Template) → All (CanWriteTemplate names) templates → (f : Name) (t : Template) →
      template_in templates f ≡ Some t → CanWriteContract names t.body
  written_body [] h f t q = absurd cc
  written_body (u ∷ templates) h f t q = elim (truth (same_name u.name f)) [
    | inl e ↦ (let here : Some u ≡ Some t = rw e at q in let same : u ≡ t = cc in along (λ v. CanWriteContract names v.body) same (All-head (CanWriteTemplate names) u templates h).body)
    | inr e ↦ written_body templates (All-tail (CanWriteTemplate names) u templates h) f t (rw e at q)
  ]

  -- what the binders stand for
  listed_event : (b : Binders) (e : Event) → IsListedEvent names e → AreListedGivens names (event_givens b e)
  listed_event b e h = All-from_recursion (λ p. IsListedOption names p.1.value) (event_givens b e) (tt, (h.kind, (h.receiver, (h.sender, tt))))

  -- what the parameters stand for
  listed_arguments : (declared : Declared) → AreListedDeclared names declared → (params : List Param) (args : List Expression) →
      All (CanWrite names) args → AreListedGivens names (argument_givens declared params args)
  listed_arguments declared d [] [] h = All-nil (λ p. IsListedOption names p.1.value)
  listed_arguments declared d [] (a ∷ args) h = All-nil (λ p. IsListedOption names p.1.value)
  listed_arguments declared d (p ∷ params) [] h = All-nil (λ p. IsListedOption names p.1.value)
  listed_arguments declared d (p ∷ params) (a ∷ args) h =
      All-push (λ q. IsListedOption names q.1.value) (argument_givens declared params args) _
      (listed_arguments declared d params args (All-tail (CanWrite names) a args h))
      (IsListed-val names declared d a (All-head (CanWrite names) a args h))

  pub CanWrite-after_at : (book : Book) (marks : Marks) → CanWriteBook names book → (e : Event) → IsListedEvent names e →
      (d : ℕ) (c : Contract) → CanWriteContract names c → CanWriteContract names (after_at d book marks e c)
  CanWrite-after_at book marks of e listed =
      kept_by_after_at book marks e (CanWriteContract names) written_of_parts
      (λ b p c h. CanWrite-normal book marks of.declared (replace (event_givens b e) c) (CanWrite-replace (event_givens b e) c (listed_event b e listed) h.2))
      (λ f args h. of_body book marks (CanWriteContract names) tt (template_in book.templates f) args
      (λ t q. CanWrite-normal book marks of.declared (replace (argument_givens book.declared t.params args) t.body)
      (CanWrite-replace (argument_givens book.declared t.params args) t.body
      (listed_arguments book.declared of.declared t.params args h.1) (written_body book.templates of.templates f t q))))

  written_through : (book : Book) (marks : Marks) → CanWriteBook names book → (s : List Event) → All (IsListedEvent names) s →
      (c : Contract) → CanWriteContract names c → CanWriteContract names (fold (λ d e. after book marks e d) c s)
  written_through book marks of [] h c k = k
  written_through book marks of (e ∷ s) h c k =
      written_through book marks of s (All-tail (IsListedEvent names) e s h) (after book marks e c)
      (CanWrite-after_at book marks of e (All-head (IsListedEvent names) e s h) (length book.templates) c k)

pub residuals_can_be_written : ResidualsCanBeWritten
residuals_can_be_written names book marks c trace of h listed =
    written_through names book marks of trace listed (normal book marks c) (CanWrite-normal names book marks of.declared c h)
