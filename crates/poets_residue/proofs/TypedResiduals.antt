-- Residuals of typed contracts in typed books are typed.
use Rattle.std.proofs.Common.{ℕ, All, List, [], ◌∷◌, length, fold, refl}
use Rattle.std.proofs.lemmas.List.Elements.{All-head, All-tail}
use Rattle.poets_value.specs.declared.value.Name.{Name}
use Rattle.poets_value.specs.declared.event.Event.{Event}
use Rattle.poets_expr.specs.Expression.{Expression}
use Rattle.poets_syntax.specs.declared.term.Binders.{Binders}
use Rattle.poets_syntax.specs.Contract.{Contract, Transmit, App}
use Rattle.poets_syntax.specs.Plain.{Book}
use Rattle.poets_syntax.specs.Book.{template_in}
use Rattle.poets_syntax.specs.Replace.{replace}
use Rattle.poets_syntax.specs.WellFormed.{IsDeclaredEvent}
use Rattle.poets_syntax.specs.Givens.{event_givens, argument_givens}
use Rattle.poets_syntax.specs.code.Passing.{ContractPasses, BookPasses}
use Rattle.poets_syntax.proofs.TypedReplacing.{KeepsTypes-nil}
use Rattle.poets_syntax.proofs.TypedGivens.{ContractPasses-event, ContractPasses-arguments}
use Rattle.poets_meaning.specs.Marks.{Marks}
use Rattle.poets_calculus.specs.Normal.{normal}
use Rattle.poets_calculus.specs.Residual.{after_at, after, body_of, residual_after}
use Rattle.poets_norm.proofs.TypedNormals.{ContractPasses-of_parts, ContractPasses-normal}
use Rattle.poets_residue.proofs.Kept.{kept_by_after_at, of_body}

module _ (book : Book) (reports : List Name) (marks : Marks) where
  closed_normal : (c : Contract) → ContractPasses book reports [] c → ContractPasses book reports [] (normal book marks c)
  closed_normal = ContractPasses-normal book reports marks [] (KeepsTypes-nil book.declared)

  ContractPasses-taken : (e : Event) → IsDeclaredEvent book.declared e → (b : Binders) (p : Expression) (c : Contract) →
      ContractPasses book reports [] (Transmit b p c) → ContractPasses book reports [] (normal book marks (replace (event_givens b e) c))
  ContractPasses-taken e declared b p c h = closed_normal (replace (event_givens b e) c) (ContractPasses-event book reports b p c e declared h)

  module _ (typed : BookPasses book reports) where
    pub ContractPasses-body_of : (f : Name) (args : List Expression) → ContractPasses book reports [] (App f args) →
        ContractPasses book reports [] (body_of book marks (template_in book.templates f) args)
    ContractPasses-body_of f args h =
        of_body book marks (ContractPasses book reports []) refl (template_in book.templates f) args
        (λ t q. closed_normal (replace (argument_givens book.declared t.params args) t.body) (ContractPasses-arguments book reports typed f args t q h))

    pub ContractPasses-after_at : (e : Event) → IsDeclaredEvent book.declared e → (d : ℕ) (c : Contract) → ContractPasses book reports [] c →
        ContractPasses book reports [] (after_at d book marks e c)
    ContractPasses-after_at e declared =
        kept_by_after_at book marks e (ContractPasses book reports []) (ContractPasses-of_parts book reports []) (ContractPasses-taken e declared) ContractPasses-body_of

    through_typed : (s : List Event) (c : Contract) → All (IsDeclaredEvent book.declared) s → ContractPasses book reports [] c →
        ContractPasses book reports [] (fold (λ d e. after book marks e d) c s)
    through_typed [] c events h = h
    through_typed (e ∷ s) c events h =
        through_typed s (after book marks e c) (All-tail (IsDeclaredEvent book.declared) e s events)
        (ContractPasses-after_at e (All-head (IsDeclaredEvent book.declared) e s events) (length book.templates) c h)

    pub ContractPasses-residual_after : (o : Contract) (s : List Event) → All (IsDeclaredEvent book.declared) s → ContractPasses book reports [] o →
        ContractPasses book reports [] (residual_after book marks o s)
    ContractPasses-residual_after o s events h = through_typed s (normal book marks o) events (closed_normal o h)
