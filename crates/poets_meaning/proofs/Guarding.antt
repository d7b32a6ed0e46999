-- Paths of unguarded edges, and exposed applications.
use Rattle.std.proofs.Common.{List, [], ◌∷◌}
use Rattle.poets_value.specs.declared.value.Name.{Name}
use Rattle.poets_expr.specs.Expression.{Expression}
use Rattle.poets_syntax.specs.Contract.{Contract}
use Rattle.poets_syntax.specs.Plain.{Book}
use Rattle.poets_syntax.specs.Applied.{CountsFit}
use Rattle.poets_meaning.specs.Marks.{Marks, AreRight}
use Rattle.poets_meaning.specs.Exposed.{EachExposed}
use Rattle.poets_meaning.specs.Guarded.{Exposes, IsPath}
use Rattle.poets_meaning.proofs.Nullability.{nullable_performed, EachExposed-fits}

module _ (Edge : Name → Name → Type 0) where
  -- some path leads from the first name to the second
  abbrev pub Reaches : Name → Name → Type 0
  Reaches f g = (names : List Name) × IsPath Edge f names g

  -- an edge more at the end
  pub further : (f g h : Name) (names : List Name) → IsPath Edge f names g → Edge g h → Reaches f h
  further f g h [] k e = (g ∷ [], (k, e))
  further f g h (x ∷ names) k e = let l = further x g h names k.1 e in (x ∷ l.0, (k.0, l.1))

module _ (book : Book) (marks : Marks) (right : AreRight book marks) where
  -- what holds of each exposed name holds of the exposed applications
  pub EachExposed-by : (P : Name → Type 0) (c : Contract) → CountsFit book c → ((g : Name) → Exposes book c g → P g) →
      EachExposed (λ g _. P g) marks c
  EachExposed-by P Contract.Success h k = tt
  EachExposed-by P Contract.Failure h k = tt
  EachExposed-by P (Contract.Transmit b p c) h k = tt
  EachExposed-by P (Contract.Plus a b) h k =
      (EachExposed-by P a h.0 (λ g x. k g (Exposes.PlusLeft x)), EachExposed-by P b h.1 (λ g x. k g (Exposes.PlusRight x)))
  EachExposed-by P (Contract.Par a b) h k =
      (EachExposed-by P a h.0 (λ g x. k g (Exposes.ParLeft x)), EachExposed-by P b h.1 (λ g x. k g (Exposes.ParRight x)))
  EachExposed-by P (Contract.Seq a b) h k = (
    EachExposed-by P a h.0 (λ g x. k g (Exposes.SeqFirst x)),
    λ e. EachExposed-by P b h.1 (λ g x. k g (Exposes.SeqSecond (nullable_performed book marks right [] a (EachExposed-fits book marks a h.0) e) x)),
  )
  EachExposed-by P (Contract.App f args) h k = k f Exposes.Here

-- two facts of the exposed applications at once
pub EachExposed-both : (Is Is' : Name → List Expression → Type 0) (marks : Marks) (c : Contract) → EachExposed Is marks c → EachExposed Is' marks c →
    EachExposed (λ f args. Is f args × Is' f args) marks c
EachExposed-both Is Is' marks Contract.Success h k = tt
EachExposed-both Is Is' marks Contract.Failure h k = tt
EachExposed-both Is Is' marks (Contract.Transmit b p c) h k = tt
EachExposed-both Is Is' marks (Contract.Plus a b) h k = (EachExposed-both Is Is' marks a h.0 k.0, EachExposed-both Is Is' marks b h.1 k.1)
EachExposed-both Is Is' marks (Contract.Par a b) h k = (EachExposed-both Is Is' marks a h.0 k.0, EachExposed-both Is Is' marks b h.1 k.1)
EachExposed-both Is Is' marks (Contract.Seq a b) h k = (EachExposed-both Is Is' marks a h.0 k.0, λ e. EachExposed-both Is Is' marks b (h.1 e) (k.1 e))
EachExposed-both Is Is' marks (Contract.App f args) h k = (h, k)
