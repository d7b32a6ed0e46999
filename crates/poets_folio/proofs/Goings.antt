-- Folds that go on from piece to piece.
use Rattle.std.proofs.Common.{◌≡◌, ℕ, ◌+◌, ◌≤◌, List, ◌++◌, Some, length, slice_get, take, subst}
use Rattle.std.proofs.lemmas.List.{append_assoc}
use Rattle.poets_value.specs.declared.event.Event.{Event}
use Rattle.poets_expr.specs.Env.{Declared}
use Rattle.poets_report.specs.Plain.{Report}
use Rattle.poets_report.specs.Folds.{FoldView, StandsFor, GoesOn}
use Rattle.poets_table.specs.Pieces.{joined}
use Rattle.poets_table.proofs.Pieces.{pieces-more, pieces-all}

module _ (declared : Declared) (q : Report) (pieces : List (List Event)) (first old new : FoldView) where
  -- with one piece more
  pub goes_on : (i : ℕ) (piece : List Event) → slice_get pieces i ≡ Some piece → GoesOn declared q (joined (take i pieces)) first old →
      GoesOn declared q piece old new → GoesOn declared q (joined (take (i + 1) pieces)) first new
  goes_on i piece e before more = λ args past stands.
      subst (λ es. StandsFor declared q args (past ++ es) new) (pieces-more i pieces piece e)
      (subst (λ es. StandsFor declared q args es new) (append_assoc past (joined (take i pieces)) piece)
      (more args (past ++ joined (take i pieces)) (before args past stands)))

  pub goes_over : (i : ℕ) → length pieces ≤ i → GoesOn declared q (joined (take i pieces)) first old → GoesOn declared q (joined pieces) first old
  goes_over i h before = subst (λ es. GoesOn declared q es first old) (pieces-all i pieces h) before
