-- The rows of a table, added one by one to an empty one.
use Rattle.std.proofs.Common.{◌≡◌, ℕ, ◌+◌, ◌<◌, arith, List, [], ◌∷◌, ◌++◌, length, take, get_or, slice_get, Some, sym, ◌∙◌, ap, subst, inl, inr}
use Rattle.std.specs.List.{list_any}
use Rattle.std.proofs.lemmas.List.{length-take, get_or-take, take_more}
use Rattle.std.proofs.lemmas.Option.{get_or_from_slice_get, slice_get-get_or, slice_get_within}
use Rattle.std.proofs.lemmas.Map.Views.{Contains-from_any}
use Rattle.poets_syntax.proofs.Replacing.{truth}
use Rattle.poets_cons.specs.Row.{Row, AreBelow}
use Rattle.poets_cons.specs.Same.{same_row}
use Rattle.poets_cons.specs.code.SameRows.{row_one}
use Rattle.poets_cons.specs.Table.{AreEarlier, AreDistinct, with_row}
use Rattle.poets_cons.proofs.Places.{place_of_row}

module _ (rows : List Row) (i : ℕ) (r : Row) (here : slice_get rows i ≡ Some r) where
  -- a row is none of those before it
  pub next_row : AreDistinct rows → with_row r (take i rows) ≡ take (i + 1) rows
  next_row apart =
      let within = slice_get_within rows i r here in
      let last : take (i + 1) rows ≡ take i rows ++ r ∷ [] =
      take_more rows i r within ∙ ap (λ s. take i rows ++ s ∷ []) (get_or_from_slice_get rows i r r here) in
      elim (truth (list_any (same_row r) (take i rows))) [
        | inl t ↦ (
            let found = Contains-from_any row_one r (take i rows) t in
            let l : found.0 < i = omega (arith, found.1, within, length-take i rows) in
            let there : get_or rows found.0 r ≡ r = sym (get_or-take i rows found.0 r l) ∙ found.2 in
            let same = place_of_row rows apart found.0 i r (slice_get-get_or rows found.0 r (omega (arith, l, within)) ∙ ap Some there) here in
            absurd (omega (arith, l, same))
            )
        | inr t ↦ rw t (sym last)
      ]

  -- its parts are among those before it
  pub next_below : AreEarlier rows → AreBelow (length (take i rows)) r
  next_below earlier =
      let within = slice_get_within rows i r here in
      let n : i ≡ length (take i rows) = omega (arith, within, length-take i rows) in
      subst (λ k. AreBelow k r) n (earlier i r here)
