-- No two rows of a table stand for one contract.
use Rattle.std.proofs.Common.{◌≡◌, ℕ, zero, suc, ◌+◌, ◌<◌, arith, List, [], length, get_or, slice_get, Some, refl, sym, ◌∙◌, ap, ap₂, inl, inr}
use Rattle.std.proofs.lemmas.Option.{slice_get-get_or}
use Rattle.poets_syntax.specs.Contract.{Contract}
use Rattle.poets_cons.specs.Row.{Row, Success, Failure, Transmit, Plus, Par, Seq, App, contract_by, IsPart}
use Rattle.poets_cons.specs.Same.{same_row}
use Rattle.poets_cons.specs.code.SameRows.{row_itself}
use Rattle.poets_cons.specs.Table.{nth, grown, AreEarlier, AreDistinct}
use Rattle.poets_cons.proofs.Built.{same_place}
use Rattle.poets_cons.proofs.Belows.{part_below}
use Rattle.poets_cons.proofs.Growing.{grown-at}

-- rows with one contract are one, where parts with one contract are
rows_alike : (part : ℕ → Contract) (r s : Row) → contract_by part r ≡ contract_by part s → ((k l : ℕ) → IsPart r k → IsPart s l → part k ≡ part l → k ≡ l) → r ≡ s
rows_alike part Success Success e h = refl
rows_alike part Failure Failure e h = refl
rows_alike part (Transmit b p c) (Transmit d q f) e h =
    let then : part c ≡ part f = cc in
    let same = h c f refl refl then in
    cc
rows_alike part (Plus a b) (Plus c d) e h =
    let x : part a ≡ part c = cc in
    let y : part b ≡ part d = cc in
    ap₂ Plus (h a c (inl refl) (inl refl) x) (h b d (inr refl) (inr refl) y)
rows_alike part (Par a b) (Par c d) e h =
    let x : part a ≡ part c = cc in
    let y : part b ≡ part d = cc in
    ap₂ Par (h a c (inl refl) (inl refl) x) (h b d (inr refl) (inr refl) y)
rows_alike part (Seq a b) (Seq c d) e h =
    let x : part a ≡ part c = cc in
    let y : part b ≡ part d = cc in
    ap₂ Seq (h a c (inl refl) (inl refl) x) (h b d (inr refl) (inr refl) y)
rows_alike part (App f xs) (App g ys) e h = cc
rows_alike part _ _ e h = absurd cc

-- equal rows stand at one place
pub place_of_row : (rows : List Row) → AreDistinct rows → (i j : ℕ) (r : Row) → slice_get rows i ≡ Some r → slice_get rows j ≡ Some r → i ≡ j
place_of_row rows apart i j r a b = same_place same_row rows apart i j r r a b (row_itself r) (row_itself r)

module _ (rows : List Row) (earlier : AreEarlier rows) (apart : AreDistinct rows) where
  pub contract-at : (i : ℕ) (r : Row) → slice_get rows i ≡ Some r → nth (grown [] rows) i ≡ contract_by (nth (grown [] rows)) r
  contract-at i r e = let start : i ≡ 0 + i = omega arith in ap (nth (grown [] rows)) start ∙ grown-at [] rows i r e (λ k m. omega (arith, part_below i r (earlier i r e) k m))

  one_place-below : (n i j : ℕ) → i < n → i < length rows → j < length rows → nth (grown [] rows) i ≡ nth (grown [] rows) j → i ≡ j
  one_place-below zero i j l a b e = absurd (omega arith)
  one_place-below (suc n) i j l a b e =
      let r = get_or rows i Success in
      let s = get_or rows j Success in
      let at_i = slice_get-get_or rows i Success a in
      let at_j = slice_get-get_or rows j Success b in
      let both : contract_by (nth (grown [] rows)) r ≡ contract_by (nth (grown [] rows)) s = sym (contract-at i r at_i) ∙ e ∙ contract-at j s at_j in
      let same = rows_alike (nth (grown [] rows)) r s both (λ k m p q.
      let f = part_below i r (earlier i r at_i) k p in
      let g = part_below j s (earlier j s at_j) m q in
      one_place-below n k m (omega arith) (omega arith) (omega arith)) in
      place_of_row rows apart i j r at_i (at_j ∙ ap Some (sym same))

  -- places with one contract are one
  pub one_place : (i j : ℕ) → i < length rows → j < length rows → nth (grown [] rows) i ≡ nth (grown [] rows) j → i ≡ j
  one_place i j a b e = one_place-below (suc i) i j (omega arith) a b e
