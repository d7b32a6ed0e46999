-- The first of several names that no row has.
use Rattle.std.proofs.Common.{◌≡◌, ◌≢◌, ℕ, zero, suc, ◌+◌, ◌<◌, List, [], ◌∷◌, Option, Some, None, length, drop, get_or, sym, ◌∙◌, ap, arith, add-one, drop-cons}
use Rattle.poets_value.specs.declared.value.Name.{Name}
use Rattle.poets_syntax.specs.declared.term.Term.{Term}
use Rattle.poets_cons.specs.declared.node.Node.{Node}
use Rattle.poets_table.specs.TableView.{RowView, number_named}
use Rattle.poets_engine.specs.code.Parts.{absent_or_later, absent_from}

module _ (rows : List (RowView Term (List Node))) where
  -- one name more
  one_more : (names : List Name) (i : ℕ) (d : Name) → i < length names →
      absent_from rows (drop i names) ≡ absent_or_later (get_or names i d) (number_named (get_or names i d) rows) (absent_from rows (drop (i + 1) names))
  one_more names i d h =
      ap (absent_from rows) (drop-cons names i d h)
      ∙ ap (λ n. absent_or_later (get_or names i d) (number_named (get_or names i d) rows) (absent_from rows (drop n names))) (sym (add-one i))

  -- a name that a row has
  pub absent_later : (names : List Name) (i : ℕ) (d : Name) (n : ℕ) → i < length names → Some n ≡ number_named (get_or names i d) rows →
      absent_from rows (drop i names) ≡ absent_from rows (drop (i + 1) names)
  absent_later names i d n h e =
      one_more names i d h ∙ ap (λ o. absent_or_later (get_or names i d) o (absent_from rows (drop (i + 1) names))) (sym e)

  -- a name that none has
  pub absent_here : (names : List Name) (i : ℕ) (d : Name) → i < length names → None ≡ number_named (get_or names i d) rows →
      absent_from rows (drop i names) ≡ Some (get_or names i d)
  absent_here names i d h e =
      one_more names i d h ∙ ap (λ o. absent_or_later (get_or names i d) o (absent_from rows (drop (i + 1) names))) (sym e)

  some_here : (x : Name) (o : Option ℕ) (later : Option Name) → absent_or_later x o later ≡ None → (o ≢ None) × (later ≡ None)
  some_here x None later e = absurd cc
  some_here x (Some n) later e = ((λ z. absurd cc), e)

  -- where no name is absent, a row has each
  pub all_there : (names : List Name) (i : ℕ) (d : Name) → i < length names → absent_from rows names ≡ None → number_named (get_or names i d) rows ≢ None
  all_there [] i d h e = absurd (omega (arith, h))
  all_there (x ∷ names) zero d h e = (some_here x (number_named x rows) (absent_from rows names) e).0
  all_there (x ∷ names) (suc i) d h e = all_there names i d (omega (arith, h)) (some_here x (number_named x rows) (absent_from rows names) e).1
