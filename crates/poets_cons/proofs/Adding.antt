-- A node added to a table.
use Rattle.std.proofs.Common.{◌≡◌, ℕ, ◌<◌, true, false, arith, List, [], ◌∷◌, ◌++◌, length, get_or, slice_get, Some, map, refl, sym, ◌∙◌, ap, subst, inl, inr, append-nil, length-append, Bool, ◌||◌, option_map}
use Rattle.std.specs.List.{IsDistinct, list_any, AllByRecursion}
use Rattle.std.specs.Ordering.{on}
use Rattle.std.proofs.lemmas.List.{length-map, map-append}
use Rattle.std.proofs.lemmas.Option.{slice_get_within, slice_get-get_or, slice_get-map}
use Rattle.std.proofs.Math.Seq.{get_or-append_seam}
use Rattle.indexmap.specs.IndexSet.{insert_key}
use Rattle.poets_syntax.proofs.Replacing.{truth}
use Rattle.poets_cons.specs.declared.node.Node.{Node}
use Rattle.poets_cons.specs.Row.{Row, Success, row_of, contract_by, AreBelow}
use Rattle.poets_cons.specs.Same.{same_row}
use Rattle.poets_cons.specs.code.SameRows.{row_one}
use Rattle.poets_cons.specs.Table.{rows_of, contract_at, AreEarlier, AreDistinct, IsTable, with_row, Reached, Extends, AddsReached}
use Rattle.poets_cons.proofs.Built.{at_push, inserted}
use Rattle.poets_cons.proofs.Places.{place_of_row, contract-at}

-- the test of two nodes is that of their rows
abbrev pub same_node : Node → Node → Bool
same_node = on row_of same_row

apart-map : (r : Row) (nodes : List Node) → AllByRecursion (λ n. same_row r (row_of n) ≡ false) nodes → AllByRecursion (λ s. same_row r s ≡ false) (map row_of nodes)
apart-map r [] h = h
apart-map r (n ∷ nodes) h = (h.0, apart-map r nodes h.1)

pub distinct-map : (nodes : List Node) → IsDistinct same_node nodes → AreDistinct (rows_of nodes)
unfolding IsDistinct
distinct-map [] h = h
distinct-map (n ∷ nodes) h = (apart-map (row_of n) nodes h.0, distinct-map nodes h.1)

-- at the end a new row
pub earlier-push : (rows : List Row) (r : Row) → AreEarlier rows → AreBelow (length rows) r → AreEarlier (rows ++ r ∷ [])
earlier-push rows r earlier h i s e = elim (at_push rows r i s e) [ inl k ↦ earlier i s k | inr k ↦ rw k.0 (subst (AreBelow (length rows)) (sym k.1) h) ]

any-rows : (r : Row) (nodes : List Node) → list_any (λ n. same_row r (row_of n)) nodes ≡ list_any (same_row r) (rows_of nodes)
any-rows r [] = refl
any-rows r (n ∷ nodes) = ap (λ b. same_row r (row_of n) || b) (any-rows r nodes)

-- the rows with a node that is inserted
pub inserted_row : (nodes : List Node) (node : Node) → rows_of (insert_key same_node nodes node) ≡ with_row (row_of node) (rows_of nodes)
inserted_row nodes node =
    let same = any-rows (row_of node) nodes in
    elim (truth (list_any (same_node node) nodes)) [
      | inl t ↦ rw (t, sym same ∙ t) refl
      | inr t ↦ rw (t, sym same ∙ t) (map-append row_of nodes (node ∷ []))
    ]

module _ (old new : List Node) (node : Node) (table : IsTable old) (parts : AreBelow (length old) (row_of node))
    (made : new ≡ insert_key same_node old node) (unique : IsDistinct same_node new) where
  -- what holds before, and with the node at the end, holds after
  after : (P : List Node → Type 0) → P old → P (old ++ node ∷ []) → P new
  after P h g = subst P (sym made) (inserted same_node old node P h g)

  pub added_grows : Extends old new
  added_grows = after (Extends old) ([], sym (append-nil old)) (node ∷ [], refl)

  added_earlier : AreEarlier (rows_of new)
  added_earlier = after (λ nodes. AreEarlier (rows_of nodes)) table.earlier (subst AreEarlier (sym (map-append row_of old (node ∷ [])))
      (earlier-push (rows_of old) (row_of node) table.earlier (subst (λ n. AreBelow n (row_of node)) (sym (length-map old row_of)) parts)))

  pub added_table : IsTable new
  added_table = record { earlier = added_earlier; distinct = distinct-map new unique }

  module _ (place : ℕ) (row : slice_get (rows_of new) place ≡ Some (row_of node)) where
    pub added_reached : AddsReached old new place
    added_reached k l m = elim (truth (list_any (same_node node) old)) [
      | inl t ↦ (let e : new ≡ old = rw t at made in absurd (omega (arith, l, m, ap length e)))
      | inr t ↦ (
          let e : new ≡ old ++ node ∷ [] = rw t at made in
          let here : k ≡ length old = omega (arith, l, m, ap length e, length-append old (node ∷ [])) in
          let all : rows_of new ≡ rows_of old ++ row_of node ∷ [] = ap rows_of e ∙ map-append row_of old (node ∷ []) in
          let n : length (rows_of old) ≡ k = omega (arith, here, length-map old row_of) in
          let within : k < length (rows_of new) = omega (arith, m, length-map new row_of) in
          let last : get_or (rows_of new) k Success ≡ row_of node =
          ap (λ rows. get_or rows k Success) all ∙ ap (λ j. get_or (rows_of old ++ row_of node ∷ []) j Success) (sym n)
          ∙ get_or-append_seam (rows_of old) (row_of node) [] Success in
          let at_k = slice_get-get_or (rows_of new) k Success within ∙ ap Some last in
          let same : place ≡ k = place_of_row (rows_of new) (distinct-map new unique) place k (row_of node) row at_k in
          subst (Reached (rows_of new) place) same Reached.Root
          )
    ]

-- the row of a node that was found
pub row_found : (nodes : List Node) (place : ℕ) (node found : Node) → slice_get nodes place ≡ Some found → same_node node found ≡ true →
    slice_get (rows_of nodes) place ≡ Some (row_of node)
row_found nodes place node found e s =
    slice_get-map row_of nodes place ∙ ap (option_map row_of) e ∙ ap Some (sym (row_one (row_of node) (row_of found) s))

-- a table without rows
pub table-none : (nodes : List Node) → IsDistinct same_node nodes → length nodes ≡ 0 → IsTable nodes
table-none nodes unique none = record {
  earlier = λ i r e. absurd (omega (arith, none, slice_get_within (rows_of nodes) i r e, length-map nodes row_of));
  distinct = distinct-map nodes unique;
}

-- what a node of a table says of its row
module _ (nodes : List Node) (table : IsTable nodes) (place : ℕ) (node : Node) (here : slice_get nodes place ≡ Some node) where
  row_here : slice_get (rows_of nodes) place ≡ Some (row_of node)
  row_here = slice_get-map row_of nodes place ∙ ap (option_map row_of) here

  pub node_contract : contract_at nodes place ≡ contract_by (contract_at nodes) (row_of node)
  node_contract = contract-at (rows_of nodes) table.earlier table.distinct place (row_of node) row_here

  pub node_below : AreBelow place (row_of node)
  node_below = table.earlier place (row_of node) row_here
