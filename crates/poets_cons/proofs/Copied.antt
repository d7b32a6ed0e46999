-- Rows that are copied out of a table.
use Rattle.std.proofs.Common.{◌≡◌, ℕ, ◌+◌, ◌<◌, false, nat_eq, cond, arith, List, [], ◌∷◌, ◌++◌, length, get_or, slice_get, Option, Some, None, refl, sym, ◌∙◌, ap, subst, inl, inr, length-append, eq-eqb, Result, Ok, Err, IfOk, OnOk}
use borrow.Author.Tests.{eqb-true}
use Rattle.std.specs.List.{list_any, IsDistinct}
use Rattle.std.proofs.lemmas.Bool.{cases_lt}
use Rattle.std.proofs.lemmas.List.{length-map, map-append}
use Rattle.std.proofs.lemmas.Option.{slice_get-get_or}
use Rattle.std.proofs.lemmas.Map.Keys.{IsDistinct-push}
use Rattle.std.proofs.lemmas.Map.Views.{Contains-from_any}
use Rattle.std.proofs.Math.Seq.{get_or-append_seam}
use Rattle.poets_value.specs.declared.fault.Memory.{Memory}
use Rattle.poets_expr.specs.Expression.{Expression}
use Rattle.poets_syntax.specs.declared.term.Binders.{Binders}
use Rattle.poets_syntax.specs.Contract as C
use Rattle.poets_syntax.proofs.Replacing.{truth}
use Rattle.poets_cons.specs.declared.node.Node.{Node}
use Rattle.poets_cons.specs.code.Copies.{AreCopies, AreBothCopied, ArePartsCopied, IsAppended, IsCopied}
use Rattle.poets_cons.specs.Row.{Row, Success, Transmit, row_of, contract_by, IsPart, AreBelow}
use Rattle.poets_cons.specs.Same.{same_row}
use Rattle.poets_cons.specs.code.SameRows.{row_one, row_laws}
use Rattle.poets_cons.specs.Table.{rows_of, contract_at, AreEarlier, AreDistinct, IsTable, Reached, Stands}
use Rattle.poets_cons.proofs.Adding.{earlier-push}
use Rattle.poets_cons.proofs.Places.{contract-at, one_place}
use Rattle.poets_cons.proofs.Reaching.{reached_by, reached_later, reached_both}
use Rattle.poets_cons.proofs.Standing.{extends_not, extends_twice, stands_by, stands_later}

-- a new row at the end
module _ (old : List Node) (node : Node) (table : IsTable old) (parts : AreBelow (length old) (row_of node))
    (none : list_any (same_row (row_of node)) (rows_of old) ≡ false) where
  all_rows : rows_of (old ++ node ∷ []) ≡ rows_of old ++ row_of node ∷ []
  all_rows = map-append row_of old (node ∷ [])

  one_longer : length (old ++ node ∷ []) ≡ length old + 1
  one_longer = length-append old (node ∷ [])

  appended_table : IsTable (old ++ node ∷ [])
  appended_table = record {
    earlier = subst AreEarlier (sym all_rows)
        (earlier-push (rows_of old) (row_of node) table.earlier (subst (λ n. AreBelow n (row_of node)) (sym (length-map old row_of)) parts));
    distinct = subst AreDistinct (sym all_rows) (IsDistinct-push row_laws (rows_of old) (row_of node) table.distinct none);
  }

  appended_row : slice_get (rows_of (old ++ node ∷ [])) (length old) ≡ Some (row_of node)
  appended_row =
      let n = length-map old row_of in
      let within : length old < length (rows_of (old ++ node ∷ [])) = omega (arith, one_longer, length-map (old ++ node ∷ []) row_of) in
      slice_get-get_or (rows_of (old ++ node ∷ [])) (length old) Success within
      ∙ ap Some (ap (λ rows. get_or rows (length old) Success) all_rows ∙ ap (λ j. get_or (rows_of old ++ row_of node ∷ []) j Success) (sym n)
      ∙ get_or-append_seam (rows_of old) (row_of node) [] Success)

  pub appended : IsAppended old (old ++ node ∷ []) (row_of node) (length old)
  appended = record {
    grows = (node ∷ [], refl);
    table = appended_table;
    stands = stands_by old (old ++ node ∷ []) (node ∷ [], refl) appended_table.earlier (length old) (row_of node) appended_row parts;
    row = appended_row;
    last = refl;
    longer = one_longer;
  }

-- the copy of a row that is not noted is new
pub copy_is_new : (from into : List Node) (copies : ℕ → Option ℕ) (place : ℕ) (r : Row) → IsTable from → AreCopies from into copies → place < length from →
    copies place ≡ None → contract_by (contract_at into) r ≡ contract_at from place → list_any (same_row r) (rows_of into) ≡ false
copy_is_new from into copies place r table all within none contract = elim (truth (list_any (same_row r) (rows_of into))) [
  | inl t ↦ (
      let found = Contains-from_any row_one r (rows_of into) t in
      let l : found.0 < length into = omega (arith, found.1, length-map into row_of) in
      let here : slice_get (rows_of into) found.0 ≡ Some r = slice_get-get_or (rows_of into) found.0 r found.1 ∙ ap Some found.2 in
      let k = all.noted found.0 l in
      let s = all.stand k.0 found.0 k.2 in
      let same = sym s.contract ∙ contract-at (rows_of into) all.table.earlier all.table.distinct found.0 r here ∙ contract in
      let n = length-map from row_of in
      let one = one_place (rows_of from) table.earlier table.distinct k.0 place (omega (arith, k.1, n)) (omega (arith, within, n)) same in
      let other : Some found.0 ≡ None = sym k.2 ∙ ap copies one ∙ none in
      absurd cc
      )
  | inr t ↦ t
]

-- a row whose copy is noted
pub known_copied : (from into : List Node) (copies : ℕ → Option ℕ) (place copy : ℕ) → AreCopies from into copies → copies place ≡ Some copy →
    IsCopied from into into copies copies place copy
known_copied from into copies place copy all known = record {
  grows = extends_not into;
  copies = all;
  stands = all.stand place copy known;
  reached = λ k l m. absurd (omega (arith, l, m));
  later = λ k l. refl;
}

-- a row whose parts were copied, and which was then added and noted
module _ (from old mid new : List Node) (before parts after : ℕ → Option ℕ) (place copy : ℕ) (r : Row) (within : place < length from)
    (none : before place ≡ None) (p : ArePartsCopied from old mid before parts place r) (a : IsAppended mid new r copy)
    (notes : (k : ℕ) → after k ≡ cond (nat_eq place k) (Some copy) (parts k)) where
  here_stands : Stands new copy (contract_at from place)
  here_stands = record { within = a.stands.within; contract = a.stands.contract ∙ p.contract }

  unnoted : parts place ≡ None
  unnoted = p.later place (omega arith) ∙ none

  noted_here : after place ≡ Some copy
  noted_here = notes place ∙ ap (λ b. cond b (Some copy) (parts place)) (eq-eqb place place refl)

  noted_other : (k : ℕ) → nat_eq place k ≡ false → after k ≡ parts k
  noted_other k t = notes k ∙ ap (λ b. cond b (Some copy) (parts k)) t

  copies_after : AreCopies from new after
  copies_after = record {
    table = a.table;
    stand = λ k q e. elim (truth (nat_eq place k)) [
      | inl t ↦ (
          let same : place ≡ k = eqb-true place k t in
          let found : Some copy ≡ Some q = sym noted_here ∙ ap after same ∙ e in
          let one : copy ≡ q = cc in
          subst (λ j. Stands new j (contract_at from k)) one (subst (λ j. Stands new copy (contract_at from j)) same here_stands)
          )
      | inr t ↦ stands_later mid new a.grows q (contract_at from k) (p.copies.stand k q (sym (noted_other k t) ∙ e))
    ];
    noted = λ q l. elim (cases_lt q (length mid)) [
      | inl m ↦ (
          let k = p.copies.noted q m in
          elim (truth (nat_eq place k.0)) [
            | inl t ↦ (
                let other : Some q ≡ None = sym k.2 ∙ ap parts (sym (eqb-true place k.0 t)) ∙ unnoted in
                absurd cc
                )
            | inr t ↦ (k.0, k.1, noted_other k.0 t ∙ k.2)
          ]
          )
      | inr m ↦ (
          let last : copy ≡ q = omega (arith, l, m, a.last, a.longer) in
          (place, within, noted_here ∙ ap Some last)
          )
    ];
  }

  pub copied : IsCopied from old new before after place copy
  copied = record {
    grows = extends_twice old mid new p.grows a.grows;
    copies = copies_after;
    stands = here_stands;
    reached = λ k l m. elim (cases_lt k (length mid)) [
      | inl n ↦ (
          let part = p.reached k l n in
          reached_by (rows_of new) copy part.0 k r a.row part.1 (reached_later mid new a.grows part.2)
          )
      | inr n ↦ (
          let last : copy ≡ k = omega (arith, m, n, a.last, a.longer) in
          subst (Reached (rows_of new) copy) last Reached.Root
          )
    ];
    later = λ k l. elim (truth (nat_eq place k)) [
      | inl t ↦ absurd (omega (arith, l, eqb-true place k t))
      | inr t ↦ noted_other k t ∙ p.later k (omega (arith, l))
    ];
  }

-- two steps of copying, one after the other
module _ (from old mid new : List Node) (before parts after : ℕ → Option ℕ) where
  -- two rows
  pub both_copied : (a b first second : ℕ) → IsCopied from old mid before parts a first → IsCopied from mid new parts after b second →
      AreBothCopied from old new before after a b first second
  both_copied a b first second x y = record {
    grows = extends_twice old mid new x.grows y.grows;
    copies = y.copies;
    first_stands = stands_later mid new y.grows first (contract_at from a) x.stands;
    second_stands = y.stands;
    reached = reached_both old mid new y.grows first second x.reached y.reached;
    later = λ k l m. y.later k m ∙ x.later k l;
  }

  -- the parts of a row, and then the row, whose copy is noted
  pub noted_copied : (place copy : ℕ) (r : Row) (result : Result ℕ Memory) → place < length from → before place ≡ None →
      ArePartsCopied from old mid before parts place r → IsAppended mid new r copy → IfOk result (λ p. p ≡ copy) →
      OnOk result ((k : ℕ) → after k ≡ cond (nat_eq place k) (Some copy) (parts k)) → IfOk result (IsCopied from old new before after place)
  noted_copied place copy r (Ok p) within none h a same notes =
      subst (IsCopied from old new before after place) (sym same) (copied from old mid new before parts after place copy r within none h a notes)
  noted_copied place copy r (Err e) within none h a same notes = tt

-- a row without parts
pub no_parts_copied : (from into : List Node) (copies : ℕ → Option ℕ) (place : ℕ) (r : Row) → AreCopies from into copies → AreBelow (length into) r →
    contract_by (contract_at into) r ≡ contract_at from place → ArePartsCopied from into into copies copies place r
no_parts_copied from into copies place r all below contract = record {
  grows = extends_not into;
  copies = all;
  below = below;
  contract = contract;
  reached = λ k l m. absurd (omega (arith, l, m));
  later = λ k l. refl;
}

module _ (from old new : List Node) (before after : ℕ → Option ℕ) (place : ℕ) where
  -- a transmit
  pub one_part_copied : (b : Binders) (e : Expression) (then p : ℕ) → IsCopied from old new before after then p → then < place →
      contract_at from place ≡ C.Transmit b e (contract_at from then) → ArePartsCopied from old new before after place (Transmit b e p)
  one_part_copied b e then p x l whole = record {
    grows = x.grows;
    copies = x.copies;
    below = x.stands.within;
    contract = ap (C.Transmit b e) x.stands.contract ∙ sym whole;
    reached = λ k m n. (p, refl, x.reached k m n);
    later = λ k m. x.later k (omega (arith, l, m));
  }

  -- a row of two parts
  pub two_parts_copied : (a b p q : ℕ) → AreBothCopied from old new before after a b p q → a < place → b < place →
      (r : Row) → IsPart r p → IsPart r q → (p < length new → q < length new → AreBelow (length new) r) →
      contract_by (contract_at new) r ≡ contract_at from place → ArePartsCopied from old new before after place r
  two_parts_copied a b p q x l m r first second below contract = record {
    grows = x.grows;
    copies = x.copies;
    below = below x.first_stands.within x.second_stands.within;
    contract = contract;
    reached = λ k n o. elim (x.reached k n o) [
      | inl g ↦ (p, first, g)
      | inr g ↦ (q, second, g)
    ];
    later = λ k n. x.later k (omega (arith, l, n)) (omega (arith, m, n));
  }

-- before any row is copied
none_distinct : AreDistinct []
unfolding IsDistinct
none_distinct = tt

pub no_copies : (from into : List Node) (copies : ℕ → Option ℕ) → into ≡ [] → ((k : ℕ) → copies k ≡ None) → AreCopies from into copies
no_copies from into copies none unnoted = subst (λ nodes. AreCopies from nodes copies) (sym none) record {
  table = record {
    earlier = λ i r e. absurd cc;
    distinct = none_distinct;
  };
  stand = λ k p e. let no : None ≡ Some p = sym (unnoted k) ∙ e in absurd cc;
  noted = λ p l. absurd (omega (arith, l));
}
