-- Which rows are alike, by what is kept of them.
use Rattle.std.proofs.Common.{◌≡◌, ℕ, ◌<◌, Bool, true, false, ◌||◌, nat_eq, arith, List, [], ◌∷◌, ◌++◌, length, slice_get, map, Some, None, not, refl, sym, ◌∙◌, ap, ap₂, subst, inl, inr, eq-eqb, eqb-true, if◌then◌else◌}
use Rattle.std.specs.Prelude.{◌↔◌, IsTrue}
use Rattle.std.proofs.lemmas.Bool.{false≢true}
use Rattle.std.proofs.lemmas.List.{length-map}
use Rattle.poets_syntax.specs.Contract.{Contract}
use Rattle.poets_syntax.specs.Contract as C
use Rattle.poets_syntax.proofs.Replacing.{truth}
use Rattle.poets_calculus.specs.Alike.{Alike}
use Rattle.poets_calculus.proofs.Multisets.{Alike-sym, Alike-trans}
use Rattle.poets_cons.specs.declared.classes.Classes.{Classes}
use Rattle.poets_cons.specs.declared.form.Form.{Form}
use Rattle.poets_cons.specs.declared.node.Node.{Node}
use Rattle.poets_cons.specs.Forms.{has_parallel}
use Rattle.poets_cons.specs.Notes.{noted}
use Rattle.poets_cons.specs.Row.{row_of}
use Rattle.poets_cons.specs.Table.{rows_of, contracts_of, contract_at, AreAlikeAt, IsTable, Extends}
use Rattle.poets_cons.specs.code.Adding.{with_form, may_be_alike}
use Rattle.poets_cons.specs.code.Classes.{shape_of, same_shape, shapes_of, AreShapes, HasClass, AreKnown}
use Rattle.poets_cons.specs.code.Bags.{AreBags}
use Rattle.poets_cons.specs.code.Forms.{weight, cut, form_of, AreForms, IsFormOf}
use Rattle.poets_cons.proofs.Classing.{one_shape}
use Rattle.poets_cons.proofs.Formed.{form_here, forms_push}
use Rattle.poets_cons.proofs.Places.{one_place}
use Rattle.poets_cons.proofs.ShapeTables.{one_class}
use Rattle.poets_cons.proofs.Bags.{no_bags}
use Rattle.poets_cons.proofs.Weights.{Alike-weight}
use Rattle.poets_cons.proofs.Standing.{length-contracts, length-extends, contract_at-later}
use Rattle.poets_cons.proofs.Adding.{same_node}
use Rattle.std.specs.List.{list_any, IsDistinct}
use Rattle.indexmap.specs.IndexSet.{insert_key}

pub alike_parallel : {c d : Contract} → Alike c d → has_parallel c ≡ has_parallel d
alike_parallel Alike.Success = refl
alike_parallel Alike.Failure = refl
alike_parallel (Alike.Transmit h) = alike_parallel h
alike_parallel (Alike.Plus h k) = ap₂ (λ x y. x || y) (alike_parallel h) (alike_parallel k)
alike_parallel (Alike.Par h) = refl
alike_parallel (Alike.Seq h k) = ap₂ (λ x y. x || y) (alike_parallel h) (alike_parallel k)
alike_parallel Alike.App = refl

or_none : (x y : Bool) → (x || y) ≡ false → (x ≡ false) × (y ≡ false)
or_none true y e = absurd (false≢true (sym e))
or_none false y e = (refl, e)

-- a contract without `||` is alike to itself alone
pub alike_one : {c d : Contract} → Alike c d → has_parallel c ≡ false → c ≡ d
alike_one Alike.Success e = refl
alike_one Alike.Failure e = refl
alike_one (Alike.Transmit {b = b} {p = p} h) e = ap (C.Transmit b p) (alike_one h e)
alike_one (Alike.Plus {a = a} {b = b} h k) e =
    let n = or_none (has_parallel a) (has_parallel b) e in
    ap₂ C.Plus (alike_one h n.0) (alike_one k n.1)
alike_one (Alike.Par h) e = absurd (false≢true (sym e))
alike_one (Alike.Seq {a = a} {b = b} h k) e =
    let n = or_none (has_parallel a) (has_parallel b) e in
    ap₂ C.Seq (alike_one h n.0) (alike_one k n.1)
alike_one Alike.App e = refl

module _ (nodes : List Node) (table : IsTable nodes) (a b : ℕ) (first : a < length nodes) (second : b < length nodes) where
  -- other rows whose forms do not let them be alike
  pub not_alike : (forms : List Form) → AreForms nodes forms → (f g : Form) → slice_get forms a ≡ Some f → slice_get forms b ≡ Some g →
      (a ≡ b → ⊥) → may_be_alike f g ≡ false → AreAlikeAt nodes a b → ⊥
  not_alike forms all f g at_a at_b other none alike =
      let x = form_here nodes forms all a f at_a in
      let y = form_here nodes forms all b g at_b in
      let test = sym (ap₂ may_be_alike x y) ∙ none in
      let n = length-map nodes row_of in
      elim (truth (has_parallel (contract_at nodes a))) [
        | inr t ↦ (
            let same = one_place (rows_of nodes) table.earlier table.distinct a b (omega (arith, first, n)) (omega (arith, second, n)) (alike_one alike t) in
            other same
            )
        | inl t ↦ (
            let u = sym (alike_parallel alike) ∙ t in
            let weights = eq-eqb (cut (weight (contract_at nodes a))) (cut (weight (contract_at nodes b))) (ap cut (Alike-weight alike)) in
            false≢true (sym test ∙ rw (t, u, weights) refl)
            )
      ]

  -- rows by their classes
  pub by_classes : (known : Classes) → AreKnown nodes known → (k l : ℕ) → HasClass (shapes_of known) (contract_at nodes a) k →
      HasClass (shapes_of known) (contract_at nodes b) l → IsTrue (nat_eq k l) ↔ AreAlikeAt nodes a b
  by_classes known all k l h g =
      let e = one_class (λ c d x. Alike-sym x) (λ c d f x y. Alike-trans x y) (shapes_of known) all.classes.right
      (one_shape known.bags.keys known.shapes.keys all.classes.right all.bags all.distinct) (contract_at nodes a) (contract_at nodes b) k l h g in
      (λ t. e.0 (eqb-true k l t), λ x. eq-eqb k l (e.1 x))

-- the forms of a table's rows after a node was inserted
pub forms_after : (old : List Node) (node : Node) (forms : List Form) (form : Form) (is_new : Bool) → AreForms old forms → IsFormOf forms node form →
    AreForms (if is_new then old ++ node ∷ [] else old) (with_form is_new form forms)
forms_after old node forms form true all made =
    subst (λ f. AreForms (old ++ node ∷ []) (forms ++ f ∷ [])) (sym (made old all)) (forms_push old node forms all)
forms_after old node forms form false all made = all

-- there are as many forms as rows
pub as_many_forms : (nodes : List Node) (forms : List Form) → AreForms nodes forms → length forms ≡ length nodes
as_many_forms nodes forms all = ap length all ∙ length-map (contracts_of nodes) form_of ∙ length-contracts nodes

-- the classes of rows stay where rows come at the end
pub classes_later : (old new : List Node) (known : Classes) → Extends old new → AreKnown old known → AreKnown new known
classes_later old new known grows all = record {
  bags = all.bags;
  distinct = all.distinct;
  classes = record {
    right = all.classes.right;
    rows = λ i k e.
        let h = all.classes.rows i k e in
        let longer = length-extends old new grows in
        (omega (arith, h.0, longer), subst (λ d. HasClass (shapes_of known) d k) (sym (contract_at-later old new grows i h.0)) h.1);
  };
}

-- before any row has a class
pub no_classes : (nodes : List Node) (known : Classes) → known.bags.keys ≡ [] → known.shapes.keys ≡ [] → ((k : ℕ) → noted known.classes k ≡ None) →
    AreKnown nodes known
unfolding IsDistinct
no_classes nodes known e f none = record {
  classes = record {
    right = subst (λ l. AreShapes (map (shape_of known.bags.keys) l)) (sym f) (λ i s g. absurd cc);
    rows = λ i k g. let no : None ≡ Some k = sym (none i) ∙ g in absurd cc;
  };
  bags = subst AreBags (sym e) no_bags;
  distinct = subst (IsDistinct same_shape) (sym f) tt;
}

-- no rows have no forms
pub no_forms : (nodes : List Node) (forms : List Form) → length nodes ≡ 0 → forms ≡ [] → AreForms nodes forms
no_forms [] forms e f = f
no_forms (n ∷ nodes) forms e f = absurd (omega (arith, e))

-- the rows after a node was inserted
pub added_nodes : (old new : List Node) (node : Node) (is_new : Bool) → new ≡ insert_key same_node old node → is_new ≡ not (list_any (same_node node) old) →
    new ≡ (if is_new then old ++ node ∷ [] else old)
added_nodes old new node is_new made e = elim (truth (list_any (same_node node) old)) [
  | inl t ↦ (let h : new ≡ old = rw t at made in h ∙ ap (λ v. if v then old ++ node ∷ [] else old) (sym (e ∙ ap not t)))
  | inr t ↦ (let h : new ≡ old ++ node ∷ [] = rw t at made in h ∙ ap (λ v. if v then old ++ node ∷ [] else old) (sym (e ∙ ap not t)))
]
