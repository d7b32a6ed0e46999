-- Rows are given classes.
use Rattle.std.proofs.Common.{◌≡◌, ℕ, suc, ◌<◌, ◌≤◌, true, cond, nat_eq, arith, List, [], ◌∷◌, ◌++◌, length, map, get_or, slice_get, Option, Some, option_map, refl, sym, ◌∙◌, ap, ap₂, subst, inl, inr, length-append, append-nil, eqb-true, eq-eqb}
use Rattle.std.specs.Prelude.{Result, Ok, Err, IfOk, OnOk, OnErr}
use Rattle.std.specs.List.{IsDistinct}
use Rattle.std.proofs.lemmas.List.{length-map, map-append}
use Rattle.std.proofs.lemmas.Option.{get_or_from_slice_get, slice_get_within, slice_get-get_or, slice_get-map}
use Rattle.indexmap.specs.IndexSet.{insert_key}
use Rattle.poets_syntax.specs.Contract.{Contract}
use Rattle.poets_syntax.specs.Contract as C
use Rattle.poets_syntax.proofs.Replacing.{truth}
use Rattle.poets_meaning.proofs.Lists.{Between-length}
use Rattle.poets_calculus.specs.Alike.{Alike, AreAlike, parts}
use Rattle.poets_calculus.proofs.AlikeTests.{AreAlike-parts, parts-alike}
use Rattle.poets_calculus.proofs.Multisets.{AreAlike-append, AreAlike-trans}
use Rattle.poets_cons.specs.declared.classes.Classes.{Classes}
use Rattle.poets_cons.specs.declared.node.Node.{Node}
use Rattle.poets_cons.specs.declared.shape.Shape.{Shape as CodeShape}
use Rattle.poets_cons.specs.declared.shape.Shape.TheVariants as S
use Rattle.poets_cons.specs.declared.bag.Bag.{Bag}
use Rattle.poets_cons.specs.Notes.{noted, NotesRow}
use Rattle.poets_cons.specs.Row.{Success, row_of}
use Rattle.poets_cons.specs.Same.{same_row}
use Rattle.poets_cons.specs.Table.{contract_at}
use Rattle.poets_cons.specs.code.Classes.{Shape, Single, Parallel, shape_of, same_shape, shapes_of, contract_of_shape, class_contract, shape_at, parts_of, IsSingle, AreSingles, IsShapeAt, AreShapes, AreClasses, AreKnown, HasClass, IsBagOfClass, IsBagOfClasses}
use Rattle.poets_cons.specs.code.SameRows.{row_one, row_itself}
use Rattle.poets_cons.specs.code.Bags.{times, bag_at, AreSame, AreBags, IsLonger, IsBagOfBoth}
use Rattle.poets_cons.proofs.Apart.{AreOne, in_any_order}
use Rattle.poets_cons.proofs.Built.{inserted, same_place}
use Rattle.poets_cons.proofs.Shapes.{side_parts, single_parts, singles_append, singles_within}
use Rattle.poets_cons.proofs.ShapeTables.{is_below, contract_of_shape-by, class_stands, class_later, has_class-later, shapes_push}
use Rattle.poets_cons.proofs.Bags.{all_counted, number_within, one_number, bag_later}

-- a class is noted for a row
pub noted_class : (nodes : List Node) (shapes : List Shape) (old new : ℕ → Option ℕ) (place class : ℕ) → AreClasses nodes shapes old →
    place < length nodes → HasClass shapes (contract_at nodes place) class → ((k : ℕ) → new k ≡ cond (nat_eq place k) (Some class) (old k)) →
    AreClasses nodes shapes new
noted_class nodes shapes old new place class all within has notes = record {
  right = all.right;
  rows = λ i k e. elim (truth (nat_eq place i)) [
    | inl t ↦ (
        let same : place ≡ i = eqb-true place i t in
        let found : Some class ≡ Some k = sym (notes i ∙ ap (λ b. cond b (Some class) (old i)) t) ∙ e in
        let one : class ≡ k = cc in
        subst (λ j. (j < length nodes) × HasClass shapes (contract_at nodes j) k) same (within, subst (HasClass shapes (contract_at nodes place)) one has)
        )
    | inr t ↦ all.rows i k (sym (notes i ∙ ap (λ b. cond b (Some class) (old i)) t) ∙ e)
  ];
}

-- classes came at the end
pub more_classes : (nodes : List Node) (old more : List Shape) (classes : ℕ → Option ℕ) → AreClasses nodes old classes → AreShapes (old ++ more) →
    AreClasses nodes (old ++ more) classes
more_classes nodes old more classes all right = record {
  right = right;
  rows = λ i k e. let h = all.rows i k e in (h.0, has_class-later old more (contract_at nodes i) k h.1);
}

-- ---- shapes in the code

-- a shape that is equal is one
shape_same : (bags : List Bag) (s t : CodeShape) → same_shape s t ≡ true → shape_of bags s ≡ shape_of bags t
shape_same bags (S.Single m) (S.Single n) e = ap Single (row_one (row_of m) (row_of n) e)
shape_same bags (S.Parallel m) (S.Parallel n) e = ap (λ k. Parallel (bag_at bags k)) (eqb-true m n e)
shape_same bags _ _ e = absurd cc

-- and shapes that are one are equal
same_of_one : (bags : List Bag) → AreBags bags → (shape : ℕ → Shape) (i j : ℕ) (s t : CodeShape) → IsShapeAt shape i (shape_of bags s) →
    IsShapeAt shape j (shape_of bags t) → AreOne (shape_of bags s) (shape_of bags t) → (same_shape s t ≡ true) × (same_shape t s ≡ true)
same_of_one bags all shape i j (S.Single m) (S.Single n) h g e =
    let x = row_itself (row_of m) in (subst (λ r. same_row (row_of m) r ≡ true) e x, subst (λ r. same_row r (row_of m) ≡ true) e x)
same_of_one bags all shape i j (S.Parallel m) (S.Parallel n) h g e =
    let x = one_number bags all m n (number_within bags m (omega (arith, h.0))) (number_within bags n (omega (arith, g.0))) e in (eq-eqb m n x, eq-eqb n m (sym x))
same_of_one bags all shape i j _ _ h g e = absurd e

-- a shape in the code is that of its class
module _ (bags : List Bag) (keys : List CodeShape) where
  seen_at : (i : ℕ) (s : CodeShape) → slice_get keys i ≡ Some s → slice_get (map (shape_of bags) keys) i ≡ Some (shape_of bags s)
  seen_at i s e = slice_get-map (shape_of bags) keys i ∙ ap (option_map (shape_of bags)) e

  shape_is : (i : ℕ) (s : CodeShape) → slice_get keys i ≡ Some s → shape_at (map (shape_of bags) keys) i ≡ shape_of bags s
  shape_is i s e = get_or_from_slice_get (map (shape_of bags) keys) i (shape_of bags s) (Single Success) (seen_at i s e)

  module _ (all : AreShapes (map (shape_of bags) keys)) where
    pub parallel_bag : (class n : ℕ) → slice_get keys class ≡ Some (S.Parallel n) → IsBagOfClass bags bags keys class n
    parallel_bag class n e =
        let right = all class (Parallel (bag_at bags n)) (seen_at class (S.Parallel n) e) in
        (number_within bags n (omega (arith, right.0)), ap (parts_of class) (sym (shape_is class (S.Parallel n) e)))

    -- no two classes have one shape
    pub one_shape : AreBags bags → IsDistinct same_shape keys → (i j : ℕ) → i < length (map (shape_of bags) keys) → j < length (map (shape_of bags) keys) →
        AreOne (shape_at (map (shape_of bags) keys) i) (shape_at (map (shape_of bags) keys) j) → i ≡ j
    one_shape right apart i j l m e =
        let shape = shape_at (map (shape_of bags) keys) in
        let s = get_or keys i (S.Parallel 0) in
        let t = get_or keys j (S.Parallel 0) in
        let n = length-map keys (shape_of bags) in
        let at_i = slice_get-get_or keys i (S.Parallel 0) (omega (arith, l, n)) in
        let at_j = slice_get-get_or keys j (S.Parallel 0) (omega (arith, m, n)) in
        let one = subst (AreOne (shape_of bags s)) (shape_is j t at_j) (subst (λ x. AreOne x (shape j)) (shape_is i s at_i) e) in
        let x = all i (shape_of bags s) (seen_at i s at_i) in
        let y = all j (shape_of bags t) (seen_at j t at_j) in
        let same = same_of_one bags right shape i j s t x y one in
        same_place same_shape keys apart i j s t at_i at_j same.0 same.1

-- a shape that is inserted
module _ (bags : List Bag) (old new : List CodeShape) (s : CodeShape) (all : AreShapes (map (shape_of bags) old))
    (right : IsShapeAt (shape_at (map (shape_of bags) old)) (length (map (shape_of bags) old)) (shape_of bags s)) (made : new ≡ insert_key same_shape old s) where
  abbrev shapes : List CodeShape → List Shape
  shapes keys = map (shape_of bags) keys

  pushed : shapes (old ++ s ∷ []) ≡ shapes old ++ shape_of bags s ∷ []
  pushed = map-append (shape_of bags) old (s ∷ [])

  after : (P : List Shape → Type 0) → P (shapes old) → P (shapes old ++ shape_of bags s ∷ []) → P (shapes new)
  after P h g = subst (λ keys. P (shapes keys)) (sym made) (inserted same_shape old s (λ keys. P (shapes keys)) h (subst P (sym pushed) g))

  pub inserted_grows : IsLonger (shapes old) (shapes new)
  inserted_grows = after (IsLonger (shapes old)) ([], sym (append-nil (shapes old))) (shape_of bags s ∷ [], refl)

  pub inserted_shapes : AreShapes (shapes new)
  inserted_shapes = after AreShapes all (shapes_push (shapes old) (shape_of bags s) all right)

  pub inserted_class : (place : ℕ) (c : Contract) (found : CodeShape) → slice_get new place ≡ Some found → same_shape s found ≡ true →
      Alike c (contract_of_shape (class_contract (shapes old)) (shape_of bags s)) → HasClass (shapes new) c place
  inserted_class place c found at t h =
      let f = shape_of bags in
      let e : slice_get (shapes new) place ≡ Some (f s) = slice_get-map f new place ∙ ap (option_map f) at ∙ ap Some (sym (shape_same bags s found t)) in
      let g = inserted_grows in
      let same : contract_of_shape (class_contract (shapes old)) (f s) ≡ contract_of_shape (class_contract (shapes new)) (f s) =
      contract_of_shape-by (class_contract (shapes old)) (class_contract (shapes new)) (length (shapes old)) (f s)
      (is_below (shape_at (shapes old)) (length (shapes old)) (f s) right)
      (λ k l. sym (ap (λ more. class_contract more k) g.1 ∙ class_later (shapes old) g.0 k l)) in (
        slice_get_within (shapes new) place (f s) e,
        subst (Alike c) (same ∙ sym (class_stands (shapes new) inserted_shapes place (f s) e)) h,
      )

-- shapes are the same where only bags came
pub shapes_same : (old new : List Bag) (keys : List CodeShape) → IsLonger old new → AreShapes (map (shape_of old) keys) → map (shape_of new) keys ≡ map (shape_of old) keys
shapes_same old new keys grows all = same keys (λ i s e. here s (shape_at (map (shape_of old) keys)) i (all i (shape_of old s) (seen_at old keys i s e)))
  where
    here : (s : CodeShape) (shape : ℕ → Shape) (i : ℕ) → IsShapeAt shape i (shape_of old s) → shape_of new s ≡ shape_of old s
    here (S.Single n) shape i h = refl
    here (S.Parallel n) shape i h = ap Parallel (bag_later old new grows n (number_within old n (omega (arith, h.0))))

    same : (keys : List CodeShape) → ((i : ℕ) (s : CodeShape) → slice_get keys i ≡ Some s → shape_of new s ≡ shape_of old s) →
        map (shape_of new) keys ≡ map (shape_of old) keys
    same [] h = refl
    same (s ∷ keys) h = ap₂ (λ t ts. t ∷ ts) (h 0 s refl) (same keys (λ i t e. h (suc i) t e))

-- what is known stays where only bags came
module _ (nodes : List Node) (old new : Classes) (all : AreKnown nodes old) (bags : AreBags new.bags.keys)
    (grows : IsLonger old.bags.keys new.bags.keys) (shapes : new.shapes.keys ≡ old.shapes.keys) (classes : new.classes ≡ old.classes) where
  pub shapes_stay : shapes_of new ≡ shapes_of old
  shapes_stay = ap (map (shape_of new.bags.keys)) shapes ∙ shapes_same old.bags.keys new.bags.keys old.shapes.keys grows all.classes.right

  pub known_stays : AreKnown nodes new
  known_stays = record {
    classes = subst (λ notes. AreClasses nodes (shapes_of new) (noted notes)) (sym classes)
        (subst (λ l. AreClasses nodes l (noted old.classes)) (sym shapes_stay) all.classes);
    bags = bags;
    distinct = subst (IsDistinct same_shape) (sym shapes) all.distinct;
  }

  pub shapes_grow : (first : List Shape) → IsLonger first (shapes_of old) → IsLonger first (shapes_of new)
  shapes_grow first g = subst (IsLonger first) (sym shapes_stay) g

-- ---- the parts of contracts

-- the classes are single, and the contract's parts are alike to them in some order
record AreParts (shapes : List Shape) (c : Contract) (ks : List ℕ) : Type 0 where
  alike : AreAlike (parts c) (map (class_contract shapes) ks)
  singles : AreSingles (shape_at shapes) (length shapes) ks

-- each contract has a part
some_part : (c : Contract) → 1 ≤ length (parts c)
some_part (C.Par a b) = omega (arith, some_part a, length-append (parts a) (parts b))
some_part _ = omega arith

are_alike_length : {cs ds : List Contract} → AreAlike cs ds → length cs ≡ length ds
are_alike_length AreAlike.None = refl
are_alike_length (AreAlike.One h b r) = let n = Between-length b in let m = are_alike_length r in omega (arith, n, m)

module _ (shapes : List Shape) (all : AreShapes shapes) where
  here : (i : ℕ) → i < length shapes → slice_get shapes i ≡ Some (shape_at shapes i)
  here i l = slice_get-get_or shapes i (Single Success) l

  stand : (i : ℕ) → i < length shapes → class_contract shapes i ≡ contract_of_shape (class_contract shapes) (shape_at shapes i)
  stand i l = class_stands shapes all i (shape_at shapes i) (here i l)

  -- those of a contract that has a class
  class_parts : (c : Contract) (k : ℕ) → HasClass shapes c k → AreParts shapes c (parts_of k (shape_at shapes k))
  class_parts c k h = by (shape_at shapes k) refl (all k (shape_at shapes k) (here k h.0)) (stand k h.0)
    where
      by : (s : Shape) → shape_at shapes k ≡ s → IsShapeAt (shape_at shapes) k s →
          class_contract shapes k ≡ contract_of_shape (class_contract shapes) s → AreParts shapes c (parts_of k s)
      by (Single r) f right e = record {
        alike = subst (AreAlike (parts c)) (ap parts e ∙ single_parts (class_contract shapes) (Single r) right.0 ∙ ap (λ d. d ∷ []) (sym e)) (AreAlike-parts h.1);
        singles = ((h.0, subst IsSingle (sym f) right.0), tt);
      }
      by (Parallel ks) f right e =
          let singles = singles_within (shape_at shapes) (shape_at shapes) k (length shapes) ks (omega (arith, h.0)) (λ i l. refl) right.1 in
          let of_parts = side_parts (length shapes) (class_contract shapes) (shape_at shapes) stand ks singles (omega (arith, right.0)) in
          record { alike = subst (AreAlike (parts c)) (ap parts e ∙ of_parts) (AreAlike-parts h.1); singles = singles }

  -- the shape of a `||`, from the classes of its parts
  pub parallel_shape : (a b : Contract) (m n : ℕ) (ks : List ℕ) → HasClass shapes a m → HasClass shapes b n →
      AreSame ks (parts_of m (shape_at shapes m) ++ parts_of n (shape_at shapes n)) →
      IsShapeAt (shape_at shapes) (length shapes) (Parallel ks) × Alike (C.Par a b) (contract_of_shape (class_contract shapes) (Parallel ks))
  parallel_shape a b m n ks h g e =
      let part = class_contract shapes in
      let first = parts_of m (shape_at shapes m) in
      let second = parts_of n (shape_at shapes n) in
      let x = class_parts a m h in
      let y = class_parts b n g in
      let both = subst (AreAlike (parts a ++ parts b)) (sym (map-append part first second)) (AreAlike-append y.alike x.alike) in
      let alike : AreAlike (parts (C.Par a b)) (map part ks) = AreAlike-trans both (in_any_order part (first ++ second) ks (λ v. sym (e v))) in
      let singles = all_counted (λ k. (k < length shapes) × IsSingle (shape_at shapes k)) (first ++ second) ks
      (singles_append (shape_at shapes) (length shapes) first second x.singles y.singles) e in
      let i = are_alike_length alike in
      let j = length-append (parts a) (parts b) in
      let p = some_part a in
      let q = some_part b in
      let long : 2 ≤ length ks = omega (arith, i, j, p, q, length-map ks part) in
      let of_parts = side_parts (length shapes) part (shape_at shapes) stand ks singles (omega (arith, long)) in (
        (long, singles),
        parts-alike (C.Par a b) (contract_of_shape part (Parallel ks)) (subst (AreAlike (parts (C.Par a b))) (sym of_parts) alike),
      )

-- what two classes count together, by the bags before
module _ (old mid later new : List Bag) (keys : List CodeShape) (all : AreShapes (map (shape_of old) keys)) (first : IsLonger old mid)
    (second : IsLonger mid later) where
  pub classes_joined : (a b m n j : ℕ) → IsBagOfClass old mid keys a m → IsBagOfClass mid later keys b n → IsBagOfBoth later m n new j →
      IsBagOfClasses old new keys a b j
  classes_joined a b m n j x y z =
      let here = bag_later mid later second m x.0 ∙ x.1 in
      let there = y.1 ∙ ap (λ shapes. parts_of b (shape_at shapes b)) (shapes_same old mid keys first all) in
      (z.1, λ v. z.2 v ∙ ap₂ (λ ks ls. times v (ks ++ ls)) here there)

-- where a call may fail
pub noted_any : {E : Type 0} (result : Result ℕ E) (nodes : List Node) (shapes : List Shape) (old new : List (Option ℕ)) (place class : ℕ) →
    AreClasses nodes shapes (noted old) → place < length nodes → HasClass shapes (contract_at nodes place) class →
    OnOk result (NotesRow old new place class) → OnErr result (new ≡ old) → AreClasses nodes shapes (noted new)
noted_any (Ok r) nodes shapes old new place class all within has n e = noted_class nodes shapes (noted old) (noted new) place class all within has n
noted_any (Err x) nodes shapes old new place class all within has n e = subst (λ l. AreClasses nodes shapes (noted l)) (sym e) all

pub class_any : {E : Type 0} (result : Result ℕ E) (P : ℕ → Type 0) (class : ℕ) → IfOk result (λ r. r ≡ class) → P class → IfOk result P
class_any (Ok r) P class e h = subst P (sym e) h
class_any (Err x) P class e h = tt

-- a class of an earlier table of classes
pub later_class : (old new : List Shape) → IsLonger old new → (c : Contract) (k : ℕ) → HasClass old c k → HasClass new c k
later_class old new grows c k h = subst (λ shapes. HasClass shapes c k) (sym grows.1) (has_class-later old grows.0 c k h)
