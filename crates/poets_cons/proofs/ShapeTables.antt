-- Tables of shapes that grow, and the classes of contracts in them.
use Rattle.std.proofs.Common.{◌≡◌, ℕ, ◌+◌, ◌<◌, ◌≤◌, arith, List, [], ◌∷◌, ◌++◌, length, map, slice_get, Some, refl, sym, ◌∙◌, ap, ap₂, subst, inl, inr, length-append}
use Rattle.std.specs.Prelude.{◌↔◌}
use Rattle.std.specs.List.{AllByRecursion}
use Rattle.std.proofs.Math.ListN.{get_or-append}
use Rattle.std.proofs.lemmas.Option.{slice_get_within, slice_get-get_or}
use Rattle.poets_syntax.specs.Contract.{Contract}
use Rattle.poets_syntax.specs.Contract as C
use Rattle.poets_calculus.specs.Alike.{Alike}
use Rattle.poets_calculus.specs.Normal.{side_by_side}
use Rattle.poets_cons.specs.Row.{Success, AreBelow}
use Rattle.poets_cons.specs.code.Classes.{Shape, Single, Parallel, contract_of_shape, class_contract, shape_at, AreSingles, IsShapeAt, AreShapes, HasClass}
use Rattle.poets_cons.proofs.Apart.{AreOne, classes_apart}
use Rattle.poets_cons.proofs.Belows.{part_below}
use Rattle.poets_cons.proofs.Built.{built-at, built-later, at_push}
use Rattle.poets_cons.proofs.Growing.{contract_by-alike}
use Rattle.poets_cons.proofs.Shapes.{singles_below, singles_within}

-- the numbers of a shape are below another
abbrev IsBelow : ℕ → Shape → Type 0
IsBelow n (Single r) = AreBelow n r
IsBelow n (Parallel ks) = AllByRecursion (λ k. k < n) ks

pub is_below : (shape : ℕ → Shape) (n : ℕ) (s : Shape) → IsShapeAt shape n s → IsBelow n s
is_below shape n (Single r) h = h.1
is_below shape n (Parallel ks) h = singles_below shape n ks h.1

same_map : (f g : ℕ → Contract) (n : ℕ) (ks : List ℕ) → AllByRecursion (λ k. k < n) ks → ((k : ℕ) → k < n → f k ≡ g k) → map f ks ≡ map g ks
same_map f g n [] b h = refl
same_map f g n (k ∷ ks) b h = ap₂ (λ c cs. c ∷ cs) (h k b.0) (same_map f g n ks b.1 h)

-- the contract of a shape depends on those of its classes alone
pub contract_of_shape-by : (f g : ℕ → Contract) (n : ℕ) (s : Shape) → IsBelow n s → ((k : ℕ) → k < n → f k ≡ g k) → contract_of_shape f s ≡ contract_of_shape g s
contract_of_shape-by f g n (Single r) b h = contract_by-alike f g r (λ k m. h k (part_below n r b k m))
contract_of_shape-by f g n (Parallel ks) b h = ap side_by_side (same_map f g n ks b h)

-- a class stands for the contract of its shape
pub class_stands : (shapes : List Shape) → AreShapes shapes → (i : ℕ) (s : Shape) → slice_get shapes i ≡ Some s →
    class_contract shapes i ≡ contract_of_shape (class_contract shapes) s
class_stands shapes all i s e =
    let start : i ≡ 0 + i = omega arith in
    ap (class_contract shapes) start
    ∙ built-at C.Failure contract_of_shape [] shapes i s e
    (λ f g a. contract_of_shape-by f g i s (is_below (shape_at shapes) i s (all i s e)) (λ k l. a k (omega (arith, l))))

pub class_later : (old more : List Shape) (i : ℕ) → i < length old → class_contract (old ++ more) i ≡ class_contract old i
class_later old more i l = built-later C.Failure contract_of_shape [] old more i (omega (arith, l))

pub has_class-later : (old more : List Shape) (c : Contract) (k : ℕ) → HasClass old c k → HasClass (old ++ more) c k
has_class-later old more c k h = (omega (arith, h.0, length-append old more), subst (Alike c) (sym (class_later old more k h.0)) h.1)

pub singles_later : (old more : List Shape) (i n : ℕ) (ks : List ℕ) → i ≤ n → i ≤ length old → AreSingles (shape_at old) i ks → AreSingles (shape_at (old ++ more)) n ks
singles_later old more i n ks l m h =
    singles_within (shape_at old) (shape_at (old ++ more)) i n ks l (λ k j. get_or-append old more (Single Success) k (omega (arith, j, m))) h

shape_later : (old more : List Shape) (n : ℕ) (s : Shape) → n ≤ length old → IsShapeAt (shape_at old) n s → IsShapeAt (shape_at (old ++ more)) n s
shape_later old more n (Single r) l h = h
shape_later old more n (Parallel ks) l h = (h.0, singles_later old more n n ks (omega arith) l h.1)

-- a new shape at the end
pub shapes_push : (old : List Shape) (s : Shape) → AreShapes old → IsShapeAt (shape_at old) (length old) s → AreShapes (old ++ s ∷ [])
shapes_push old s all right i t e = elim (at_push old s i t e) [
  | inl h ↦ (let l = slice_get_within old i t h in shape_later old (s ∷ []) i t (omega (arith, l)) (all i t h))
  | inr h ↦ (
      let here = shape_later old (s ∷ []) (length old) s (omega arith) right in
      subst (λ j. IsShapeAt (shape_at (old ++ s ∷ [])) j t) (sym h.0) (subst (IsShapeAt (shape_at (old ++ s ∷ [])) (length old)) (sym h.1) here)
      )
]

-- two contracts have one class exactly where they are alike
module _ (back : (c d : Contract) → Alike c d → Alike d c) (along : (c d e : Contract) → Alike c d → Alike d e → Alike c e)
    (shapes : List Shape) (all : AreShapes shapes)
    (one : (i j : ℕ) → i < length shapes → j < length shapes → AreOne (shape_at shapes i) (shape_at shapes j) → i ≡ j) where
  here : (i : ℕ) → i < length shapes → slice_get shapes i ≡ Some (shape_at shapes i)
  here i l = slice_get-get_or shapes i (Single Success) l

  apart : (i j : ℕ) → i < length shapes → j < length shapes → Alike (class_contract shapes i) (class_contract shapes j) → i ≡ j
  apart = classes_apart (length shapes) (class_contract shapes) (shape_at shapes)
      (λ i l. class_stands shapes all i (shape_at shapes i) (here i l))
      (λ i l. all i (shape_at shapes i) (here i l)) one

  pub one_class : (c d : Contract) (k l : ℕ) → HasClass shapes c k → HasClass shapes d l → (k ≡ l) ↔ Alike c d
  one_class c d k l h g =
      let C = class_contract shapes in (
        λ e. along c (C k) d h.1 (back d (C k) (subst (λ j. Alike d (C j)) (sym e) g.1)),
        λ a. apart k l h.0 g.0 (along (C k) c (C l) (back c (C k) h.1) (along c d (C l) a g.1)),
      )
