-- Bags of classes: how many parallel parts have each.
use Rattle.std.specs.Prelude.{◌≡◌, ◌+◌, ◌*◌, ◌≤◌, ℕ, Bool, true, false, nat_eq}
use Rattle.std.specs.Prelude.{List, [], ◌∷◌, ◌++◌, length, map, replicate, slice_get, sum_by, Some}
use Rattle.std.specs.List.{IsDistinct}
use Rattle.poets_cons.specs.contracts.bag.BagPartialEq.TheImpl as bag_eq
use Rattle.poets_cons.specs.declared.bag.Bag.{Bag}
use Rattle.poets_cons.specs.code.Built.{item_at, built}
pub use Rattle.poets_cons.specs.code.Built.{IsLonger}

-- 1 for true, 0 for false
abbrev pub one_if : Bool → ℕ
one_if true = 1
one_if false = 0

-- how often the number stands in the list
abbrev pub times : ℕ → List ℕ → ℕ
times n xs = sum_by (λ m. one_if (nat_eq n m)) xs

-- the lists have each number as often
abbrev pub AreSame : List ℕ → List ℕ → Type 0
AreSame xs ys = (n : ℕ) → times n xs ≡ times n ys

-- so many zeros, and for each number of two lists an odd one, and an even one above 0
abbrev pub forked : ℕ → List ℕ → List ℕ → List ℕ
forked n odd even = replicate n 0 ++ (map (λ m. 1 + 2 * m) odd ++ map (λ m. 2 + 2 * m) even)

-- the classes that a bag counts, each as often as it does, from those of its parts
abbrev pub bag_by : (ℕ → List ℕ) → Bag → List ℕ
bag_by part b = forked b.count (part b.odd) (part b.even)

-- those of the bag with a number
abbrev pub bag_at : List Bag → ℕ → List ℕ
bag_at bags n = item_at [] (built [] bag_by ([] ∷ []) bags) n

-- those of a row with this count and these parts
abbrev pub forked_at : List Bag → (count odd even : ℕ) → List ℕ
forked_at bags count odd even = forked count (bag_at bags odd) (bag_at bags even)

-- the code's test for equal rows
abbrev pub same_bag : Bag → Bag → Bool
same_bag = (bag_eq.ghosts).eq

-- the row at a place may be this: it names earlier ones alone and is not empty
abbrev pub IsBagAt : ℕ → Bag → Type 0
IsBagAt i b = (b.odd ≤ i) × (b.even ≤ i) × (1 ≤ b.count + b.odd + b.even)

-- each row is right, and no two are equal
pub record AreBags (bags : List Bag) : Type 0 where
  pub each : (i : ℕ) (b : Bag) → slice_get bags i ≡ Some b → IsBagAt i b
  pub distinct : IsDistinct same_bag bags

-- the bag with the number has these classes
abbrev pub IsBagOf : List Bag → List ℕ → ℕ → Type 0
IsBagOf bags ks n = (1 ≤ n) × (n ≤ length bags) × (bag_at bags n ≡ ks)

-- it counts what two bags did before
abbrev pub IsBagOfBoth : List Bag → (a b : ℕ) → List Bag → ℕ → Type 0
IsBagOfBoth old a b new n =
    (1 ≤ a → 1 ≤ n) × (n ≤ length new) × AreSame (bag_at new n) (bag_at old a ++ bag_at old b)
