-- Watches that are led to other events, one by one.
use Rattle.std.proofs.Common.{◌≡◌, ℕ, ◌+◌, ◌≤◌, ◌<◌, List, [], ◌∷◌, ◌++◌, length, map, take, get_or, sum_by, sym, ◌∙◌, ap, arith}
use Rattle.std.specs.List.{All, AllZip}
use Rattle.std.proofs.lemmas.List.{map-append, take-map, take_more}
use Rattle.std.proofs.lemmas.List.Elements.{All-cons, All-head, All-nil, All-tail}
use Rattle.std.proofs.lemmas.List.Sums.{fold-append, sum_by-take-drop}
use Rattle.poets_live.specs.Watching.{AllOfThree}

-- one pair more
pub zip-more : {X Y : Type 0} (P : X → Y → Type 0) (xs : List X) (ys : List Y) (x : X) (y : Y) → AllZip P xs ys → P x y → AllZip P (xs ++ x ∷ []) (ys ++ y ∷ [])
zip-more P [] [] x y h p = (p, tt)
zip-more P (a ∷ xs) (b ∷ ys) x y h p = (h.0, zip-more P xs ys x y h.1 p)
zip-more P [] (b ∷ ys) x y h p = elim h [ ]
zip-more P (a ∷ xs) [] x y h p = elim h [ ]

-- pairs seen from a part of the first
pub zip-map : {X A Y : Type 0} (P : X → Y → Type 0) (Q : A → Y → Type 0) (f : X → A) → ((x : X) (y : Y) → P x y → Q (f x) y) →
    (xs : List X) (ys : List Y) → AllZip P xs ys → AllZip Q (map f xs) ys
zip-map P Q f k [] [] h = tt
zip-map P Q f k (x ∷ xs) (y ∷ ys) h = (k x y h.0, zip-map P Q f k xs ys h.1)
zip-map P Q f k [] (y ∷ ys) h = elim h [ ]
zip-map P Q f k (x ∷ xs) [] h = elim h [ ]

-- pairs seen from two parts of the first
pub zip-three : {X A B Y : Type 0} (P : X → Y → Type 0) (Q : A → B → Y → Type 0) (f : X → A) (g : X → B) → ((x : X) (y : Y) → P x y → Q (f x) (g x) y) →
    (xs : List X) (ys : List Y) → AllZip P xs ys → AllOfThree Q (map f xs) (map g xs) ys
zip-three P Q f g k [] [] h = tt
zip-three P Q f g k (x ∷ xs) (y ∷ ys) h = (k x y h.0, zip-three P Q f g k xs ys h.1)
zip-three P Q f g k [] (y ∷ ys) h = elim h [ ]
zip-three P Q f g k (x ∷ xs) [] h = elim h [ ]

-- the first items and the next
pub next-item : {X : Type 0} (xs : List X) (i : ℕ) (x : X) → i < length xs → x ≡ get_or xs i x → take (i + 1) xs ≡ take i xs ++ x ∷ []
next-item xs i x lt at = take_more xs i x lt ∙ ap (λ y. take i xs ++ y ∷ []) (sym at)

-- the sum with one more
pub sum-more : {X : Type 0} (f : X → ℕ) (xs : List X) (x : X) → sum_by f (xs ++ x ∷ []) ≡ sum_by f xs + f x
sum-more f xs x = fold-append (λ a y. a + f y) 0 xs (x ∷ [])

-- the sum up to the next item, which is no more than that of all
pub sum-next : {X A : Type 0} (f : A → ℕ) (g : X → A) (xs : List X) (i : ℕ) (x : X) → i < length xs → x ≡ get_or xs i x →
    sum_by f (map g (take (i + 1) xs)) ≡ sum_by f (map g (take i xs)) + f (g x)
sum-next f g xs i x lt at =
    ap (λ ys. sum_by f (map g ys)) (next-item xs i x lt at)
    ∙ ap (sum_by f) (map-append g (take i xs) (x ∷ [])) ∙ sum-more f (map g (take i xs)) (g x)

pub sum-within : {X A : Type 0} (f : A → ℕ) (g : X → A) (xs : List X) (i : ℕ) (x : X) → i < length xs → x ≡ get_or xs i x →
    sum_by f (map g (take i xs)) + f (g x) ≤ sum_by f (map g xs)
sum-within f g xs i x lt at =
    let next = sum-next f g xs i x lt at in
    let cut = sum_by-take-drop f (map g xs) (i + 1) in
    let same = ap (sum_by f) (take-map g (i + 1) xs) in
    omega (arith, next, cut, same)

-- what all seen from a part have
pub all-unmapped : {X A : Type 0} (P : A → Type 0) (f : X → A) (xs : List X) → All P (map f xs) → All (λ x. P (f x)) xs
all-unmapped P f [] h = All-nil (λ x. P (f x))
all-unmapped P f (x ∷ xs) h =
    All-cons (λ x. P (f x)) x xs (All-head P (f x) (map f xs) h) (all-unmapped P f xs (All-tail P (f x) (map f xs) h))
