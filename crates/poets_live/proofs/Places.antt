-- Three lists, place by place.
use Rattle.std.proofs.Common.{◌≡◌, ℕ, zero, suc, ◌+◌, ◌<◌, slice_index_or, slice_set, List, [], ◌∷◌, ◌++◌, Some, map, length, set, slice_get, refl, sym, ◌∙◌, ap, ap₂, subst, arith}
use Rattle.std.specs.List.{AllZip}
use Rattle.poets_live.specs.Watching.{AllOfThree}

-- the first items were taken from `xs` to `ys` by `zs`, and the others stand as they were
abbrev pub UpTo : {X Z : Type 0} → (X → X → Z → Type 0) → ℕ → List X → List X → List Z → Type 0
UpTo P zero xs ys zs = (ys ≡ xs) × (zs ≡ [])
UpTo P (suc i) (x ∷ xs) (y ∷ ys) (z ∷ zs) = P x y z × UpTo P i xs ys zs
UpTo P (suc i) _ _ _ = ⊥

some_one : {A : Type 0} (x y : A) → Some x ≡ Some y → x ≡ y
some_one x y e = cc

-- the item at a place
pub at_place : {X : Type 0} (i : ℕ) (xs : List X) (x : X) → i < length xs → x ≡ slice_index_or xs i x → slice_get xs i ≡ Some x
at_place i [] x lt e = absurd (omega (arith, lt))
at_place zero (y ∷ xs) x lt e = ap Some (sym e)
at_place (suc i) (y ∷ xs) x lt e = at_place i xs x (omega (arith, lt)) e

-- an item that looks the same in its place
pub set_alike : {X A : Type 0} (f : X → A) (i : ℕ) (xs : List X) (x y : X) → i < length xs → x ≡ slice_index_or xs i x → f y ≡ f x → map f (slice_set xs i y) ≡ map f xs
set_alike f i [] x y lt e k = absurd (omega (arith, lt))
set_alike f zero (z ∷ xs) x y lt e k = ap (λ a. a ∷ map f xs) (k ∙ ap f e)
set_alike f (suc i) (z ∷ xs) x y lt e k = ap (λ l. f z ∷ l) (set_alike f i xs x y (omega (arith, lt)) e k)

-- what holds at each place holds at one
pub at_three : {X A B Z : Type 0} (P : A → B → Z → Type 0) (f : X → A) (g : X → B) (i : ℕ) (xs : List X) (zs : List Z) (x : X) (z : Z) →
    AllOfThree P (map f xs) (map g xs) zs → slice_get xs i ≡ Some x → slice_get zs i ≡ Some z → P (f x) (g x) z
at_three P f g zero (x' ∷ xs) (z' ∷ zs) x z h e k =
    subst (λ b. P (f x) (g x) b) (some_one z' z k) (subst (λ a. P (f a) (g a) z') (some_one x' x e) h.0)
at_three P f g (suc i) (x' ∷ xs) (z' ∷ zs) x z h e k = at_three P f g i xs zs x z h.1 e k
at_three P f g i [] zs x z h e k = absurd cc
at_three P f g i (x' ∷ xs) [] x z h e k = absurd cc

-- three lists have one length
pub one_length : {X A B Z : Type 0} (P : A → B → Z → Type 0) (f : X → A) (g : X → B) (xs : List X) (zs : List Z) → AllOfThree P (map f xs) (map g xs) zs → length xs ≡ length zs
one_length P f g [] [] h = refl
one_length P f g (x ∷ xs) (z ∷ zs) h = ap suc (one_length P f g xs zs h.1)
one_length P f g [] (z ∷ zs) h = elim h [ ]
one_length P f g (x ∷ xs) [] h = elim h [ ]

-- a relation of three lists, seen from two of them
pub first_and_last : {X Y A Z : Type 0} (P : X → Y → Z → Type 0) (Q : A → Z → Type 0) (f : X → A) → ((x : X) (y : Y) (z : Z) → P x y z → Q (f x) z) →
    (xs : List X) (ys : List Y) (zs : List Z) → AllOfThree P xs ys zs → AllZip Q (map f xs) zs
first_and_last P Q f k [] [] [] h = tt
first_and_last P Q f k (x ∷ xs) (y ∷ ys) (z ∷ zs) h = (k x y z h.0, first_and_last P Q f k xs ys zs h.1)
first_and_last P Q f k [] [] (z ∷ zs) h = elim h [ ]
first_and_last P Q f k [] (y ∷ ys) zs h = elim h [ ]
first_and_last P Q f k (x ∷ xs) [] zs h = elim h [ ]
first_and_last P Q f k (x ∷ xs) (y ∷ ys) [] h = elim h [ ]

pub second_and_last : {X Y A B Z : Type 0} (P : X → Y → Z → Type 0) (Q : A → B → Z → Type 0) (f : Y → A) (g : Y → B) → ((x : X) (y : Y) (z : Z) → P x y z → Q (f y) (g y) z) →
    (xs : List X) (ys : List Y) (zs : List Z) → AllOfThree P xs ys zs → AllOfThree Q (map f ys) (map g ys) zs
second_and_last P Q f g k [] [] [] h = tt
second_and_last P Q f g k (x ∷ xs) (y ∷ ys) (z ∷ zs) h = (k x y z h.0, second_and_last P Q f g k xs ys zs h.1)
second_and_last P Q f g k [] [] (z ∷ zs) h = elim h [ ]
second_and_last P Q f g k [] (y ∷ ys) zs h = elim h [ ]
second_and_last P Q f g k (x ∷ xs) [] zs h = elim h [ ]
second_and_last P Q f g k (x ∷ xs) (y ∷ ys) [] h = elim h [ ]

-- the last list between the others
pub last_between : {X A Z : Type 0} (P : X → X → Z → Type 0) (Q : A → Z → A → Type 0) (f : X → A) → ((x y : X) (z : Z) → P x y z → Q (f x) z (f y)) →
    (xs ys : List X) (zs : List Z) → AllOfThree P xs ys zs → AllOfThree Q (map f xs) zs (map f ys)
last_between P Q f k [] [] [] h = tt
last_between P Q f k (x ∷ xs) (y ∷ ys) (z ∷ zs) h = (k x y z h.0, last_between P Q f k xs ys zs h.1)
last_between P Q f k [] [] (z ∷ zs) h = elim h [ ]
last_between P Q f k [] (y ∷ ys) zs h = elim h [ ]
last_between P Q f k (x ∷ xs) [] zs h = elim h [ ]
last_between P Q f k (x ∷ xs) (y ∷ ys) [] h = elim h [ ]

module _ {X Z : Type 0} (P : X → X → Z → Type 0) where
  -- one item more
  pub one_place_more : (i : ℕ) (xs ys : List X) (zs : List Z) (x y : X) (z : Z) → UpTo P i xs ys zs → slice_get ys i ≡ Some x → P x y z →
      UpTo P (suc i) xs (set ys i y) (zs ++ z ∷ [])
  one_place_more zero (x' ∷ xs) (y' ∷ ys) [] x y z h e p =
      let same : x ≡ x' = let k = ap (λ l. slice_get l 0) h.0 in let r = sym e ∙ k in cc in
      (subst (λ a. P a y z) same p, ((let k = h.0 in cc), refl))
  one_place_more zero [] (y' ∷ ys) zs x y z h e p = absurd (let k = h.0 in cc)
  one_place_more zero xs [] zs x y z h e p = absurd cc
  one_place_more zero xs (y' ∷ ys) (z' ∷ zs) x y z h e p = absurd (let k = h.1 in cc)
  one_place_more (suc i) (x' ∷ xs) (y' ∷ ys) (z' ∷ zs) x y z h e p = (h.0, one_place_more i xs ys zs x y z h.1 e p)
  one_place_more (suc i) [] ys zs x y z h e p = elim h [ ]
  one_place_more (suc i) (x' ∷ xs) [] zs x y z h e p = elim h [ ]
  one_place_more (suc i) (x' ∷ xs) (y' ∷ ys) [] x y z h e p = elim h [ ]

  -- all places
  pub all_places : (xs ys : List X) (zs : List Z) → UpTo P (length xs) xs ys zs → AllOfThree P xs ys zs
  all_places [] [] [] h = tt
  all_places [] (y ∷ ys) zs h = absurd (let k = h.0 in cc)
  all_places [] [] (z ∷ zs) h = absurd (let k = h.1 in cc)
  all_places (x ∷ xs) (y ∷ ys) (z ∷ zs) h = (h.0, all_places xs ys zs h.1)
  all_places (x ∷ xs) [] zs h = elim h [ ]
  all_places (x ∷ xs) (y ∷ ys) [] h = elim h [ ]

  -- what each step keeps is kept
  pub kept_up_to : {A : Type 0} (f : X → A) → ((x y : X) (z : Z) → P x y z → f y ≡ f x) → (i : ℕ) (xs ys : List X) (zs : List Z) → UpTo P i xs ys zs → map f ys ≡ map f xs
  kept_up_to f k zero xs ys zs h = ap (map f) h.0
  kept_up_to f k (suc i) (x ∷ xs) (y ∷ ys) (z ∷ zs) h = ap₂ (λ a b. a ∷ b) (k x y z h.0) (kept_up_to f k i xs ys zs h.1)
  kept_up_to f k (suc i) [] ys zs h = elim h [ ]
  kept_up_to f k (suc i) (x ∷ xs) [] zs h = elim h [ ]
  kept_up_to f k (suc i) (x ∷ xs) (y ∷ ys) [] h = elim h [ ]

  -- the next item stands as it was
  pub next_place : (i : ℕ) (xs ys : List X) (zs : List Z) → UpTo P i xs ys zs → slice_get ys i ≡ slice_get xs i
  next_place zero xs ys zs h = ap (λ l. slice_get l 0) h.0
  next_place (suc i) (x ∷ xs) (y ∷ ys) (z ∷ zs) h = next_place i xs ys zs h.1
  next_place (suc i) [] ys zs h = elim h [ ]
  next_place (suc i) (x ∷ xs) [] zs h = elim h [ ]
  next_place (suc i) (x ∷ xs) (y ∷ ys) [] h = elim h [ ]

  pub length-up_to : (i : ℕ) (xs ys : List X) (zs : List Z) → UpTo P i xs ys zs → length ys ≡ length xs
  length-up_to zero xs ys zs h = ap length h.0
  length-up_to (suc i) (x ∷ xs) (y ∷ ys) (z ∷ zs) h = ap suc (length-up_to i xs ys zs h.1)
  length-up_to (suc i) [] ys zs h = elim h [ ]
  length-up_to (suc i) (x ∷ xs) [] zs h = elim h [ ]
  length-up_to (suc i) (x ∷ xs) (y ∷ ys) [] h = elim h [ ]

  -- one item more, by its place
  module _ (i : ℕ) (xs ys : List X) (zs : List Z) (h : UpTo P i xs ys zs) (lt : i < length ys) where
    pub place_more : (zs' : List Z) (x y : X) (z : Z) → x ≡ slice_index_or ys i x → P x y z → zs' ≡ zs ++ z ∷ [] → UpTo P (i + 1) xs (slice_set ys i y) zs'
    place_more zs' x y z at p e =
        let next : suc i ≡ i + 1 = omega arith in
        let more : UpTo P (suc i) xs (slice_set ys i y) (zs ++ z ∷ []) = one_place_more i xs ys zs x y z h (at_place i ys x lt at) p in
        subst (λ n. UpTo P n xs (slice_set ys i y) zs') next (subst (λ l. UpTo P (suc i) xs (slice_set ys i y) l) (sym e) more)

  -- there is an item at the place
  pub below : {A B : Type 0} (Q : A → B → Z → Type 0) (f : X → A) (g : X → B) (i : ℕ) (xs ys : List X) (zs taken : List Z) → UpTo P i xs ys taken →
      AllOfThree Q (map f xs) (map g xs) zs → i < length zs → i < length ys
  below Q f g i xs ys zs taken h q lt =
      let same = length-up_to i xs ys taken h in
      let all = one_length Q f g xs zs q in
      omega (arith, same, all, lt)
