-- Lists of values that are read one by one.
use Rattle.std.proofs.Common.{◌≡◌, ℕ, ◌+◌, ◌<◌, List, [], ◌∷◌, ◌++◌, All, length, take, drop, get_or, map, refl, sym, ap, subst, ◌∙◌}
use Rattle.std.proofs.lemmas.List.{take-append-drop, take_more, drop_more, map-append}
use Rattle.std.proofs.lemmas.List.Elements.{All-nil, All-head, All-tail}

-- lists that are the same begin alike, and go on alike
pub heads : {A : Type 0} (a b : A) (front rest : List A) → a ∷ front ≡ b ∷ rest → a ≡ b
heads a b front rest e = cc

pub tails : {A : Type 0} (a b : A) (front rest : List A) → a ∷ front ≡ b ∷ rest → front ≡ rest
tails a b front rest e = cc

-- the first values, and one more
pub map_more :
    {A B : Type 0} (f : A → B) (xs : List A) (i : ℕ) (x : A) → i < length xs → x ≡ get_or xs i x →
    map f (take (i + 1) xs) ≡ map f (take i xs) ++ f x ∷ []
map_more f xs i x l e = rw (take_more xs i x l, ← e) (map-append f (take i xs) (x ∷ []))

-- the values ahead of one, and those behind it
pub map_cut :
    {A B : Type 0} (f : A → B) (xs : List A) (i : ℕ) (x : A) → i < length xs → x ≡ get_or xs i x →
    map f xs ≡ map f (take i xs) ++ f x ∷ map f (drop (i + 1) xs)
map_cut f xs i x l e =
    ap (map f) (sym (take-append-drop i xs)) ∙ map-append f (take i xs) (drop i xs)
    ∙ ap (λ ys. map f (take i xs) ++ map f ys) (drop_more xs i x l ∙ ap (λ y. y ∷ drop (i + 1) xs) (sym e))

-- one more, of which this is known
pub pushed_values :
    {A C : Type 0} (view_of : C → A) (values : List A) (xs : List C) {new : List C} {x : C} (i : ℕ) (item : A) → i < length values →
    item ≡ get_or values i item → map view_of xs ≡ take i values → view_of x ≡ item → new ≡ xs ++ x ∷ [] →
    map view_of new ≡ take (i + 1) values
pushed_values view_of values xs {x = x} i item low here read is pushed =
    rw (pushed, map-append view_of xs (x ∷ []), read, is, take_more values i item low, ← here) refl

-- ---- what is found of values that come of some things

module _ {B D : Type 0} (data_of : B → D) (IsSo : B → Type 0) where
  -- one of the values comes of one of the things
  pub comes_of :
      (P : Type 0) (ds : List D) (d : D) (rest : List D) (ys : List B) → All IsSo ys → ds ++ d ∷ rest ≡ map data_of ys →
      ((y : B) → IsSo y → d ≡ data_of y → P) → P
  comes_of P [] d rest [] so e is = absurd cc
  comes_of P [] d rest (y ∷ ys) so e is = is y (All-head IsSo y ys so) (heads d (data_of y) rest (map data_of ys) e)
  comes_of P (c ∷ ds) d rest [] so e is = absurd cc
  comes_of P (c ∷ ds) d rest (y ∷ ys) so e is =
      comes_of P ds d rest ys (All-tail IsSo y ys so) (tails c (data_of y) (ds ++ d ∷ rest) (map data_of ys) e) is

  pub so_nothing : (xs : List B) → xs ≡ [] → All IsSo xs
  so_nothing xs e = subst (λ (ys : List B). All IsSo ys) (sym e) (All-nil IsSo)

  -- of the values so far there is one more with its value
  pub one_more :
      (front : List D) (d : D) (xs new : List B) (x : B) → front ≡ map data_of xs → d ≡ data_of x → new ≡ xs ++ x ∷ [] →
      front ++ d ∷ [] ≡ map data_of new
  one_more front d xs new x e is pushed = rw (pushed, map-append data_of xs (x ∷ []), e, is) refl
