-- Where a text stands among strings, seen by their bytes.
use Rattle.std.proofs.Common.{◌≡◌, ℕ, zero, suc, ◌<◌, Bool, true, false, List, [], ◌∷◌, ◌++◌, length, map, refl, sym, ap, ◌∙◌, ◌⊎◌, inl, inr, ⊎_elim, arith, nat_lt, Some, None, slice_get, length-append}
use Rattle.std.specs.Str.{bytes_eq}
use Rattle.std.proofs.lemmas.Slice.Eq.{bytes_eq-Decides}
use Rattle.std.specs.Prelude.{String, string_bytes, if◌then◌else◌}
use Rattle.std.specs.String.{string_eq}
use Rattle.std.specs.declared.alloc.Global.{Global}
use Rattle.poets_lex.specs.Table.{Table, IsName, IsTable, place_of, texts_of}
use Rattle.std.specs.List.{list_any, position, position_or_len}
use Rattle.std.proofs.lemmas.Bool.Decides.{nat_tests}
use Rattle.std.proofs.lemmas.Grind.{common_steps}

pub place-map : {A B : Type 0} (p : B → Bool) (f : A → B) (xs : List A) → position_or_len p (map f xs) ≡ position_or_len (λ x. p (f x)) xs
place-map p f [] = refl
place-map p f (x ∷ xs) = grind (arith, common_steps, place-map p f xs)

pub any-map : {A B : Type 0} (p : B → Bool) (f : A → B) (xs : List A) → list_any p (map f xs) ≡ list_any (λ x. p (f x)) xs
any-map p f [] = refl
any-map p f (x ∷ xs) = rw (any-map p f xs) refl

pub length-of-map : {A B : Type 0} (f : A → B) (xs : List A) → length (map f xs) ≡ length xs
length-of-map f [] = refl
length-of-map f (x ∷ xs) = ap suc (length-of-map f xs)

pub position-map : {A B : Type 0} (p : B → Bool) (f : A → B) (xs : List A) → position p (map f xs) ≡ position (λ x. p (f x)) xs
position-map p f xs = rw (place-map p f xs, length-of-map f xs) refl

pub map-push : {A B : Type 0} (f : A → B) (xs : List A) (y : A) → map f (xs ++ y ∷ []) ≡ map f xs ++ f y ∷ []
map-push f [] y = refl
map-push f (x ∷ xs) y = ap (λ t. f x ∷ t) (map-push f xs y)

-- a test passes somewhere exactly where its place is below the length
pub any-place : {A : Type 0} (p : A → Bool) (xs : List A) → list_any p xs ≡ nat_lt (position_or_len p xs) (length xs)
any-place p [] = refl
any-place p (x ∷ xs) = grind (arith, common_steps, nat_tests, any-place p xs)

pub place-push : {A : Type 0} (p : A → Bool) (xs : List A) (y : A) → list_any p xs ≡ false → p y ≡ true → position_or_len p (xs ++ y ∷ []) ≡ length xs
place-push p [] y h k = grind (arith, common_steps)
place-push p (x ∷ xs) y h k = grind (arith, common_steps, place-push p xs y)

pub known : {A : Type 0} (p : A → Bool) (xs : List A) (i : ℕ) → position p xs ≡ Some i → list_any p xs ≡ true
known p xs i h = grind (arith, common_steps, nat_tests, any-place p xs)

pub unknown : {A : Type 0} (p : A → Bool) (xs : List A) → position p xs ≡ None → list_any p xs ≡ false
unknown p xs h = grind (arith, common_steps, nat_tests, any-place p xs)

pub position-push : {A : Type 0} (p : A → Bool) (xs : List A) (y : A) → list_any p xs ≡ false → p y ≡ true → position p (xs ++ y ∷ []) ≡ Some (length xs)
position-push p xs y h k = rw (place-push p xs y h k, length-append) (grind (arith, common_steps, nat_tests))

pub get-map : {A B : Type 0} (f : A → B) (xs : List A) (i : ℕ) (x : A) → slice_get xs i ≡ Some x → slice_get (map f xs) i ≡ Some (f x)
get-map f [] i x h = absurd cc
get-map f (y ∷ xs) zero x h = let e : y ≡ x = cc in ap (λ v. Some (f v)) e
get-map f (y ∷ xs) (suc i) x h = get-map f xs i x h

-- the text after the last one of a table
pub get-push : {A : Type 0} (xs : List A) (y x : A) (i : ℕ) → slice_get (xs ++ y ∷ []) i ≡ Some x → (slice_get xs i ≡ Some x) ⊎ ((i ≡ length xs) × (x ≡ y))
get-push [] y x zero h = inr (refl, cc)
get-push [] y x (suc i) h = absurd cc
get-push (z ∷ xs) y x zero h = inl h
get-push (z ∷ xs) y x (suc i) h = ⊎_elim inl (λ e. inr (ap suc e.0, e.1)) (get-push xs y x i h)

pub place-before : {A : Type 0} (p : A → Bool) (xs ys : List A) → position_or_len p xs < length xs → position_or_len p (xs ++ ys) ≡ position_or_len p xs
place-before p [] ys h = absurd (omega arith)
place-before p (x ∷ xs) ys h = grind (arith, common_steps, nat_tests, place-before p xs ys)

-- a text that stands among the first ones stands there with more after them
pub position-before : {A : Type 0} (p : A → Bool) (xs ys : List A) (i : ℕ) → position p xs ≡ Some i → position p (xs ++ ys) ≡ Some i
position-before p xs ys i h =
    let low : position_or_len p xs < length xs = grind (arith, common_steps, nat_tests, h) in
    let at : position_or_len p xs ≡ i = grind (arith, common_steps, nat_tests, h) in
    rw (place-before p xs ys low, length-append) (grind (arith, common_steps, nat_tests))

-- a table with a new name after it
pub IsTable-push : (table : Table) (text : List ℕ) → IsTable table → IsName text → place_of text table ≡ None → IsTable (table ++ text ∷ [])
IsTable-push table text all name new x place at =
    ⊎_elim
    (λ old. let known = all x place old in (known.0, position-before (bytes_eq x) table (text ∷ []) place known.1))
    (λ last.
    let e : x ≡ text = last.1 in
    let same : bytes_eq text text ≡ true = (bytes_eq-Decides text text).1 refl in
    let here = position-push (bytes_eq text) table text (unknown (bytes_eq text) table new) same in
    rw (e, last.0) (name, here))
    (get-push table text x place at)

-- the texts of the keys after which a new one was put
pub keys-added : (keys : List (String Global)) (key : String Global) (text : List ℕ) → string_bytes key ≡ text → place_of text (texts_of keys) ≡ None → texts_of (if list_any (string_eq key) keys then keys else keys ++ key ∷ []) ≡ texts_of keys ++ text ∷ []
keys-added keys key text e new =
    let no : list_any (bytes_eq (string_bytes key)) (texts_of keys) ≡ false = rw e (unknown (bytes_eq text) (texts_of keys) new) in
    let none : list_any (string_eq key) keys ≡ false = sym (any-map (bytes_eq (string_bytes key)) string_bytes keys) ∙ no in
    rw (none, map-push, e) refl
