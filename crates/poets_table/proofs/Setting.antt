-- Lists with one item changed, and what a table keeps.
use Rattle.std.proofs.Common.{◌≡◌, ℕ, zero, suc, ◌+◌, ◌-◌, ◌<◌, Bool, false, List, [], ◌∷◌, ◌++◌, Option, Some, None, map, length, nat_eq, slice_get, slice_set, slice_index_or, option_map, refl, sym, nat_lt, ap, ◌∙◌, arith, subst, if◌then◌else◌}
use Rattle.std.specs.List.{position, position_or_len, list_any}
use Rattle.std.proofs.lemmas.Grind.{common_steps}
use Rattle.std.proofs.lemmas.Bool.Decides.{nat_tests}
use Rattle.poets_value.specs.declared.value.Name.{Name}
use Rattle.poets_value.specs.declared.event.Event.{Event}
use Rattle.poets_value.specs.Listed.{Listed}
use Rattle.poets_table.specs.declared.table.Row.{Row}
use Rattle.poets_table.specs.TableView.{row_view, changed_at, number_named}
use Rattle.poets_table.specs.Kept.{AreNames, IsReady}

pub set_map : {A B : Type 0} (g : A → B) (f : B → B) (xs : List A) (i : ℕ) (x x' : A) →
    i < length xs → x ≡ slice_index_or xs i x → g x' ≡ f (g x) → map g (slice_set xs i x') ≡ changed_at f i (map g xs)
set_map g f [] i x x' h e k = absurd (omega (arith, h))
set_map g f (y ∷ xs) zero x x' h e k = ap (λ z. z ∷ map g xs) (k ∙ ap (λ w. f (g w)) e)
set_map g f (y ∷ xs) (suc i) x x' h e k = ap (λ zs. g y ∷ zs) (set_map g f xs i x x' (omega (arith, h)) e k)

pub set_same : {A B : Type 0} (g : A → B) (xs : List A) (i : ℕ) (x x' : A) →
    i < length xs → x ≡ slice_index_or xs i x → g x' ≡ g x → map g (slice_set xs i x') ≡ map g xs
set_same g [] i x x' h e k = absurd (omega (arith, h))
set_same g (y ∷ xs) zero x x' h e k = ap (λ z. z ∷ map g xs) (k ∙ ap g e)
set_same g (y ∷ xs) (suc i) x x' h e k = ap (λ zs. g y ∷ zs) (set_same g xs i x x' (omega (arith, h)) e k)

pub set_get : {A : Type 0} (xs : List A) (i : ℕ) (x : A) → i < length xs → slice_get (slice_set xs i x) i ≡ Some x
set_get [] i x h = absurd (omega (arith, h))
set_get (y ∷ xs) zero x h = refl
set_get (y ∷ xs) (suc i) x h = set_get xs i x (omega (arith, h))

pub index_get : {A : Type 0} (xs : List A) (i : ℕ) (x : A) → i < length xs → x ≡ slice_index_or xs i x → slice_get xs i ≡ Some x
index_get [] i x h e = absurd (omega (arith, h))
index_get (y ∷ xs) zero x h e = ap Some (sym e)
index_get (y ∷ xs) (suc i) x h e = index_get xs i x (omega (arith, h)) e

pub map_get : {A B : Type 0} (g : A → B) (xs : List A) (i : ℕ) → slice_get (map g xs) i ≡ option_map g (slice_get xs i)
map_get g [] i = refl
map_get g (x ∷ xs) zero = refl
map_get g (x ∷ xs) (suc i) = map_get g xs i

found : {A : Type 0} (P : A → Type 0) (g : A → ℕ) (o : Option A) (n : ℕ) → option_map g o ≡ Some n → ((r : A) → o ≡ Some r → 0 < g r) → 0 < n
found P g None n e h = absurd cc
found P g (Some r) n e h = let k : g r ≡ n = cc in subst (λ m. 0 < m) k (h r refl)

pub still_ready : {O T : Type 0} (n : ℕ) (old new : List (Row O T)) (log : Listed (ℕ × Event)) →
    map (λ r. r.events.room) new ≡ map (λ r. r.events.room) old → IsReady n old log → IsReady n new log
still_ready n old new log e h k =
    let was = h k in (
      was.0,
      λ r q.
          found (λ r. 0 < r.events.room) (λ r. r.events.room) (slice_get old (n - 1)) r.events.room
          (sym (map_get (λ r. r.events.room) old (n - 1)) ∙ ap (λ xs. slice_get xs (n - 1)) (sym e) ∙ map_get (λ r. r.events.room) new (n - 1) ∙ ap (option_map (λ r. r.events.room)) q)
          was.1,
    )

place-map : {A B : Type 0} (p : B → Bool) (f : A → B) (xs : List A) → position_or_len p (map f xs) ≡ position_or_len (λ x. p (f x)) xs
place-map p f [] = refl
place-map p f (x ∷ xs) = grind (arith, common_steps, place-map p f xs)

length-of-map : {A B : Type 0} (f : A → B) (xs : List A) → length (map f xs) ≡ length xs
length-of-map f [] = refl
length-of-map f (x ∷ xs) = ap suc (length-of-map f xs)

position-map : {A B : Type 0} (p : B → Bool) (f : A → B) (xs : List A) → position p (map f xs) ≡ position (λ x. p (f x)) xs
position-map p f xs = rw (place-map p f xs, length-of-map f xs) refl

place : {A B : Type 0} (p : B → Bool) (f : A → B) (xs : List A) → position p (map f xs) ≡ position (λ x. p (f x)) xs
place p f xs = position-map p f xs

pub numbers : {O T : Type 0} (x : Name) (keys : List Name) (rows : List (Row O T)) → AreNames keys rows →
    option_map (λ i. i + 1) (position (λ y. nat_eq x.id y.id) keys) ≡ number_named x (map row_view rows)
numbers x keys rows e =
    ap (option_map (λ i. i + 1)) (ap (position (λ y. nat_eq x.id y.id)) e
    ∙ place (λ y. nat_eq x.id y.id) (λ r. r.name) rows ∙ sym (place (λ r. nat_eq x.id r.name.id) row_view rows))

any-place : {A : Type 0} (p : A → Bool) (xs : List A) → list_any p xs ≡ nat_lt (position_or_len p xs) (length xs)
any-place p [] = refl
any-place p (x ∷ xs) = grind (arith, common_steps, nat_tests, any-place p xs)

unknown : {A : Type 0} (p : A → Bool) (xs : List A) → position p xs ≡ None → list_any p xs ≡ false
unknown p xs h = grind (arith, common_steps, nat_tests, any-place p xs)

map-push : {A B : Type 0} (f : A → B) (xs : List A) (y : A) → map f (xs ++ y ∷ []) ≡ map f xs ++ f y ∷ []
map-push f [] y = refl
map-push f (x ∷ xs) y = ap (λ t. f x ∷ t) (map-push f xs y)

none : {A B : Type 0} (f : A → B) (o : Option A) → option_map f o ≡ None → o ≡ None
none f None e = refl
none f (Some x) e = absurd cc

pub added_names : {O T : Type 0} (x : Name) (keys keys' keys'' : List Name) (rows : List (Row O T)) (r : Row O T) → AreNames keys rows →
    number_named x (map row_view rows) ≡ None → keys' ≡ keys →
    keys'' ≡ (if list_any (λ y. nat_eq x.id y.id) keys' then keys' else keys' ++ x ∷ []) → r.name ≡ x →
    AreNames keys'' (rows ++ r ∷ [])
added_names x keys keys' keys'' rows r h n u e k =
    let p : position (λ y. nat_eq x.id y.id) keys ≡ None = none (λ i. i + 1) (position (λ y. nat_eq x.id y.id) keys) (numbers x keys rows h ∙ n) in
    let a : list_any (λ y. nat_eq x.id y.id) keys' ≡ false = ap (list_any (λ y. nat_eq x.id y.id)) u ∙ unknown (λ y. nat_eq x.id y.id) keys p in
    let e' : keys'' ≡ keys' ++ x ∷ [] = rw a at e in
    e' ∙ ap (λ ks. ks ++ x ∷ []) (u ∙ h) ∙ ap (λ y. map (λ r. r.name) rows ++ y ∷ []) (sym k) ∙ sym (map-push (λ r. r.name) rows r)
