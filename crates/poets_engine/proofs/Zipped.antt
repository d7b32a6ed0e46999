-- Two lists, place by place.
use Rattle.std.proofs.Common.{◌≡◌, ℕ, zero, suc, ◌+◌, ◌<◌, List, [], ◌∷◌, ◌++◌, Some, length, slice_get, take, get_or, refl, ap, subst, sym}
use Rattle.std.specs.List.{AllZip}
use Rattle.std.proofs.lemmas.List.{take_more}

module _ {X Y : Type 0} (P : X → Y → Type 0) where
  -- one item more in each
  pub AllZip-last : (xs : List X) (ys : List Y) (x : X) (y : Y) → AllZip P xs ys → P x y → AllZip P (xs ++ x ∷ []) (ys ++ y ∷ [])
  AllZip-last [] [] x y h k = (k, tt)
  AllZip-last [] (v ∷ ys) x y h k = elim h [ ]
  AllZip-last (u ∷ xs) [] x y h k = elim h [ ]
  AllZip-last (u ∷ xs) (v ∷ ys) x y h k = (h.0, AllZip-last xs ys x y h.1 k)

  -- the two at a place
  pub zip_at : (xs : List X) (ys : List Y) (k : ℕ) (x : X) (d : Y) → AllZip P xs ys → slice_get xs k ≡ Some x → P x (get_or ys k d)
  zip_at [] ys k x d h e = absurd cc
  zip_at (u ∷ xs) [] k x d h e = elim h [ ]
  zip_at (u ∷ xs) (v ∷ ys) zero x d h e = subst (λ z. P z v) (let z : u ≡ x = cc in z) h.0
  zip_at (u ∷ xs) (v ∷ ys) (suc k) x d h e = zip_at xs ys k x d h.1 e

  pub zip_length : (xs : List X) (ys : List Y) → AllZip P xs ys → length xs ≡ length ys
  zip_length [] [] h = refl
  zip_length [] (y ∷ ys) h = elim h [ ]
  zip_length (x ∷ xs) [] h = elim h [ ]
  zip_length (x ∷ xs) (y ∷ ys) h = ap suc (zip_length xs ys h.1)

  -- two lists, one after the other
  pub AllZip-append : (xs : List X) (ys : List Y) (us : List X) (vs : List Y) → AllZip P xs ys → AllZip P us vs → AllZip P (xs ++ us) (ys ++ vs)
  AllZip-append [] [] us vs h k = k
  AllZip-append [] (y ∷ ys) us vs h k = elim h [ ]
  AllZip-append (x ∷ xs) [] us vs h k = elim h [ ]
  AllZip-append (x ∷ xs) (y ∷ ys) us vs h k = (h.0, AllZip-append xs ys us vs h.1 k)

  -- one turn more over a list
  pub AllZip-turn : (xs : List X) (i : ℕ) (d : X) (ys new : List Y) (y : Y) → i < length xs → AllZip P (take i xs) ys → P (get_or xs i d) y → new ≡ ys ++ y ∷ [] →
      AllZip P (take (i + 1) xs) new
  AllZip-turn xs i d ys new y lt h k e =
      subst (AllZip P (take (i + 1) xs)) (sym e) (subst (λ zs. AllZip P zs (ys ++ y ∷ [])) (sym (take_more xs i d lt)) (AllZip-last (take i xs) ys (get_or xs i d) y h k))
