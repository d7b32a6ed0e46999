-- Loops over items with commas between them.
use Rattle.std.proofs.Common.{◌≡◌, ℕ, zero, suc, ◌<◌, ◌≤◌, List, [], ◌∷◌, ◌++◌, append_assoc, length, map, Option, Some, None, Ok, Err, refl, sym, ap, subst, ◌∙◌, arith}
use Rattle.std.proofs.lemmas.List.{length-map, map-append}
use Rattle.poets_lex.specs.declared.token.Sign.TheVariants as S
use Rattle.poets_lex.specs.declared.token.Tok.{Tok}
use Rattle.poets_lex.specs.declared.token.Token.{Token}
use Rattle.poets_grammar.specs.Tokens.{toks}
use Rattle.poets_grammar.specs.Reading.{Reading, ◌>>=◌, behind_sign, others, listed_at, listed}

-- items before those that are read
unfoldable pub in_front : {A : Type 0} → List A → Reading (List A) → Reading (List A)
in_front front r = r >>= λ p. Ok (front ++ p.0, p.1)

-- the items that were read so far, and those at the rest, are the items of the tokens
pub record Listing {A : Type 0} (item : List Tok → Reading A) (tokens : List Token) (front : List A) (rest : List Token) : Type 0 where
  pub turns : ℕ
  pub enough : length rest < turns
  pub same : in_front front (listed_at item turns (toks rest)) ≡ listed item (toks tokens)
  pub less : length rest ≤ length tokens

in_front_of_none : {A : Type 0} (r : Reading (List A)) → in_front [] r ≡ r
unfolding in_front
in_front_of_none (Err left) = refl
in_front_of_none (Ok p) = refl

in_front-more : {A : Type 0} (front : List A) (x : A) (r : Reading (List A)) → in_front front (r >>= λ xs. Ok (x ∷ xs.0, xs.1)) ≡ in_front (front ++ x ∷ []) r
unfolding in_front
in_front-more front x (Err left) = refl
in_front-more front x (Ok p) = ap (λ xs. Ok (xs, p.1)) (sym (append_assoc front (x ∷ []) p.0))

module _ {A : Type 0} (item : List Tok → Reading A) where
  pub listing_begins : (tokens : List Token) → Listing item tokens [] tokens
  unfolding listed
  listing_begins tokens =
      record { turns = suc (length (toks tokens)); enough = omega (arith, length-map tokens (λ t. t.what)); same = in_front_of_none (listed_at item (suc (length (toks tokens))) (toks tokens)); less = omega arith }

  -- no item stands there
  pub listing_fails : (k : ℕ) (front : List A) (rest : List Token) (r : Reading (List A)) (left : ℕ) → in_front front (listed_at item k (toks rest)) ≡ r → length rest < k → item (toks rest) ≡ Err left → r ≡ Err left
  unfolding in_front listed_at
  listing_fails zero front rest r left s l e = absurd (omega arith)
  listing_fails (suc k) front rest r left s l e = sym s ∙ ap (λ x. in_front front (x >>= λ y. others (listed_at item k) y.0 y.1 (behind_sign S.Comma y.1))) e

  by_comma : (k : ℕ) (front : List A) (x : A) (ts behind : List Tok) (r : Option (List Tok)) → item ts ≡ Ok (x, behind) → behind_sign S.Comma behind ≡ r →
      in_front front (listed_at item (suc k) ts) ≡ in_front front (others (listed_at item k) x behind r)
  unfolding listed_at
  by_comma k front x ts behind r e c =
      ap (λ y. in_front front (y >>= λ z. others (listed_at item k) z.0 z.1 (behind_sign S.Comma z.1))) e ∙ ap (λ y. in_front front (others (listed_at item k) x behind y)) c

  -- no comma follows the item
  pub listing_ends : (k : ℕ) (front : List A) (x : A) (rest behind : List Token) (r : Reading (List A)) → in_front front (listed_at item k (toks rest)) ≡ r → length rest < k →
      length behind < length rest → item (toks rest) ≡ Ok (x, toks behind) → behind_sign S.Comma (toks behind) ≡ None → r ≡ Ok (front ++ x ∷ [], toks behind)
  unfolding in_front
  listing_ends zero front x rest behind r s l t e c = absurd (omega arith)
  listing_ends (suc k) front x rest behind r s l t e c = sym s ∙ by_comma k front x (toks rest) (toks behind) None e c

  module _ (front : List A) (x : A) (tokens : List Token) where
    next_at : (k : ℕ) (rest behind after : List Token) → in_front front (listed_at item k (toks rest)) ≡ listed item (toks tokens) →
        length rest < k → length rest ≤ length tokens → item (toks rest) ≡ Ok (x, toks behind) → length behind < length rest →
        behind_sign S.Comma (toks behind) ≡ Some (toks after) → length after < length behind → Listing item tokens (front ++ x ∷ []) after
    next_at zero rest behind after s l n e t c a = absurd (omega arith)
    next_at (suc k) rest behind after s l n e t c a =
        record {
          turns = k;
          enough = omega arith;
          same = sym (in_front-more front x (listed_at item k (toks after))) ∙ sym (by_comma k front x (toks rest) (toks behind) (Some (toks after)) e c) ∙ s;
          less = omega arith;
        }

  -- an item and a comma
  pub listing_next : {front pushed : List A} {tokens rest : List Token} (x : A) (behind after : List Token) → Listing item tokens front rest →
      item (toks rest) ≡ Ok (x, toks behind) → length behind < length rest → pushed ≡ front ++ x ∷ [] →
      behind_sign S.Comma (toks behind) ≡ Some (toks after) → length after < length behind → Listing item tokens pushed after
  listing_next {front} {pushed} {tokens} {rest} x behind after g e t p c a =
      subst (λ l. Listing item tokens l after) (sym p) (next_at front x tokens g.turns rest behind after g.same g.enough g.less e t c a)

pub map_of_pushed : {A B : Type 0} (f : A → B) (pushed xs : List A) (x : A) → pushed ≡ xs ++ x ∷ [] → map f pushed ≡ map f xs ++ f x ∷ []
map_of_pushed f pushed xs x e = ap (map f) e ∙ map-append f xs (x ∷ [])

-- the first item, and the ends of a loop
pub ruleset listing = (listing_begins, listing_fails, listing_ends)
