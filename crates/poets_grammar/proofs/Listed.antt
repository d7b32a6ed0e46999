-- Lists of items, in brackets and without: what is read of them, and what is right.
use Rattle.std.proofs.Common.{◌≡◌, ℕ, zero, suc, pred, ◌<◌, Bool, true, false, List, [], ◌∷◌, length, Option, Some, None, Ok, Err, if◌then◌else◌, refl, ap, subst, ◌∙◌, arith}
use Rattle.std.specs.Prelude.{IfSome}
use Rattle.poets_lex.specs.declared.token.Sign.{Sign}
use Rattle.poets_lex.specs.declared.token.Sign.TheVariants as S
use Rattle.poets_lex.specs.declared.token.Tok.{Tok}
use Rattle.poets_lex.specs.declared.token.Tok.TheVariants as K
use Rattle.poets_grammar.specs.Lists.{ReadsList, ReadsBracketed}
use Rattle.poets_grammar.specs.Reading.{Reading, ◌>>=◌, same_sign, behind_sign, sign, others, listed_at, listed, some_listed, none_or_some, bracketed}
use Rattle.poets_grammar.proofs.Steps.{sign_is, same_sign_is}
use Rattle.poets_grammar.proofs.Readers.{SameFirst, at_token, at_end, fronts, Begins, Fuel, no_fuel, counted, Outcome, IsReader, Then, followed, stays, done, takes, like_end, like_token, refuelled, mapped_outcome}
use Rattle.poets_grammar.proofs.TokenReaders.{lasts, behind_the_sign}

-- the reader reads exactly the items that have what may stand after them
pub record IsItem {A : Type 0} (item : List Tok → Reading A) (Item : List Tok → A → List Tok → Type 0) (Stops : List Tok → Type 0) : Type 0 where
  pub reads : (n : ℕ) → IsReader n no_fuel fronts Item (λ i us. item us)
  pub complete : (ts rest : List Tok) (x : A) → Item ts x rest → Stops rest → item ts ≡ Ok (x, rest)
  pub shorter : (ts rest : List Tok) (x : A) → Item ts x rest → length rest < length ts
  pub no_paren : (ts : List Tok) → item (K.Sign S.RightParen ∷ ts) ≡ Err (suc (length ts))
  pub at_comma : (ts : List Tok) → Stops (K.Sign S.Comma ∷ ts)
  pub at_paren : (ts : List Tok) → Stops (K.Sign S.RightParen ∷ ts)

-- whether a token is the sign
pub data IsSign (wanted : Sign) (t : Tok) : Type 0 where
  Other : ((us : List Tok) → behind_sign wanted (t ∷ us) ≡ None) → IsSign wanted t
  Same : ((us : List Tok) → behind_sign wanted (t ∷ us) ≡ Some us) → t ≡ K.Sign wanted → IsSign wanted t

tested : (wanted found : Sign) (b : Bool) → same_sign found wanted ≡ b → IsSign wanted (K.Sign found)
tested wanted found true e = IsSign.Same (λ us. ap (λ (x : Bool). if x then Some us else None) e) (ap (λ (s : Sign). K.Sign s) (same_sign_is found wanted e))
tested wanted found false e = IsSign.Other (λ us. ap (λ (x : Bool). if x then Some us else None) e)

pub is_sign : (wanted : Sign) (t : Tok) → IsSign wanted t
is_sign wanted (K.Sign found) = tested wanted found (same_sign found wanted) refl
is_sign wanted _ = IsSign.Other (λ us. refl)

one_less : (k a : ℕ) → suc a < k → a < pred k
one_less zero a l = absurd (omega arith)
one_less (suc k) a l = omega arith

-- the same after an item
abbrev one_read : Fuel ℕ
one_read = record { Lasts = λ k a. a < pred k; less = λ k a b l h. omega arith }

module _ {A : Type 0} {item : List Tok → Reading A} {Item : List Tok → A → List Tok → Type 0} {Stops : List Tok → Type 0} (g : IsItem item Item Stops) where
  -- ---- what is read is right, and stops where nothing else can stand

  pub item_reader : {I : Type 0} {fuel : Fuel I} (n : ℕ) → IsReader n fuel fronts Item (λ i us. item us)
  item_reader n = refuelled (λ i us. tt) (λ i us l. tt) (λ i us l. refl) (g.reads n)

  -- after the item x
  ends_list : (x : A) (ts : List Tok) → ((us : List Tok) → SameFirst ts us → behind_sign S.Comma us ≡ None) →
      Outcome counted fronts (Then Item (ReadsList Item) x) (λ k us. others (listed_at item (pred k)) x us (behind_sign S.Comma us)) ts
  ends_list x ts none =
      stays ts (x ∷ []) (λ more stop us i. ReadsList.One i) tt (λ k us s l. ap (others (listed_at item (pred k)) x us) (none us s))

  at_sign : (n : ℕ) → IsReader n counted fronts (ReadsList Item) (λ k us. listed_at item k us) → (x : A) (t : Tok) (ts : List Tok) → length ts < n → IsSign S.Comma t →
      Outcome counted fronts (Then Item (ReadsList Item) x) (λ k us. others (listed_at item (pred k)) x us (behind_sign S.Comma us)) (t ∷ ts)
  at_sign n again x t ts lt (IsSign.Other none) = ends_list x (t ∷ ts) (λ us s. at_token (λ ws. behind_sign S.Comma ws ≡ None) none s)
  at_sign n again x t ts lt (IsSign.Same some e) =
      takes {inner = one_read} t ts (λ k us l. ap (others (listed_at item (pred k)) x (t ∷ us)) (some us)) (λ k a l. one_less k a l)
      (mapped_outcome {P = ReadsList Item} (λ xs. x ∷ xs) (λ xs. (x ∷ xs.0, xs.1)) (λ xs rest. refl) (λ rest. (λ h. h, λ h. h))
      (λ us rest xs l ws i. ReadsList.More (subst (λ y. Item ws x (y ∷ us)) e i) l)
      ((refuelled (λ k us. pred k) (λ k us l. l) (λ k us l. refl) again).reads ts lt))

  others_reader : (n : ℕ) → IsReader n counted fronts (ReadsList Item) (λ k us. listed_at item k us) → (x : A) →
      IsReader (suc n) counted fronts (Then Item (ReadsList Item) x) (λ k us. others (listed_at item (pred k)) x us (behind_sign S.Comma us))
  others_reader n again x = record { reads = outcome; some = record { more = []; value = x ∷ []; is = λ rest stop us i. ReadsList.One i } }
    where
      outcome : (ts : List Tok) → length ts < suc n → Outcome counted fronts (Then Item (ReadsList Item) x) (λ k us. others (listed_at item (pred k)) x us (behind_sign S.Comma us)) ts
      outcome [] lt = ends_list x [] (λ us s. at_end (λ ws. behind_sign S.Comma ws ≡ None) refl s)
      outcome (t ∷ ts) lt = at_sign n again x t ts (omega arith) (is_sign S.Comma t)

  by_turn : (k : ℕ) (us : List Tok) → length us < k → listed_at item k us ≡ (item us >>= λ x. others (listed_at item (pred k)) x.0 x.1 (behind_sign S.Comma x.1))
  unfolding listed_at
  by_turn zero us lt = absurd (omega arith)
  by_turn (suc k) us lt = refl

  one_item : Begins (λ rest. Unit {0}) (ReadsList Item) []
  one_item = let b = (g.reads 0).some in record { more = b.more; value = b.value ∷ []; is = λ rest stop. ReadsList.One (b.is rest stop) }

  listed_at_reader : (n : ℕ) → IsReader n counted fronts (ReadsList Item) (λ k us. listed_at item k us)
  listed_at_reader zero = record { reads = λ ts lt. absurd (omega arith); some = one_item }
  listed_at_reader (suc n) =
      refuelled (λ k us. k) (λ k us l. l) (λ k us l. by_turn k us l)
      (followed (λ k x. others (listed_at item (pred k)) x.0 x.1 (behind_sign S.Comma x.1)) (item_reader (suc n)) (others_reader n (listed_at_reader n)))

  pub listed_reader : {I : Type 0} {fuel : Fuel I} (n : ℕ) → IsReader n fuel fronts (ReadsList Item) (λ i us. listed item us)
  unfolding listed
  listed_reader n = refuelled (λ i us. suc (length us)) (λ i us l. omega arith) (λ i us l. refl) (listed_at_reader n)

  -- in brackets, after the `(`
  some_listed_reader : {I : Type 0} {fuel : Fuel I} (n : ℕ) → IsReader n fuel fronts (λ us xs rest. ReadsBracketed Item (K.Sign S.LeftParen ∷ us) xs rest) (λ i us. some_listed item us)
  unfolding some_listed
  some_listed_reader n =
      followed (λ i xs. sign S.RightParen xs.1 >>= λ rest. Ok (xs.0, rest)) (listed_reader n)
      (λ xs. behind_the_sign S.RightParen (done xs (λ more us l. ReadsBracketed.Full l) (λ rest. tt)))

  at_paren_or_not : {I : Type 0} {fuel : Fuel I} (n : ℕ) (t : Tok) (ts : List Tok) → length (t ∷ ts) < n → IsSign S.RightParen t →
      Outcome fuel fronts (λ us xs rest. ReadsBracketed Item (K.Sign S.LeftParen ∷ us) xs rest) (λ i us. none_or_some item us (behind_sign S.RightParen us)) (t ∷ ts)
  at_paren_or_not n t ts lt (IsSign.Other none) = like_token (λ i us. ap (none_or_some item (t ∷ us)) (none us)) ((some_listed_reader n).reads (t ∷ ts) lt)
  at_paren_or_not {fuel = fuel} n t ts lt (IsSign.Same some e) =
      takes {inner = fuel} t ts (λ i us l. ap (none_or_some item (t ∷ us)) (some us)) (lasts fuel)
      (stays ts [] (λ more stop. rw e ReadsBracketed.Empty) tt (λ i us s l. refl))

  none_or_some_reader : {I : Type 0} {fuel : Fuel I} (n : ℕ) →
      IsReader n fuel fronts (λ us xs rest. ReadsBracketed Item (K.Sign S.LeftParen ∷ us) xs rest) (λ i us. none_or_some item us (behind_sign S.RightParen us))
  none_or_some_reader {I} {fuel} n = record { reads = outcome; some = record { more = K.Sign S.RightParen ∷ []; value = []; is = λ rest stop. ReadsBracketed.Empty } }
    where
      outcome : (ts : List Tok) → length ts < n → Outcome fuel fronts (λ us xs rest. ReadsBracketed Item (K.Sign S.LeftParen ∷ us) xs rest) (λ i us. none_or_some item us (behind_sign S.RightParen us)) ts
      outcome [] lt = like_end (λ i. refl) ((some_listed_reader n).reads [] lt)
      outcome (t ∷ ts) lt = at_paren_or_not n t ts lt (is_sign S.RightParen t)

  pub bracketed_reader : {I : Type 0} {fuel : Fuel I} (n : ℕ) → IsReader n fuel fronts (ReadsBracketed Item) (λ i us. bracketed item us)
  unfolding bracketed
  bracketed_reader n = behind_the_sign S.LeftParen (none_or_some_reader n)

  -- ---- what is right is read

  pub list_shorter : {ts rest : List Tok} {xs : List A} → ReadsList Item ts xs rest → length rest < length ts
  list_shorter (ReadsList.One i) = g.shorter _ _ _ i
  list_shorter (ReadsList.More i l) = omega (arith, g.shorter _ _ _ i, list_shorter l)

  pub bracketed_shorter : {ts rest : List Tok} {xs : List A} → ReadsBracketed Item ts xs rest → length rest < length ts
  bracketed_shorter ReadsBracketed.Empty = omega arith
  bracketed_shorter (ReadsBracketed.Full l) = omega (arith, list_shorter l)

  listed_at_complete : {ts rest : List Tok} {xs : List A} → ReadsList Item ts xs rest → (k : ℕ) → length ts < k → Stops rest → behind_sign S.Comma rest ≡ None →
      listed_at item k ts ≡ Ok (xs, rest)
  unfolding listed_at
  listed_at_complete (ReadsList.One i) zero l s n = absurd (omega arith)
  listed_at_complete (ReadsList.One i) (suc k) l s n = rw (g.complete _ _ _ i s, n) refl
  listed_at_complete (ReadsList.More i r) zero l s n = absurd (omega arith)
  listed_at_complete (ReadsList.More i r) (suc k) l s n =
      rw (g.complete _ _ _ i (g.at_comma _), listed_at_complete r k (omega (arith, g.shorter _ _ _ i)) s n) refl

  pub listed_complete : {ts rest : List Tok} {xs : List A} → ReadsList Item ts xs rest → Stops rest → behind_sign S.Comma rest ≡ None → listed item ts ≡ Ok (xs, rest)
  unfolding listed
  listed_complete {ts = ts} l s n = listed_at_complete l (suc (length ts)) (omega arith) s n

  not_paren : (ts : List Tok) (p : A × List Tok) → item ts ≡ Ok p → (r : Option (List Tok)) → IfSome r (λ rest. ts ≡ K.Sign S.RightParen ∷ rest) → r ≡ None
  not_paren ts p e None is = refl
  not_paren ts p e (Some rest) is =
      let none : item ts ≡ Err (suc (length rest)) = ap item is ∙ g.no_paren rest in
      absurd cc

  list_no_paren : {ts rest : List Tok} {xs : List A} → ReadsList Item ts xs rest → Stops rest → behind_sign S.RightParen ts ≡ None
  list_no_paren {ts = ts} (ReadsList.One i) s = not_paren ts _ (g.complete _ _ _ i s) (behind_sign S.RightParen ts) (sign_is S.RightParen ts)
  list_no_paren {ts = ts} (ReadsList.More i l) s = not_paren ts _ (g.complete _ _ _ i (g.at_comma _)) (behind_sign S.RightParen ts) (sign_is S.RightParen ts)

  pub bracketed_complete : {ts rest : List Tok} {xs : List A} → ReadsBracketed Item ts xs rest → bracketed item ts ≡ Ok (xs, rest)
  unfolding bracketed some_listed
  bracketed_complete ReadsBracketed.Empty = refl
  bracketed_complete (ReadsBracketed.Full l) = rw (list_no_paren l (g.at_paren _), listed_complete l (g.at_paren _) refl) refl
