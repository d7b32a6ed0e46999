-- Names among tokens, and tokens of statements.
use Rattle.std.proofs.Common.{◌≡◌, ℕ, zero, suc, ◌+◌, ◌<◌, ◌≤◌, Bool, true, false, List, [], ◌∷◌, ◌++◌, All, Some, length, take, drop, get_or, refl, sym, ap, subst, ◌∙◌, arith}
use Rattle.std.specs.Prelude.{slice_get, ◌==◌, if◌then◌else◌}
use Rattle.std.proofs.lemmas.Bool.{eqb-true}
use Rattle.std.proofs.lemmas.List.{take_all, take_more}
use Rattle.std.proofs.lemmas.List.Elements.{All-nil, All-cons, All-head, All-tail, All-get_or, All-append}
use Rattle.std.proofs.lemmas.Option.{slice_get_read}
use Rattle.poets_value.specs.declared.value.Name.{Name}
use Rattle.poets_lex.specs.declared.token.Tok.{Tok}
use Rattle.poets_lex.specs.declared.token.Tok.TheVariants as K
use Rattle.poets_lex.specs.declared.token.Token.{Token}
use Rattle.poets_grammar.specs.Tokens.{IsNatural, AreNatural}
use Rattle.poets_session.specs.Pieces.{is_end, ahead_of_end, after_end}
use Rattle.poets_mark.specs.Naming.{is_name, LacksName}
use Rattle.poets_mark.specs.code.Named.{IsNameAt}
use Rattle.poets_mark.specs.Places.{statement_tokens, first_place}

-- a token ahead of the end is a token
pub at_token : (l : List Token) (k : ℕ) (t : Token) → slice_get (ahead_of_end l) k ≡ Some t → first_place (drop k l) ≡ Some t.from
at_token [] k t h = absurd cc
at_token (u ∷ us) zero t h = by (is_end u.what) h
  where
    by : (b : Bool) → slice_get (if b then [] else u ∷ ahead_of_end us) zero ≡ Some t → Some u.from ≡ Some t.from
    by true h = absurd cc
    by false h = let same : u ≡ t = cc in ap (λ (x : Token). Some x.from) same
at_token (u ∷ us) (suc k) t h = by (is_end u.what) (λ i. at_token us k t i) h
  where
    by : (b : Bool) → (slice_get (ahead_of_end us) k ≡ Some t → first_place (drop k us) ≡ Some t.from) → slice_get (if b then [] else u ∷ ahead_of_end us) (suc k) ≡ Some t → first_place (drop k us) ≡ Some t.from
    by true later h = absurd cc
    by false later h = later h

-- ---- names

pub is_named : (x : Name) (t : Tok) → is_name x t ≡ true → t ≡ K.Name x
is_named x (K.Word w) e = absurd cc
is_named x (K.Name y) e = ap (λ i. K.Name (record { id = i })) (eqb-true y.id x.id e)
is_named x (K.Number n) e = absurd cc
is_named x (K.Day d) e = absurd cc
is_named x (K.Sign s) e = absurd cc

-- the token at the place is the name
pub named_at : (l : List Token) (x : Name) (i : ℕ) (t : Token) → i < length l → t ≡ get_or l i t → is_name x t.what ≡ true → IsNameAt l x i
named_at l x i t h at e = (t, slice_get_read l (length l) i t refl h at, is_named x t.what e)

pub lacks_none : (x : Name) → LacksName [] x
lacks_none x = All-nil (λ (u : Token). is_name x u.what ≡ false)

-- one token on that is not the name
pub lacks_next : (l : List Token) (x : Name) (i : ℕ) (t : Token) → i < length l → t ≡ get_or l i t → LacksName (take i l) x → is_name x t.what ≡ false → LacksName (take (i + 1) l) x
lacks_next l x i t h at none e =
    subst (λ ts. LacksName ts x) (sym (take_more l i t h ∙ ap (λ (u : Token). take i l ++ u ∷ []) (sym at)))
    (let P : Token → Type 0 = λ u. is_name x u.what ≡ false in All-append P (take i l) (t ∷ []) none (All-cons P t [] e (All-nil P)))

-- none of all
pub lacks_all : (l : List Token) (x : Name) (i : ℕ) → length l ≤ i → LacksName (take i l) x → LacksName l x
lacks_all l x i h none = subst (λ ts. LacksName ts x) (take_all i l h) none

-- ---- natural tokens

abbrev natural : Token → Type 0
natural t = IsNatural t.what

-- the token is natural, as all of its list are
pub natural_at : (l : List Token) (i : ℕ) (t : Token) → i < length l → t ≡ get_or l i t → AreNatural l → IsNatural t.what
natural_at l i t h at all = subst natural (sym at) (All-get_or natural l i t h all)

pub natural_none : AreNatural []
natural_none = All-nil natural

pub natural_more : (l : List Token) (t : Token) → AreNatural l → IsNatural t.what → AreNatural (l ++ t ∷ [])
natural_more l t all h = All-append natural l (t ∷ []) all (All-cons natural t [] h (All-nil natural))

pub natural_ahead : (ts : List Token) → AreNatural ts → AreNatural (ahead_of_end ts)
natural_ahead [] h = h
natural_ahead (t ∷ ts) h = by (is_end t.what) (All-cons natural t (ahead_of_end ts) (All-head natural t ts h) (natural_ahead ts (All-tail natural t ts h)))
  where
    by : (b : Bool) → AreNatural (t ∷ ahead_of_end ts) → AreNatural (if b then [] else t ∷ ahead_of_end ts)
    by true some = All-nil natural
    by false some = some

pub natural_after : (ts : List Token) → AreNatural ts → AreNatural (after_end ts)
natural_after [] h = h
natural_after (t ∷ ts) h = by (is_end t.what) (All-tail natural t ts h) (natural_after ts (All-tail natural t ts h))
  where
    by : (b : Bool) → AreNatural ts → AreNatural (after_end ts) → AreNatural (if b then ts else after_end ts)
    by true here later = here
    by false here later = later

pub natural_statement : (n : ℕ) (ts : List Token) → AreNatural ts → AreNatural (statement_tokens n ts)
natural_statement zero ts h = h
natural_statement (suc n) ts h = natural_statement n (after_end ts) (natural_after ts h)

-- fewer tokens stand after an end
after_few : (ts : List Token) → length (after_end ts) ≤ length ts
after_few [] = omega arith
after_few (t ∷ ts) = by (is_end t.what) (after_few ts)
  where
    by : (b : Bool) → length (after_end ts) ≤ length ts → length (if b then ts else after_end ts) ≤ length (t ∷ ts)
    by true h = omega arith
    by false h = omega arith

fewer_after : (t : Token) (ts : List Token) → length (after_end (t ∷ ts)) ≤ length ts
fewer_after t ts = by (is_end t.what) (after_few ts)
  where
    by : (b : Bool) → length (after_end ts) ≤ length ts → length (if b then ts else after_end ts) ≤ length ts
    by true h = omega arith
    by false h = h

pub shorter_after : (l : List Token) → false ≡ (length l == 0) → length (after_end l) < length l
shorter_after [] e = absurd cc
shorter_after (t ∷ ts) e = omega (arith, fewer_after t ts)
