-- Tokens cut into statements.
use Rattle.std.proofs.Common.{◌≡◌, ◌≢◌, ℕ, ◌+◌, ◌<◌, ◌≤◌, true, false, List, [], ◌∷◌, ◌++◌, length, take, drop, get_or, refl, sym, ap, subst, ◌∙◌}
use Rattle.std.proofs.lemmas.List.{append-nil, take-append-drop, take_all, take_more, drop_more, map-append}
use Rattle.poets_lex.specs.declared.token.Tok.{Tok}
use Rattle.poets_lex.specs.declared.token.Token.{Token}
use Rattle.poets_grammar.specs.Tokens.{toks}
use Rattle.poets_session.specs.Pieces.{pieces_of, is_end, ahead_of_end, after_end}
use Rattle.poets_session.specs.code.Splitting.{piece}

-- none of the tokens ends a statement
pub data AreInside : List Tok → Type 0 where
  Nothing : AreInside []
  Next : {t : Tok} {ts : List Tok} → is_end t ≡ false → AreInside ts → AreInside (t ∷ ts)

pub pieces_ended : (ts : List Tok) (t : Tok) (rest : List Tok) → AreInside ts → is_end t ≡ true → pieces_of (ts ++ t ∷ rest) ≡ piece ts true ∷ pieces_of rest
pieces_ended [] t rest h e = rw e refl
pieces_ended (x ∷ ts) t rest (Next f h) e = rw (f, pieces_ended ts t rest h e) refl

pub pieces_unended : (ts : List Tok) → ts ≢ [] → AreInside ts → pieces_of ts ≡ piece ts false ∷ []
pieces_unended [] n h = absurd (n refl)
pieces_unended (x ∷ []) n (Next f h) = rw f refl
pieces_unended (x ∷ y ∷ ts) n (Next f h) = rw (f, pieces_unended (y ∷ ts) (λ q. absurd cc) h) refl

-- ---- the end of a statement

-- no token ends a statement
abbrev pub NoEnd : List Token → Type 0
NoEnd [] = Unit {0}
NoEnd (t ∷ ts) = (is_end t.what ≡ false) × NoEnd ts

no_end_more : (ts : List Token) (t : Token) → NoEnd ts → is_end t.what ≡ false → NoEnd (ts ++ t ∷ [])
no_end_more [] t h e = (e, tt)
no_end_more (u ∷ ts) t h e = (h.0, no_end_more ts t h.1 e)

-- one token on that ends none
pub no_end_next : (l : List Token) (i : ℕ) (t : Token) → i < length l → t ≡ get_or l i t → NoEnd (take i l) → is_end t.what ≡ false → NoEnd (take (i + 1) l)
no_end_next l i t h at none e = subst NoEnd (sym (take_more l i t h ∙ ap (λ x. take i l ++ x ∷ []) (sym at))) (no_end_more (take i l) t none e)

ahead_of_none : (ts us : List Token) → NoEnd ts → ahead_of_end (ts ++ us) ≡ ts ++ ahead_of_end us
ahead_of_none [] us h = refl
ahead_of_none (t ∷ ts) us h = rw h.0 (ap (λ x. t ∷ x) (ahead_of_none ts us h.1))

after_none : (ts us : List Token) → NoEnd ts → after_end (ts ++ us) ≡ after_end us
after_none [] us h = refl
after_none (t ∷ ts) us h = rw h.0 (after_none ts us h.1)

-- the elements up to one of them, that one, and those after it
pub cut_around : {X : Type 0} (l : List X) (i : ℕ) (x : X) → i < length l → x ≡ get_or l i x → l ≡ take i l ++ x ∷ drop (i + 1) l
cut_around l i x h at = sym (take-append-drop i l) ∙ ap (λ r. take i l ++ r) (drop_more l i x h ∙ ap (λ y. y ∷ drop (i + 1) l) (sym at))

pub ahead_at : (l : List Token) (i : ℕ) (t : Token) → i < length l → t ≡ get_or l i t → NoEnd (take i l) → is_end t.what ≡ true → ahead_of_end l ≡ take i l
ahead_at l i t h at none e =
    let here : ahead_of_end (t ∷ drop (i + 1) l) ≡ [] = rw e refl in
    ap ahead_of_end (cut_around l i t h at) ∙ ahead_of_none (take i l) (t ∷ drop (i + 1) l) none ∙ ap (λ x. take i l ++ x) here ∙ append-nil (take i l)

pub after_at : (l : List Token) (i : ℕ) (t : Token) → i < length l → t ≡ get_or l i t → NoEnd (take i l) → is_end t.what ≡ true → after_end l ≡ drop (i + 1) l
after_at l i t h at none e =
    let here : after_end (t ∷ drop (i + 1) l) ≡ drop (i + 1) l = rw e refl in
    ap after_end (cut_around l i t h at) ∙ after_none (take i l) (t ∷ drop (i + 1) l) none ∙ here

-- no token of all ends a statement
pub never_ahead : (l : List Token) (i : ℕ) → length l ≤ i → NoEnd (take i l) → (ahead_of_end l ≡ l) × (after_end l ≡ [])
never_ahead l i h none =
    let all = subst NoEnd (take_all i l h) none in
    let whole : l ++ [] ≡ l = append-nil l in
    (ap ahead_of_end (sym whole) ∙ ahead_of_none l [] all ∙ whole, ap after_end (sym whole) ∙ after_none l [] all)

inside_of : (ts : List Token) → NoEnd ts → AreInside (toks ts)
inside_of [] h = Nothing
inside_of (t ∷ ts) h = Next h.0 (inside_of ts h.1)

pub cut_at : (l : List Token) (i : ℕ) (t : Token) → i < length l → t ≡ get_or l i t → NoEnd (take i l) → is_end t.what ≡ true →
    pieces_of (toks l) ≡ piece (toks (take i l)) true ∷ pieces_of (toks (drop (i + 1) l))
cut_at l i t h at none e =
    ap (λ r. pieces_of (toks r)) (cut_around l i t h at) ∙ ap pieces_of (map-append (λ t. t.what) (take i l) (t ∷ drop (i + 1) l))
    ∙ pieces_ended (toks (take i l)) t.what (toks (drop (i + 1) l)) (inside_of (take i l) none) e

toks_some : (l : List Token) → l ≢ [] → toks l ≢ []
toks_some [] n e = n refl
toks_some (t ∷ l) n e = absurd cc

pub never_cut : (l : List Token) (i : ℕ) → length l ≤ i → NoEnd (take i l) → l ≢ [] → pieces_of (toks l) ≡ piece (toks l) false ∷ []
never_cut l i h none n = pieces_unended (toks l) (toks_some l n) (inside_of l (subst NoEnd (take_all i l h) none))
