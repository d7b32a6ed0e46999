-- Texts that are names of a table.
use Rattle.std.proofs.Common.{◌≡◌, ℕ, ◌+◌, List, [], ◌∷◌, ◌++◌, length, map, Option, Some, None, slice_range, refl, sym, ap, subst, ◌∙◌}
use Rattle.std.specs.Str.{bytes_eq}
use Rattle.std.proofs.lemmas.List.{append-nil}
use Rattle.std.proofs.lemmas.Slice.Eq.{bytes_eq-Decides}
use Rattle.poets_value.specs.declared.value.Name.{Name}
use Rattle.poets_value.specs.declared.value.Ty.TheVariants as T
use Rattle.poets_lex.specs.declared.token.Tok.{Tok}
use Rattle.poets_lex.specs.declared.token.Tok.TheVariants as K
use Rattle.poets_lex.specs.declared.token.Token.{Token}
use Rattle.poets_lex.specs.Table.{Table, Extends, IsName, place_of, with_text}
use Rattle.poets_lex.specs.Laws.{Stand}
use Rattle.poets_lex.specs.Lexes.{IsTextOf, Lexes, Piece, Reads}
use Rattle.poets_lex.proofs.Found.{known, position-before, position-push, unknown}
use Rattle.poets_lex.proofs.OneWay.{one-reading}
use Rattle.poets_lex.proofs.Standing.{standing}
use Rattle.poets_print.specs.Texts.{name_text}
use Rattle.poets_literals.specs.Declared.{IsPlaced}
use Rattle.poets_literals.proofs.NameTexts.{found_name}
use Rattle.poets_import.specs.Phrases.{Called, Says}
use Rattle.poets_import.specs.code.Spoken.{IsCalled}

-- a text that was entered stands at a place
record Entered (before : Table) (text : List ℕ) : Type 0 where
  name : Name
  place : place_of text (with_text text before) ≡ Some name.id

entered_by : (before : Table) (text : List ℕ) (found : Option ℕ) → place_of text before ≡ found → Entered before text
entered_by before text (Some n) e = record {
  name = record { id = n };
  place = rw (known (bytes_eq text) before n e) e;
}
entered_by before text None e =
    let new = unknown (bytes_eq text) before e in
    record {
      name = record { id = length before };
      place = rw new (position-push (bytes_eq text) before text new ((bytes_eq-Decides text text).1 refl));
    }

-- a name alone is cut into its token
name_cut :
    (before : Table) (text : List ℕ) (x : Name) → IsName text → place_of text (with_text text before) ≡ Some x.id →
    Lexes before text 0 (record { what = K.Name x; from = 0; to = 0 + length text } ∷ []) (with_text text before)
name_cut before text x is place =
    let token : Token = record { what = K.Name x; from = 0; to = 0 + length text } in
    let read : Reads before (text ++ []) 0 (token ∷ []) (with_text text before) [] =
    Reads.Next (Piece.Lexeme token (record { text = (is, place); longest = tt; from = refl; to = refl; table = refl })) Reads.Nothing in
    subst (λ (t : List ℕ). Reads before t 0 (token ∷ []) (with_text text before) []) (append-nil text) read

-- a name that is said stands where its text does
pub called_place :
    {before after : Table} {text : List ℕ} {x : Name} → IsName text → Says before text (Called x) after →
    place_of text after ≡ Some x.id
called_place {before} {after} {text} {x} is says =
    let entered = entered_by before text (place_of text before) refl in
    let cut = name_cut before text entered.name is entered.place in
    let same = one-reading before text 0 says.tokens (record { what = K.Name entered.name; from = 0; to = 0 + length text } ∷ []) after (with_text text before) says.cut cut in
    let tokens : K.Name entered.name ∷ [] ≡ K.Name x ∷ [] = sym (ap (λ ts. map (λ t. t.what) ts) same.0) ∙ says.say in
    let name : entered.name ≡ x = one_name entered.name x tokens in
    subst (λ (t : Table). place_of text t ≡ Some x.id) (sym same.1) (subst (λ (y : Name). place_of text (with_text text before) ≡ Some y.id) name entered.place)
  where
    one_name : (a b : Name) → K.Name a ∷ [] ≡ K.Name b ∷ [] → a ≡ b
    one_name a b e = cc

same_id : (a b : Name) → Some a.id ≡ Some b.id → a ≡ b
same_id a b e = let i : a.id ≡ b.id = cc in λ k. record { id = i k }

-- the names that stood stand where they did
place_still : (text : List ℕ) (before after : Table) (i : ℕ) → Extends before after → place_of text before ≡ Some i → place_of text after ≡ Some i
place_still text before after i more here = ap (place_of text) more.1 ∙ position-before (bytes_eq text) before more.0 i here

-- what the text of a name says is that name
pub called_placed :
    (before after names : Table) (x y : Name) → Extends after names → IsPlaced names x →
    IsCalled before (name_text names x) y after → y ≡ x
called_placed before after names x y more placed called =
    same_id y x (sym (place_still (name_text names x) after names y.id more (called_place called.is_name called.says)) ∙ placed)

-- ---- what says a name by its own text

-- the text that was found at a place is that of the name
pub named_text : (names : Table) (text : List ℕ) (x : Name) → place_of text names ≡ Some x.id → (name_text names x ≡ text) × IsPlaced names x
named_text names text x h = let found = found_name names (λ _. Some T.Int) T.Int text x h refl in (found.1, found.0.0)

-- a name that its own text says: the text is a name, and stands there
pub own_name :
    (before after names : Table) (x : Name) → Extends after names → Says before (name_text names x) (Called x) after →
    IsName (name_text names x) × IsPlaced names x
own_name before after names x more says =
    by_tokens says.tokens (standing says.cut (name_text names x) [] refl refl) says.say
  where
    names_same : (t : Token) (ts : List Token) → t.what ∷ map (λ u. u.what) ts ≡ K.Name x ∷ [] → t.what ≡ K.Name x
    names_same t ts e = cc

    by_bytes : (bytes : List ℕ) → IsName bytes × (place_of bytes after ≡ Some x.id) → IsName (name_text names x) × IsPlaced names x
    by_bytes bytes is =
        let here = place_still bytes after names x.id more is.1 in
        let same = sym (named_text names bytes x here).0 in (
          subst IsName same is.0,
          subst (λ (t : List ℕ). place_of t names ≡ Some x.id) same here,
        )

    by_tokens : (ts : List Token) → Stand after (name_text names x) 0 ts → map (λ t. t.what) ts ≡ K.Name x ∷ [] → IsName (name_text names x) × IsPlaced names x
    by_tokens [] stand e = absurd cc
    by_tokens (t ∷ ts) stand e =
        by_bytes (slice_range (name_text names x) t.from t.to)
        (subst (λ (w : Tok). IsTextOf after w (slice_range (name_text names x) t.from t.to)) (names_same t ts e) stand.3)
