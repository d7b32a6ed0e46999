-- At the front of a text stands one piece at most, or one fault, and never both.
use Rattle.std.proofs.Common.{◌≡◌, ◌≢◌, ℕ, suc, ◌+◌, ◌≤◌, Bool, true, false, List, [], ◌∷◌, ◌++◌, length, take, refl, sym, ap, subst, ◌∙◌, arith, pos, Some}
use Rattle.std.specs.Bool.{IsTrue}
use Rattle.std.specs.List.{list_all}
use Rattle.std.specs.Char.{is_ascii_digit}
use Rattle.std.proofs.lemmas.Bool.Decides.{nat_tests}
use Rattle.std.proofs.lemmas.List.{take_at}
use Rattle.poets_value.specs.Civil.{IsDayText}
use Rattle.poets_value.proofs.Days.{day_of_text_is}
use Rattle.poets_value.specs.declared.value.Name.{Name}
use Rattle.poets_lex.specs.declared.token.Sign.{Sign}
use Rattle.poets_lex.specs.declared.token.Tok.{Tok}
use Rattle.poets_lex.specs.declared.token.Tok.TheVariants as K
use Rattle.poets_lex.specs.declared.token.Token.{Token}
use Rattle.poets_lex.specs.declared.fault.LexFault.{LexFault}
use Rattle.poets_lex.specs.declared.fault.LexFault.TheVariants as F
use Rattle.poets_lex.specs.Bytes.{is_blank, is_in_line, begins_name, is_in_name, decimal, BeginsWithout}
use Rattle.poets_lex.specs.Texts.{word_text, sign_text}
use Rattle.poets_lex.specs.Table.{Table, HasNameShape, place_of, with_text}
use Rattle.poets_lex.specs.Lexes.{IsTextOf, IsLongestSign, IsLongest, table_with, Piece, IsBadByte, IsLongNumber, IsLongName, IsFaultAt}
use Rattle.poets_lex.proofs.Fronts.{both, letter-in-name}
use Rattle.poets_lex.proofs.Lexemes.{day-length}
use Rattle.poets_lex.proofs.TextsApart.{word-shape, word-short, word-is, sign-is}
use Rattle.poets_lex.proofs.FirstBytes.{BeginsClass, class_of, class_of_token, token-class, class-append, class-is, blank-class, name-class, number-class}

-- the longest front of bytes that pass is one
pub same-front : (p : ℕ → Bool) (a b r s : List ℕ) → a ++ r ≡ b ++ s → IsTrue (list_all p a) → BeginsWithout p r → IsTrue (list_all p b) → BeginsWithout p s → a ≡ b
same-front p [] [] r s e ha hr hb hs = refl
same-front p [] (y ∷ b) r s e ha hr hb hs =
    let first : BeginsWithout p (y ∷ b ++ s) = subst (BeginsWithout p) e hr in
    absurd (let k : true ≡ false = sym (both (p y) (list_all p b) hb).0 ∙ first in cc)
same-front p (x ∷ a) [] r s e ha hr hb hs =
    let first : BeginsWithout p (x ∷ a ++ r) = subst (BeginsWithout p) (sym e) hs in
    absurd (let k : true ≡ false = sym (both (p x) (list_all p a) ha).0 ∙ first in cc)
same-front p (x ∷ a) (y ∷ b) r s e ha hr hb hs =
    let first : x ≡ y = cc in
    let behind : a ++ r ≡ b ++ s = cc in
    let same = same-front p a b r s behind (both (p x) (list_all p a) ha).1 hr (both (p y) (list_all p b) hb).1 hs in
    cc

-- the bytes of a name, with the first among the others
pub shape-passes : (bytes : List ℕ) → HasNameShape bytes → IsTrue (list_all is_in_name bytes)
shape-passes [] h = refl
shape-passes (byte ∷ bytes) h = rw (letter-in-name byte h.0) h.1

-- fronts of one length are one
same-length : (a b r s : List ℕ) → a ++ r ≡ b ++ s → length a ≡ length b → a ≡ b
same-length a b r s e len = sym (take_at a r (length b) len) ∙ ap (λ t. take (length b) t) e ∙ take_at b s (length b) refl

-- two longest signs of one text are one
one-sign : (a b : Sign) (r s : List ℕ) → sign_text a ++ r ≡ sign_text b ++ s → IsLongestSign a (sign_text a ++ r) → IsLongestSign b (sign_text b ++ s) → a ≡ b
one-sign a b r s e ha hb =
    let under : length (sign_text b) ≤ length (sign_text a) = ha b (s, e) in
    let over : length (sign_text a) ≤ length (sign_text b) = hb a (r, sym e) in
    sign-is a b (same-length (sign_text a) (sign_text b) r s e (omega arith))

same-name : (a b : Name) → a.id ≡ b.id → a ≡ b
same-name a b e = let made : ℕ → Name = λ i. record { id = i } in ap made e

-- one token at most begins a text
module _ (before a b : Table) (x y r s : List ℕ) (e : x ++ r ≡ y ++ s) where
  one-token : (what other : Tok) → class_of_token what ≡ class_of_token other → IsTextOf a what x → IsLongest what r → a ≡ table_with what x before →
      IsTextOf b other y → IsLongest other s → b ≡ table_with other y before → (x ≡ y) × (what ≡ other)
  one-token (K.Word w) (K.Word v) class is long table was far row =
      let same = same-front is_in_name x y r s e (rw is (shape-passes (word_text w) (word-shape w))) long (rw was (shape-passes (word_text v) (word-shape v))) far in
      (same, ap K.Word (word-is w v (sym is ∙ same ∙ was)))
  one-token (K.Word w) (K.Name n) class is long table was far row =
      let same = same-front is_in_name x y r s e (rw is (shape-passes (word_text w) (word-shape w))) long (shape-passes y was.0.shape) far in
      absurd (was.0.not_reserved w (sym same ∙ is))
  one-token (K.Name n) (K.Word v) class is long table was far row =
      let same = same-front is_in_name x y r s e (shape-passes x is.0.shape) long (rw was (shape-passes (word_text v) (word-shape v))) far in
      absurd (is.0.not_reserved v (same ∙ was))
  one-token (K.Name n) (K.Name m) class is long table was far row =
      let same : x ≡ y = same-front is_in_name x y r s e (shape-passes x is.0.shape) long (shape-passes y was.0.shape) far in
      let tables : a ≡ b = table ∙ ap (λ t. with_text t before) same ∙ sym row in
      let ids : Some n.id ≡ Some m.id = sym is.1 ∙ ap (λ t. place_of t a) same ∙ ap (place_of y) tables ∙ was.1 in
      (same, ap K.Name (same-name n m cc))
  one-token (K.Number n) (K.Number m) class is long table was far row =
      let same : x ≡ y = same-front is_ascii_digit x y r s e is.0.1 long was.0.1 far in
      (same, ap K.Number (is.2 ∙ ap (λ t. pos (decimal t)) same ∙ sym was.2))
  one-token (K.Day d) (K.Day c) class is long table was far row =
      let lengths : length x ≡ length y = ap length is.1 ∙ ap suc (day-length is.2) ∙ sym (ap suc (day-length was.2)) ∙ sym (ap length was.1) in
      let same : x ≡ y = same-length x y r s e lengths in
      let whole : 64 ∷ is.0 ≡ 64 ∷ was.0 = sym is.1 ∙ same ∙ was.1 in
      let texts : is.0 ≡ was.0 = cc in
      (same, ap K.Day (day_of_text_is was.0 d c (subst (λ t. IsDayText t d) texts is.2) was.2))
  one-token (K.Sign p) (K.Sign q) class is long table was far row =
      let signs = one-sign p q r s (ap (λ t. t ++ r) (sym is) ∙ e ∙ ap (λ t. t ++ s) was) long far in
      (is ∙ ap sign_text signs ∙ sym was, ap K.Sign signs)
  one-token what other class is long table was far row = absurd (omega arith)

abbrev class_of_piece : {before after : Table} {place : ℕ} {bytes rest : List ℕ} {here : List Token} → Piece before place bytes rest here after → ℕ
class_of_piece (Piece.Blank byte blank) = 0
class_of_piece (Piece.Comment bytes line ends) = 1
class_of_piece (Piece.Lexeme token is) = class_of_token token.what

piece-class : {before after : Table} {place : ℕ} {bytes rest : List ℕ} {here : List Token} (piece : Piece before place bytes rest here after) → BeginsClass (class_of_piece piece) (bytes ++ rest)
piece-class (Piece.Blank byte blank) = blank-class byte blank
piece-class (Piece.Comment bytes line ends) = refl
piece-class (Piece.Lexeme {after = after} {bytes = bytes} {rest = rest} token is) =
    class-append (class_of_token token.what) bytes rest (token-class after token.what bytes is.text)

token-class-high : (what : Tok) → 2 ≤ class_of_token what
token-class-high (K.Word _) = omega arith
token-class-high (K.Name _) = omega arith
token-class-high (K.Number _) = omega arith
token-class-high (K.Day _) = omega arith
token-class-high (K.Sign _) = omega arith

same-token : (a b : Token) → a.what ≡ b.what → a.from ≡ b.from → a.to ≡ b.to → a ≡ b
same-token a b what from to =
    let made : Tok → ℕ → ℕ → Token = λ w f t. record { what = w; from = f; to = t } in
    ap (λ w. made w a.from a.to) what ∙ ap (λ f. made b.what f a.to) from ∙ ap (λ t. made b.what b.from t) to

by-class : {before a b : Table} {place : ℕ} {x y r s : List ℕ} {here there : List Token} (p : Piece before place x r here a) (q : Piece before place y s there b) → class_of_piece p ≡ class_of_piece q → x ++ r ≡ y ++ s → (x ≡ y) × (here ≡ there) × (a ≡ b)
by-class (Piece.Blank c h) (Piece.Blank d k) class e = let first : c ≡ d = cc in (ap (λ b. b ∷ []) first, refl, refl)
by-class (Piece.Blank c h) (Piece.Comment y k n) class e = absurd (omega arith)
by-class (Piece.Blank c h) (Piece.Lexeme t is) class e = absurd (omega (arith, token-class-high t.what))
by-class (Piece.Comment x h m) (Piece.Blank d k) class e = absurd (omega arith)
by-class (Piece.Comment {rest = r} x h m) (Piece.Comment {rest = s} y k n) class e =
    let behind : x ++ r ≡ y ++ s = cc in
    (ap (λ b. 35 ∷ b) (same-front is_in_line x y r s behind h m k n), refl, refl)
by-class (Piece.Comment x h m) (Piece.Lexeme t is) class e = absurd (omega (arith, token-class-high t.what))
by-class (Piece.Lexeme t is) (Piece.Blank d k) class e = absurd (omega (arith, token-class-high t.what))
by-class (Piece.Lexeme t is) (Piece.Comment y k n) class e = absurd (omega (arith, token-class-high t.what))
by-class (Piece.Lexeme {before = before} {after = a} {place = place} {bytes = x} {rest = r} t is) (Piece.Lexeme {after = b} {bytes = y} {rest = s} u was) class e =
    let one = one-token before a b x y r s e t.what u.what class is.text is.longest is.table was.text was.longest was.table in
    let to : t.to ≡ u.to = is.to ∙ ap (λ z. place + length z) one.0 ∙ sym was.to in
    (one.0, ap (λ v. v ∷ []) (same-token t u one.1 (is.from ∙ sym was.from) to), is.table ∙ ap (λ w. table_with w x before) one.1 ∙ ap (λ z. table_with u.what z before) one.0 ∙ sym was.table)

-- one piece at most begins a text
pub one-piece : {before a b : Table} {place : ℕ} {x y r s : List ℕ} {here there : List Token} → Piece before place x r here a → Piece before place y s there b → x ++ r ≡ y ++ s → (x ≡ y) × (here ≡ there) × (a ≡ b)
one-piece {x = x} {y = y} {r = r} {s = s} p q e =
    let mine = piece-class p in
    let yours = subst (BeginsClass (class_of_piece q)) (sym e) (piece-class q) in
    by-class p q (class-is (class_of_piece p) (class_of_piece q) (x ++ r) mine yours) e

-- the class of a text that begins with a fault
bad-byte-class : (byte : ℕ) → is_blank byte ≡ false → byte ≢ 35 → begins_name byte ≡ false → is_ascii_digit byte ≡ false → 4 ≤ class_of byte
bad-byte-class byte blank comment name digit =
    grind (arith, nat_tests)

bad-class : (text : List ℕ) → IsBadByte text → (class : ℕ) → BeginsClass class text → 4 ≤ class
bad-class text bad class begins =
    let first : class_of bad.byte ≡ class = subst (BeginsClass class) bad.first begins in
    omega (arith, bad-byte-class bad.byte bad.no_blank bad.no_comment bad.no_name bad.no_number)

long-number-class : (text : List ℕ) → IsLongNumber text → BeginsClass 3 text
long-number-class text long = rw long.cut (class-append 3 long.bytes long.rest (number-class long.bytes long.digits))

long-name-class : (text : List ℕ) → IsLongName text → BeginsClass 2 text
long-name-class text long = rw long.cut (class-append 2 long.bytes long.rest (name-class long.bytes long.shape))

bad-token : (table : Table) (text bytes rest : List ℕ) (what : Tok) → IsBadByte text → text ≡ bytes ++ rest → IsTextOf table what bytes → 4 ≤ class_of_token what → ⊥
bad-token table text bytes rest (K.Day day) bad cut is class = bad.no_day bytes day is (rest, cut)
bad-token table text bytes rest (K.Sign sign) bad cut is class = bad.no_sign sign (rest, cut ∙ ap (λ t. t ++ rest) is)
bad-token table text bytes rest (K.Word _) bad cut is class = omega arith
bad-token table text bytes rest (K.Name _) bad cut is class = omega arith
bad-token table text bytes rest (K.Number _) bad cut is class = omega arith

long-number-token : (table : Table) (text bytes rest : List ℕ) (what : Tok) → IsLongNumber text → text ≡ bytes ++ rest → IsTextOf table what bytes → IsLongest what rest → 3 ≡ class_of_token what → ⊥
long-number-token table text bytes rest (K.Number n) bad cut is long class =
    let same : bad.bytes ≡ bytes = same-front is_ascii_digit bad.bytes bytes bad.rest rest (sym bad.cut ∙ cut) bad.digits.1 bad.longest is.0.1 long in
    omega (arith, ap decimal same, bad.long, is.1)
long-number-token table text bytes rest (K.Word _) bad cut is long class = omega arith
long-number-token table text bytes rest (K.Name _) bad cut is long class = omega arith
long-number-token table text bytes rest (K.Day _) bad cut is long class = omega arith
long-number-token table text bytes rest (K.Sign _) bad cut is long class = omega arith

long-name-token : (table : Table) (text bytes rest : List ℕ) (what : Tok) → IsLongName text → text ≡ bytes ++ rest → IsTextOf table what bytes → IsLongest what rest → 2 ≡ class_of_token what → ⊥
long-name-token table text bytes rest (K.Word word) bad cut is long class =
    let same : bad.bytes ≡ bytes = same-front is_in_name bad.bytes bytes bad.rest rest (sym bad.cut ∙ cut) (shape-passes bad.bytes bad.shape) bad.longest (rw is (shape-passes (word_text word) (word-shape word))) long in
    omega (arith, ap length same, ap length is, bad.long, word-short word)
long-name-token table text bytes rest (K.Name _) bad cut is long class =
    let same : bad.bytes ≡ bytes = same-front is_in_name bad.bytes bytes bad.rest rest (sym bad.cut ∙ cut) (shape-passes bad.bytes bad.shape) bad.longest (shape-passes bytes is.0.shape) long in
    omega (arith, ap length same, bad.long, is.0.short)
long-name-token table text bytes rest (K.Number _) bad cut is long class = omega arith
long-name-token table text bytes rest (K.Day _) bad cut is long class = omega arith
long-name-token table text bytes rest (K.Sign _) bad cut is long class = omega arith

bad-piece : {before after : Table} {place : ℕ} {bytes rest : List ℕ} {here : List Token} → IsBadByte (bytes ++ rest) → (piece : Piece before place bytes rest here after) → 4 ≤ class_of_piece piece → ⊥
bad-piece bad (Piece.Blank byte blank) class = omega arith
bad-piece bad (Piece.Comment bytes line ends) class = omega arith
bad-piece bad (Piece.Lexeme {after = after} {bytes = bytes} {rest = rest} token is) class =
    bad-token after (bytes ++ rest) bytes rest token.what bad refl is.text class

long-number-piece : {before after : Table} {place : ℕ} {bytes rest : List ℕ} {here : List Token} → IsLongNumber (bytes ++ rest) → (piece : Piece before place bytes rest here after) → 3 ≡ class_of_piece piece → ⊥
long-number-piece bad (Piece.Blank byte blank) class = omega arith
long-number-piece bad (Piece.Comment bytes line ends) class = omega arith
long-number-piece bad (Piece.Lexeme {after = after} {bytes = bytes} {rest = rest} token is) class =
    long-number-token after (bytes ++ rest) bytes rest token.what bad refl is.text is.longest class

long-name-piece : {before after : Table} {place : ℕ} {bytes rest : List ℕ} {here : List Token} → IsLongName (bytes ++ rest) → (piece : Piece before place bytes rest here after) → 2 ≡ class_of_piece piece → ⊥
long-name-piece bad (Piece.Blank byte blank) class = omega arith
long-name-piece bad (Piece.Comment bytes line ends) class = omega arith
long-name-piece bad (Piece.Lexeme {after = after} {bytes = bytes} {rest = rest} token is) class =
    long-name-token after (bytes ++ rest) bytes rest token.what bad refl is.text is.longest class

-- no piece begins a text that begins with a fault
pub no-piece : {before after : Table} {place : ℕ} {bytes rest : List ℕ} {here : List Token} (there : ℕ) (fault : LexFault) → IsFaultAt there (bytes ++ rest) fault → Piece before place bytes rest here after → ⊥
no-piece {bytes = bytes} {rest = rest} there (F.BadByte _) is piece =
    bad-piece is.1 piece (bad-class (bytes ++ rest) is.1 (class_of_piece piece) (piece-class piece))
no-piece {bytes = bytes} {rest = rest} there (F.LongNumber _) is piece =
    long-number-piece is.1 piece (class-is 3 (class_of_piece piece) (bytes ++ rest) (long-number-class (bytes ++ rest) is.1) (piece-class piece))
no-piece {bytes = bytes} {rest = rest} there (F.LongName _) is piece =
    long-name-piece is.1 piece (class-is 2 (class_of_piece piece) (bytes ++ rest) (long-name-class (bytes ++ rest) is.1) (piece-class piece))
no-piece there F.Memory is piece = is

-- no piece begins the empty text
pub no-piece-at-end : {before after : Table} {place : ℕ} {bytes rest : List ℕ} {here : List Token} → Piece before place bytes rest here after → bytes ++ rest ≡ [] → ⊥
no-piece-at-end piece e = subst (BeginsClass (class_of_piece piece)) e (piece-class piece)

-- one fault at most begins a text
pub one-fault : (place : ℕ) (text : List ℕ) (a b : LexFault) → IsFaultAt place text a → IsFaultAt place text b → a ≡ b
one-fault place text (F.BadByte x) (F.BadByte y) h k = ap F.BadByte (h.0 ∙ sym k.0)
one-fault place text (F.BadByte x) (F.LongNumber y) h k = absurd (omega (arith, bad-class text h.1 3 (long-number-class text k.1)))
one-fault place text (F.BadByte x) (F.LongName y) h k = absurd (omega (arith, bad-class text h.1 2 (long-name-class text k.1)))
one-fault place text (F.LongNumber x) (F.BadByte y) h k = absurd (omega (arith, bad-class text k.1 3 (long-number-class text h.1)))
one-fault place text (F.LongNumber x) (F.LongNumber y) h k = ap F.LongNumber (h.0 ∙ sym k.0)
one-fault place text (F.LongNumber x) (F.LongName y) h k = absurd (omega (arith, class-is 3 2 text (long-number-class text h.1) (long-name-class text k.1)))
one-fault place text (F.LongName x) (F.BadByte y) h k = absurd (omega (arith, bad-class text k.1 2 (long-name-class text h.1)))
one-fault place text (F.LongName x) (F.LongNumber y) h k = absurd (omega (arith, class-is 2 3 text (long-name-class text h.1) (long-number-class text k.1)))
one-fault place text (F.LongName x) (F.LongName y) h k = ap F.LongName (h.0 ∙ sym k.0)
one-fault place text F.Memory b h k = absurd h
one-fault place text a F.Memory h k = absurd k

-- the empty text begins with no fault
pub no-fault-at-end : (place : ℕ) (fault : LexFault) → IsFaultAt place [] fault → ⊥
no-fault-at-end place (F.BadByte _) is = absurd (let e : [] ≡ is.1.byte ∷ is.1.bytes = is.1.first in cc)
no-fault-at-end place (F.LongNumber _) is = long-number-class [] is.1
no-fault-at-end place (F.LongName _) is = long-name-class [] is.1
no-fault-at-end place F.Memory is = is
