-- The lengths of the pieces of printed texts.
use Rattle.std.proofs.Common.{◌≡◌, ℕ, suc, ◌+◌, ◌*◌, ◌<◌, ◌≤◌, ◌^◌, Bool, true, false, List, [], ◌∷◌, ◌++◌, length, None, Some, refl, arith, length-append, ℤ, pos, negsuc}
use Rattle.std.specs.Prelude.{codes, unwrap_or, slice_get, IsTrue}
use Rattle.std.specs.Fmt.{decimal, signed_decimal}
use Rattle.std.proofs.lemmas.Fmt.{length-decimal-le}
use Rattle.std.proofs.lemmas.Int.{ints}
use Rattle.poets_value.specs.declared.value.Name.{Name}
use Rattle.poets_value.specs.declared.value.Ty.{Ty}
use Rattle.poets_value.specs.declared.value.Ty.TheVariants as T
use Rattle.poets_value.specs.Civil.{day_text}
use Rattle.poets_value.specs.Whole.{is_whole}
use Rattle.poets_expr.specs.declared.expr.Op.{Op}
use Rattle.poets_expr.specs.declared.expr.Op.TheVariants as O
use Rattle.poets_lex.specs.declared.token.Tok.{Tok}
use Rattle.poets_lex.specs.Table.{Table, IsTable}
use Rattle.poets_print.specs.Texts.{name_text, bracketed, behind_commas, listed, type_text, op_text}

-- the text, and two brackets round it, are at most 80 bytes for each of the tokens before the rest
pub record IsShort (text : List ℕ) (ts rest : List Tok) : Type 0 where
  pub bytes : length text + 2 + 80 * length rest ≤ 80 * length ts

-- ---- texts behind one another

-- the length of three texts
pub length_three : (a b c : List ℕ) → length (a ++ b ++ c) ≡ length a + length b + length c
length_three a b c = omega (arith, length-append (a ++ b) c, length-append a b)

-- of four
pub length_four : (a b c d : List ℕ) → length (a ++ b ++ c ++ d) ≡ length a + length b + length c + length d
length_four a b c d = omega (arith, length-append (a ++ b ++ c) d, length_three a b c)

-- of five
pub length_five : (a b c d e : List ℕ) → length (a ++ b ++ c ++ d ++ e) ≡ length a + length b + length c + length d + length e
length_five a b c d e = omega (arith, length-append (a ++ b ++ c ++ d) e, length_four a b c d)

-- of six
pub length_six : (a b c d e f : List ℕ) → length (a ++ b ++ c ++ d ++ e ++ f) ≡ length a + length b + length c + length d + length e + length f
length_six a b c d e f = omega (arith, length-append (a ++ b ++ c ++ d ++ e) f, length_five a b c d e)

-- of seven
pub length_seven : (a b c d e f g : List ℕ) → length (a ++ b ++ c ++ d ++ e ++ f ++ g) ≡ length a + length b + length c + length d + length e + length f + length g
length_seven a b c d e f g = omega (arith, length-append (a ++ b ++ c ++ d ++ e ++ f) g, length_six a b c d e f)

-- brackets are two bytes
pub length_bracketed : (b : Bool) (text : List ℕ) → length (bracketed b text) ≤ length text + 2
length_bracketed true text = omega (arith, length-append text (41 ∷ []))
length_bracketed false text = omega arith

-- two parts, each perhaps in brackets
pub length_parts : (l r : Bool) (a sign b : List ℕ) → length (bracketed l a ++ sign ++ bracketed r b) ≤ length a + length b + length sign + 4
length_parts l r a sign b = omega (arith, length_three (bracketed l a) sign (bracketed r b), length_bracketed l a, length_bracketed r b)

-- a text with a comma before it is two bytes longer
pub length_behind : {A : Type 0} (text_of : A → List ℕ) (xs : List A) → length (behind_commas text_of xs) ≤ length (listed text_of xs) + 2
length_behind text_of [] = omega arith
length_behind text_of (x ∷ xs) = omega (
  arith,
  length-append (codes ", " ++ text_of x) (behind_commas text_of xs),
  length-append (codes ", ") (text_of x),
  length-append (text_of x) (behind_commas text_of xs),
)

-- ---- single pieces

-- the text of an operator
pub length_op : (o : Op) → length (op_text o) ≤ 3
length_op O.Add = omega arith
length_op O.Sub = omega arith
length_op O.Mul = omega arith
length_op O.Div = omega arith
length_op O.Rem = omega arith
length_op O.Eq = omega arith
length_op O.Ne = omega arith
length_op O.Lt = omega arith
length_op O.Le = omega arith
length_op O.Gt = omega arith
length_op O.Ge = omega arith
length_op O.And = omega arith
length_op O.Or = omega arith

-- the word of a type
pub length_type : (t : Ty) → length (type_text t) ≤ 8
length_type T.Int = omega arith
length_type T.Bool = omega arith
length_type T.Agent = omega arith
length_type T.Kind = omega arith
length_type T.Resource = omega arith
length_type T.Day = omega arith

-- a number below 2 ^ 63 has at most 19 digits
pub length_number : (n : ℕ) → n < 2 ^ 63 → length (decimal n) ≤ 19
length_number n h = length-decimal-le 19 n (omega arith) (omega arith) (omega arith)

-- a whole number of the language has a sign more
pub length_whole : (z : ℤ) → IsTrue (is_whole z) → length (signed_decimal z) ≤ 20
length_whole (pos n) h =
    let small : n < 2 ^ 63 = grind (arith, ints) in
    omega (arith, length_number n small)
length_whole (negsuc n) h =
    let small : suc n < 2 ^ 63 = grind (arith, ints) in
    omega (arith, length_number (suc n) small)

-- a day has ten bytes
pub length_day : (d : ℤ) → length (day_text d) ≡ 10
unfolding day_text
length_day d = refl

-- a name has at most 64 bytes, and one that the table lacks has none
pub length_name : (names : Table) → IsTable names → (x : Name) → length (name_text names x) ≤ 64
length_name names all x = elim (slice_get names x.id) as (λ o. slice_get names x.id ≡ o → length (unwrap_or o []) ≤ 64) [
  | None ↦ (λ e. omega arith)
  | Some text ↦ (λ e. (all text x.id e).0.short)
] refl
