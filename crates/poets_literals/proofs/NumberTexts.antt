-- The texts of numbers: how they begin, and that they are read.
use Rattle.std.proofs.Common.{◌≡◌, ℕ, zero, suc, ◌<◌, ◌≤◌, ◌^◌, List, [], ◌∷◌, length, refl, sym, ap, subst, ◌∙◌, arith, inl, inr, ℤ, pos, negsuc, neg_ℤ, w64}
use Rattle.std.specs.Prelude.{Result, Ok, Err, slice_index}
use Rattle.std.specs.Int.{IsInRange}
use Rattle.std.specs.Int.Signed.{mag}
use Rattle.std.proofs.lemmas.Int.{ints}
use Rattle.std.specs.Fmt.{decimal, signed_decimal}
use Rattle.std.specs.Str.Parse.{AllDigits, ParsesSigned, digits_value}
use Rattle.std.proofs.lemmas.Fmt.{decimal_digit, first_decimal, decimal_is_IsNumeral, decimal-digits_value, parse-signed_decimal, signed_decimal_injective}
use Rattle.std.proofs.lemmas.Str.Parse.{IsNumeralModel, digit_at, not_in_digits, numerals_by_value, tells_digits, parse_signed_plain, parse_signed_minus}
use Rattle.poets_literals.specs.Declared.{IsNumber}
use Rattle.poets_literals.specs.code.Parts.{BeginsPlainly, HasNoSpace}

numerals : IsNumeralModel (AllDigits 10) (digits_value 10)
numerals = numerals_by_value _ tells_digits

fits : (z : ℤ) → IsNumber z → mag z < 2 ^ 63
fits (pos n) h = omega (arith, ints, h)
fits (negsuc n) h = omega (arith, ints, h)

-- numbers with one text are one
pub one_number : (y z : ℤ) → IsNumber y → IsNumber z → signed_decimal y ≡ signed_decimal z → y ≡ z
one_number y z h k e = signed_decimal_injective y z (fits y h) (fits z k) e

first_digit : (n : ℕ) → 0 < n → n < 2 ^ 64 → IsInRange 49 57 (slice_index (decimal n) 0)
first_digit n some small =
    let numeral = (decimal_is_IsNumeral n small).0 in
    (omega (arith, first_decimal n some small), (digit_at (decimal n) 0 numeral.1 numeral.0).1)

-- a printed number begins so
pub begins_plainly : (z : ℤ) → IsNumber z → BeginsPlainly (signed_decimal z)
begins_plainly (pos zero) h = inl (decimal_digit 0 (omega arith))
begins_plainly (pos (suc n)) h = inr (inl (first_digit (suc n) (omega arith) (omega (arith, fits (pos (suc n)) h))))
begins_plainly (negsuc n) h = inr (inr (refl, first_digit (suc n) (omega arith) (omega (arith, fits (negsuc n) h))))

never_both : {E : Type 0} (z : ℤ) (error : E) (r : Result ℤ E) → r ≡ Ok z → r ≡ Err error → ⊥
never_both z error r h k = cc

-- a printed number is read
pub is_read :
    {E : Type 0} (z : ℤ) (text : List ℕ) (r : Result ℤ E) (error : E) → IsNumber z → signed_decimal z ≡ text →
    ParsesSigned w64 10 text r → r ≡ Err error → ⊥
is_read z text r error h e reads is =
    never_both z error r (parse-signed_decimal w64 z text r (record { sfits = fits z h }) (fits z h) (sym e) reads) is

negative :
    (n : ℕ) (digits : List ℕ) → decimal n ≡ digits → 49 ≤ slice_index digits 0 →
    signed_decimal (neg_ℤ (pos n)) ≡ 45 ∷ digits
negative zero digits e first =
    let zero_first = ap (λ (t : List ℕ). slice_index t 0) (sym (decimal_digit 0 (omega arith)) ∙ e) in
    absurd (omega (arith, zero_first))
negative (suc n) digits e first = ap (λ (t : List ℕ). 45 ∷ t) e

printed :
    (E : Type 0) (text : List ℕ) (z : ℤ) → BeginsPlainly text → ParsesSigned {E = E} w64 10 text (Ok z) →
    signed_decimal z ≡ text
printed E text z (inl e) reads =
    let first : slice_index text 0 ≡ 48 = ap (λ (t : List ℕ). slice_index t 0) e in
    let read = parse_signed_plain numerals {E = E} w64 text (Ok z) reads (omega (arith, first)) (omega (arith, first)) in
    ap signed_decimal read.1
    ∙ decimal-digits_value numerals text read.0.0 read.0.1 (λ _. ap length e) (omega (arith, read.0.2))
printed E text z (inr (inl first)) reads =
    let read = parse_signed_plain numerals {E = E} w64 text (Ok z) reads (omega (arith, first)) (omega (arith, first)) in
    let whole = decimal-digits_value numerals text read.0.0 read.0.1 (λ e. absurd (omega (arith, first, e))) in
    ap signed_decimal read.1 ∙ whole (omega (arith, read.0.2))
printed E [] z (inr (inr minus)) reads = absurd (omega (arith, minus.0))
printed E (c ∷ digits) z (inr (inr minus)) reads =
    let read = parse_signed_minus numerals {E = E} w64 (c ∷ digits) (Ok z) reads minus.0 in
    let whole = decimal-digits_value numerals digits read.0.0 read.0.1 (λ e. absurd (omega (arith, minus.1, e))) in
    ap signed_decimal read.1
    ∙ negative (digits_value 10 digits) digits (whole (omega (arith, read.0.2))) minus.1.0
    ∙ ap (λ (k : ℕ). k ∷ digits) (sym minus.0)

-- what is read is printed so, where it begins as a printed number does
pub is_printed :
    {E : Type 0} (text : List ℕ) (z : ℤ) (r : Result ℤ E) → BeginsPlainly text → ParsesSigned w64 10 text r →
    r ≡ Ok z → signed_decimal z ≡ text
is_printed {E} text z r begins reads is =
    printed E text z begins (subst (λ (q : Result ℤ E). ParsesSigned w64 10 text q) is reads)

digits_without_space : (n : ℕ) → n < 2 ^ 64 → HasNoSpace (decimal n)
digits_without_space n small =
    not_in_digits numerals (decimal n) 32 (decimal_is_IsNumeral n small).0.1 (λ r. omega (arith, r))

-- no space stands in a number
pub number_without_space : (z : ℤ) → IsNumber z → HasNoSpace (signed_decimal z)
number_without_space (pos n) h i l = digits_without_space n (omega (arith, fits (pos n) h)) i l
number_without_space (negsuc n) h zero l = omega arith
number_without_space (negsuc n) h (suc i) l =
    digits_without_space (suc n) (omega (arith, fits (negsuc n) h)) i (omega (arith, l))
