-- The number of a demonstration, and its text.
use Rattle.std.proofs.Common.{◌≡◌, ℕ, ◌≤◌, ◌∙◌, List, get_or, arith, sym, ap}
use Rattle.std.specs.Prelude.{Result, Ok}
use Rattle.std.specs.Fmt.{decimal}
use Rattle.std.specs.Int.{IsInRange}
use Rattle.std.specs.Str.Parse.{AllDigits, ParsesUnsigned, digits_value}
use Rattle.std.proofs.lemmas.Fmt.{decimal_nonempty, decimal-digits_value, digits_decimal, first_decimal, parse-decimal}
use Rattle.std.proofs.lemmas.Str.Parse.{IsNumeralModel, digit_at, numerals_by_value, parse_plain, tells_digits}
use Rattle.poets_value.specs.Limits.{most_sales}

own : IsNumeralModel (AllDigits 10) (digits_value 10)
own = numerals_by_value (AllDigits 10) tells_digits

-- the decimal of a number that is not 0 is read as that number, and begins with a digit that is not 0
pub decimal_is_read : {E : Type 0} (text : List ℕ) (n : ℕ) (r : Result ℕ E) → ParsesUnsigned 32 10 text r → (1 ≤ n) × (n ≤ most_sales) → text ≡ decimal n → (r ≡ Ok n) × IsInRange 49 57 (get_or text 0 0)
decimal_is_read text n r h range e =
    let digit = digit_at (decimal n) 0 (digits_decimal own n (omega arith)) (decimal_nonempty n (omega arith)) in
    let first = first_decimal n range.0 (omega arith) in
    (parse-decimal 32 n text r (omega arith) (omega arith) e h, rw e (omega arith, digit.1))

-- a text that is read as a number, and begins with such a digit, is the decimal of that number
pub read_is_decimal : {E : Type 0} (text : List ℕ) (n : ℕ) (r : Result ℕ E) → ParsesUnsigned 32 10 text r → r ≡ Ok n → IsInRange 49 57 (get_or text 0 0) → text ≡ decimal n
read_is_decimal text n r h e digit =
    let read = parse_plain own 32 text r h (omega arith) in
    let known = rw e at read in
    sym (ap decimal known.1 ∙ decimal-digits_value own text known.0.0 known.0.1 (λ zero. absurd (omega arith)) (omega (arith, known.0.2)))
