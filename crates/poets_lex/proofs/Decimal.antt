-- The number that digits write, digit by digit.
use Rattle.std.proofs.Common.{◌≡◌, ℕ, ◌+◌, ◌-◌, ◌*◌, ◌^◌, ◌<◌, ◌≤◌, List, [], ◌∷◌, ◌++◌, length, get_or, take, drop, ap, arith, fold, ℤ, pos, FitsSigned, w64, ⊎_elim}
use Rattle.std.proofs.lemmas.Int.{fits_signed_from_abs}
use Rattle.std.proofs.lemmas.Bool.{cases_lt}
use Rattle.std.proofs.lemmas.List.Sums.{fold_more, fold-append}
use Rattle.std.proofs.lemmas.List.{take-append-drop}
use Rattle.poets_lex.specs.Bytes.{decimal}

-- one digit more
pub decimal-more : (digits : List ℕ) (i : ℕ) → i < length digits → decimal (take (i + 1) digits) ≡ 10 * decimal (take i digits) + (get_or digits i 0 - 48)
decimal-more digits i low = fold_more (λ number digit. 10 * number + (digit - 48)) 0 digits i 0 low

-- more digits never make the number less
above : (n : ℕ) (digits : List ℕ) → n ≤ fold (λ number digit. 10 * number + (digit - 48)) n digits
above n [] = omega arith
above n (digit ∷ digits) = omega (arith, above (10 * n + (digit - 48)) digits)

pub decimal-take : (digits : List ℕ) (i : ℕ) → decimal (take i digits) ≤ decimal digits
decimal-take digits i =
    let whole = fold-append (λ number digit. 10 * number + (digit - 48)) 0 (take i digits) (drop i digits) in
    let e : decimal (take i digits ++ drop i digits) ≡ decimal digits = ap decimal (take-append-drop i digits) in
    omega (arith, above (decimal (take i digits)) (drop i digits), whole, e)

-- what does not fit 64 bits is past their greatest number
pub past : (n : ℕ) (z : ℤ) → z ≡ pos n → (FitsSigned w64 z → ⊥) → 2 ^ 63 ≤ n
past n z e unfit =
    ⊎_elim
    (λ low. absurd (unfit (fits_signed_from_abs w64 z (rw e low))))
    (λ high. high)
    (cases_lt n (2 ^ 63))
