-- The ten bytes of a day, from its number.
use Rattle.std.proofs.Common.{◌≡◌, ℕ, zero, suc, ◌-◌, ◌<◌, ◌≤◌, true, false, List, [], ◌∷◌, sym, ◌∙◌, ap, ap₂, subst, arith, ◌⊎◌, inl, inr, ℤ, pos, ◌+ℤ◌, ◌<ℤ◌, ◌≤ℤ◌, int_le}
use Rattle.std.specs.Str.{IsUtf8, IsAscii}
use Rattle.std.proofs.lemmas.Str.{IsUtf8-from_ascii}
use Rattle.std.proofs.lemmas.Int.{ints}
use Rattle.jiff_core.specs.Calendar.{IsCivilDate, days_from_civil}
use Rattle.jiff_core.proofs.SignedLemmas.{signed_arith}
use Rattle.jiff_core.proofs.CalendarLemmas.{days_from_civil-day_count, day_count-lt_year, day_count-lt_month, day_count-day, day_count-day_of_year}
use Rattle.poets_value.specs.Civil.{IsDayText, digit_at, day_bytes, last_year, last_month, year_of, month_of, day_of_month, day_text}

later_year : (y m d y₂ : ℕ) → IsCivilDate (pos y) m d → y < y₂ → days_from_civil (pos y) m d <ℤ days_from_civil (pos y₂) 1 1
later_year y m d y₂ h lt =
    let z : pos y <ℤ pos y₂ = omega (arith, signed_arith) in
    omega (arith, signed_arith, days_from_civil-day_count, day_count-lt_year (pos y) m d (pos y₂) 1 1 h (omega arith) z)

first_of_year : (y m d : ℕ) → IsCivilDate (pos y) m d → days_from_civil (pos y) 1 1 ≤ℤ days_from_civil (pos y) m d
first_of_year y m d h = omega (arith, signed_arith, days_from_civil-day_count, day_count-day_of_year (pos y) m d h.2.0)

later_month : (y m d m₂ : ℕ) → IsCivilDate (pos y) m d → m < m₂ → days_from_civil (pos y) m d <ℤ days_from_civil (pos y) m₂ 1
later_month y m d m₂ h lt = omega (arith, signed_arith, days_from_civil-day_count, day_count-lt_month (pos y) m d m₂ 1 h (omega arith) lt)

first_of_month : (y m d : ℕ) → IsCivilDate (pos y) m d → days_from_civil (pos y) m d ≡ days_from_civil (pos y) m 1 +ℤ pos (d - 1)
first_of_month y m d h = omega (arith, signed_arith, days_from_civil-day_count, day_count-day (pos y) m 1 d (omega arith) h.2.0, h.2.0)

tested : (a b : ℤ) → a ≤ℤ b → int_le a b ≡ true
tested a b h = grind (arith, ints, h)

untested : (a b : ℤ) → a <ℤ b → int_le b a ≡ false
untested a b h = grind (arith, ints, h)

order : (y n : ℕ) → y ≤ suc n → (y ≡ suc n) ⊎ (y ≤ n)
order y n h = grind (arith, h)

last_year-is : (n y m d : ℕ) → 1 ≤ y → IsCivilDate (pos y) m d → y ≤ n → last_year n (days_from_civil (pos y) m d) ≡ y
unfolding last_year
last_year-is zero y m d from h le = absurd (omega (arith, from, le))
last_year-is (suc n) y m d from h le = elim (order y n le) [
  | inl e ↦ (
      let now : int_le (days_from_civil (pos (suc n)) 1 1) (days_from_civil (pos y) m d) ≡ true =
      subst (λ (k : ℕ). int_le (days_from_civil (pos k) 1 1) (days_from_civil (pos y) m d) ≡ true) e (tested (days_from_civil (pos y) 1 1) (days_from_civil (pos y) m d) (first_of_year y m d h)) in
      rw now (sym e))
  | inr l ↦ (
      let later : int_le (days_from_civil (pos (suc n)) 1 1) (days_from_civil (pos y) m d) ≡ false =
      untested (days_from_civil (pos y) m d) (days_from_civil (pos (suc n)) 1 1) (later_year y m d (suc n) h (omega (arith, l))) in
      rw later (last_year-is n y m d from h l))
]

last_month-is : (n y m d : ℕ) → 1 ≤ m → IsCivilDate (pos y) m d → m ≤ n → last_month y n (days_from_civil (pos y) m d) ≡ m
unfolding last_month
last_month-is zero y m d from h le = absurd (omega (arith, from, le))
last_month-is (suc n) y m d from h le = elim (order m n le) [
  | inl e ↦ (
      let reached : days_from_civil (pos y) m 1 ≤ℤ days_from_civil (pos y) m d = omega (arith, signed_arith, first_of_month y m d h) in
      let now : int_le (days_from_civil (pos y) (suc n) 1) (days_from_civil (pos y) m d) ≡ true =
      subst (λ (k : ℕ). int_le (days_from_civil (pos y) k 1) (days_from_civil (pos y) m d) ≡ true) e (tested (days_from_civil (pos y) m 1) (days_from_civil (pos y) m d) reached) in
      rw now (sym e))
  | inr l ↦ (
      let later : int_le (days_from_civil (pos y) (suc n) 1) (days_from_civil (pos y) m d) ≡ false =
      untested (days_from_civil (pos y) m d) (days_from_civil (pos y) (suc n) 1) (later_month y m d (suc n) h (omega (arith, l))) in
      rw later (last_month-is n y m d from h l))
]

-- the text of a day is the one that its number gives
pub day_text-is : (t : List ℕ) (n : ℤ) → IsDayText t n → t ≡ day_text n
unfolding day_text
day_text-is t n h =
    let civil = h.of_day.1 in
    let at : n ≡ days_from_civil (pos h.year) h.month h.day = h.of_day.2 in
    let high : h.year ≤ 9999 = omega (arith, signed_arith, civil.0) in
    let year : year_of n ≡ h.year = ap (last_year 9999) at ∙ last_year-is 9999 h.year h.month h.day h.of_day.0 civil high in
    let month : month_of n ≡ h.month =
    ap₂ (λ y k. last_month y 12 k) year at ∙ last_month-is 12 h.year h.month h.day (omega (arith, civil.1)) civil (omega (arith, civil.1)) in
    let first : days_from_civil (pos (year_of n)) (month_of n) 1 ≡ days_from_civil (pos h.year) h.month 1 = ap₂ (λ (y k : ℕ). days_from_civil (pos y) k 1) year month in
    let day : day_of_month n ≡ h.day = omega (arith, ints, signed_arith, first, at, first_of_month h.year h.month h.day civil, civil.2) in
    h.bytes ∙ sym (ap₂ (λ (y : ℕ) (p : ℕ × ℕ). day_bytes y p.0 p.1) year (ap₂ (λ (m d : ℕ). (m, d)) month day))

digit_ascii : (n p : ℕ) → digit_at n p < 128
digit_ascii n p = omega arith

more : (x : ℕ) (xs : List ℕ) → x < 128 → IsAscii xs → IsAscii (x ∷ xs)
more x xs h k zero = h
more x xs h k (suc i) = k i

no_more : IsAscii []
no_more i = omega arith

bytes_ascii : (y m d : ℕ) → IsAscii (day_bytes y m d)
bytes_ascii y m d =
    let day = more (digit_at d 10) (digit_at d 1 ∷ []) (digit_ascii d 10) (more (digit_at d 1) [] (digit_ascii d 1) no_more) in
    let dash : 45 < 128 = omega arith in
    let month = more (digit_at m 10) (digit_at m 1 ∷ 45 ∷ digit_at d 10 ∷ digit_at d 1 ∷ []) (digit_ascii m 10)
    (more (digit_at m 1) (45 ∷ digit_at d 10 ∷ digit_at d 1 ∷ []) (digit_ascii m 1) (more 45 (digit_at d 10 ∷ digit_at d 1 ∷ []) dash day)) in
    let rest = 45 ∷ digit_at m 10 ∷ digit_at m 1 ∷ 45 ∷ digit_at d 10 ∷ digit_at d 1 ∷ [] in
    more (digit_at y 1000) (digit_at y 100 ∷ digit_at y 10 ∷ digit_at y 1 ∷ rest) (digit_ascii y 1000)
    (more (digit_at y 100) (digit_at y 10 ∷ digit_at y 1 ∷ rest) (digit_ascii y 100)
    (more (digit_at y 10) (digit_at y 1 ∷ rest) (digit_ascii y 10) (more (digit_at y 1) rest (digit_ascii y 1)
    (more 45 (digit_at m 10 ∷ digit_at m 1 ∷ 45 ∷ digit_at d 10 ∷ digit_at d 1 ∷ []) dash month))))

-- and it is text
pub day_text-utf8 : (n : ℤ) → IsUtf8 (day_text n)
unfolding day_text
day_text-utf8 n = IsUtf8-from_ascii (day_text n) (bytes_ascii (year_of n) (month_of n) (day_of_month n))
