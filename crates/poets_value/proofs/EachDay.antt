-- Each number of a day has its day, and so its text.
use Rattle.std.proofs.Common.{◌≡◌, ℕ, zero, suc, ◌+◌, ◌<◌, ◌≤◌, refl, subst, arith, ◌⊎◌, inl, inr, List, ℤ, pos, neg_ℤ, ◌+ℤ◌, ◌≤ℤ◌, ◌<ℤ◌, unsigned_abs}
use Rattle.std.proofs.lemmas.Int.{ints}
use Rattle.jiff_core.specs.Calendar.{IsCivilDate, days_in_month, days_from_civil}
use Rattle.jiff_core.proofs.CalendarLemmas.{days_in_month_bounds}
use Rattle.jiff_core.proofs.DateLemmas.{days_from_civil-day, days_from_civil-next_month, days_from_civil-next_year, days_from_civil-max}
use Rattle.poets_value.specs.Civil.{IsDayNumber, IsDayOf, IsDayText, day_bytes, day_text}
use Rattle.poets_value.proofs.Days.{first_day}
use Rattle.poets_value.proofs.DayTexts.{day_text-is}

-- a day with the number
record HasDay (n : ℤ) : Type 0 where
  year : ℕ
  month : ℕ
  day : ℕ
  of_day : IsDayOf year month day n

order : (x n : ℕ) → x ≤ n → (x < n) ⊎ (x ≡ n)
order x n h = grind (arith, h)

-- the day after the last one of a year
year_later : (y : ℕ) (n : ℤ) → IsDayOf y 12 31 n → n <ℤ pos 2_932_896 → (y < 9999) ⊎ (y ≡ 9999) → HasDay (n +ℤ pos 1)
year_later y n h low (inl more) =
    let next = days_from_civil-next_year (pos y) (pos (y + 1)) (omega (arith, ints)) (omega (arith, ints)) in
    let year : IsCivilDate (pos (y + 1)) 1 1 = ((omega (arith, ints), omega (arith, ints)), (omega arith, omega arith), (omega arith, omega (arith, days_in_month_bounds (pos (y + 1)) 1))) in
    record { year = y + 1; month = 1; day = 1; of_day = (omega arith, year, omega (arith, ints, next, h.2)) }
year_later y n h low (inr end) =
    let last : n ≡ days_from_civil (pos 9999) 12 31 = rw end at h.2 in
    absurd (omega (arith, ints, last, days_from_civil-max))

-- the day after the last one of a month
month_later : (y m d : ℕ) (n : ℤ) → IsDayOf y m d n → d ≡ days_in_month (pos y) m → n <ℤ pos 2_932_896 → (m < 12) ⊎ (m ≡ 12) → HasDay (n +ℤ pos 1)
month_later y m d n h last low (inl more) =
    let next = days_from_civil-next_month (pos y) m d h.1.1.0 last in
    let civil : IsCivilDate (pos y) (m + 1) 1 = (h.1.0, (omega arith, omega arith), (omega arith, omega (arith, days_in_month_bounds (pos y) (m + 1)))) in
    record { year = y; month = m + 1; day = 1; of_day = (h.0, civil, omega (arith, ints, next, h.2)) }
month_later y m d n h last low (inr end) =
    let day : d ≡ 31 = rw end at last in
    year_later y n (subst (λ (k : ℕ). IsDayOf y 12 k n) day (subst (λ (k : ℕ). IsDayOf y k d n) end h)) low (order y 9999 (omega (arith, ints, h.1.0)))

-- the next day
day_later : (y m d : ℕ) (n : ℤ) → IsDayOf y m d n → n <ℤ pos 2_932_896 → (d < days_in_month (pos y) m) ⊎ (d ≡ days_in_month (pos y) m) → HasDay (n +ℤ pos 1)
day_later y m d n h low (inl more) =
    let next = days_from_civil-day (pos y) m d (d + 1) h.1.2.0 (omega arith) in
    record { year = y; month = m; day = d + 1; of_day = (h.0, (h.1.0, h.1.1, (omega arith, omega arith)), omega (arith, ints, next, h.2)) }
day_later y m d n h low (inr last) = month_later y m d n h last low (order m 12 h.1.1.1)

-- the day that many days after the first one
day_from_first : (k : ℕ) (n : ℤ) → n ≡ neg_ℤ (pos 719_162) +ℤ pos k → n ≤ℤ pos 2_932_896 → HasDay n
day_from_first zero n e high =
    record { year = 1; month = 1; day = 1; of_day = (omega arith, ((omega (arith, ints), omega (arith, ints)), (omega arith, omega arith), (omega arith, omega arith)), omega (arith, ints, e, first_day)) }
day_from_first (suc k) n e high =
    let before = neg_ℤ (pos 719_162) +ℤ pos k in
    let low : before <ℤ pos 2_932_896 = omega (arith, ints, e, high) in
    let day = day_from_first k before refl (omega (arith, ints)) in
    subst HasDay (omega (arith, ints, e)) (day_later day.year day.month day.day before day.of_day low (order day.day (days_in_month (pos day.year) day.month) day.of_day.1.2.1))

text_of : (y m d : ℕ) (n : ℤ) → IsDayOf y m d n → IsDayText (day_text n) n
text_of y m d n h =
    let text : IsDayText (day_bytes y m d) n = record { year = y; month = m; day = d; of_day = h; bytes = refl } in
    subst (λ (t : List ℕ). IsDayText t n) (day_text-is (day_bytes y m d) n text) text

-- each day has its text
pub IsDayText-day_text : (n : ℤ) → IsDayNumber n → IsDayText (day_text n) n
IsDayText-day_text n h =
    let found = day_from_first (unsigned_abs (n +ℤ pos 719_162)) n (omega (arith, ints, h.0)) h.1 in
    text_of found.year found.month found.day n found.of_day
