-- Civil days of the years 1 to 9999, counted from 1970-01-01, and their ten bytes.
use Rattle.std.specs.Prelude.{◌≡◌, ℕ, zero, suc, ◌+◌, ◌/◌, ◌%◌, ◌≤◌, ◌<◌, List, [], ◌∷◌, ℤ, pos}
use Rattle.std.specs.Prelude.{neg_ℤ, ◌-ℤ◌, ◌≤ℤ◌}
use Rattle.std.specs.Prelude.{int_le, unsigned_abs, if◌then◌else◌}
use Rattle.jiff_core.specs.Calendar.{IsCivilDate, days_from_civil}

-- the day number of a civil day from 0001-01-01 to 9999-12-31
abbrev pub IsDayNumber : ℤ → Type 0
IsDayNumber n = (neg_ℤ (pos 719_162) ≤ℤ n) × (n ≤ℤ pos 2_932_896)

-- the digit of a number at a power of ten, as a byte
abbrev pub digit_at : ℕ → ℕ → ℕ
digit_at n power = 48 + n / power % 10

-- the ten bytes YYYY-MM-DD of a year, a month and a day
abbrev pub day_bytes : ℕ → ℕ → ℕ → List ℕ
day_bytes y m d =
    digit_at y 1000 ∷ digit_at y 100 ∷ digit_at y 10 ∷ digit_at y 1 ∷ 45
    ∷ digit_at m 10 ∷ digit_at m 1 ∷ 45 ∷ digit_at d 10 ∷ digit_at d 1 ∷ []

-- the calendar has this day, in the year 1 or later, and this is its number
abbrev pub IsDayOf : ℕ → ℕ → ℕ → ℤ → Type 0
IsDayOf y m d number = (1 ≤ y) × IsCivilDate (pos y) m d × (number ≡ days_from_civil (pos y) m d)

-- the text is YYYY-MM-DD of the civil day with this number
pub record IsDayText (text : List ℕ) (number : ℤ) : Type 0 where
  pub year : ℕ
  pub month : ℕ
  pub day : ℕ
  pub of_day : IsDayOf year month day number
  pub bytes : text ≡ day_bytes year month day

-- the bytes are the two digits of this number, which is below 100
abbrev pub IsPair : ℕ → ℕ → ℕ → Type 0
IsPair tens ones n = (n < 100) × (tens ≡ digit_at n 10) × (ones ≡ digit_at n 1)

-- the last of the years up to this one whose first day is not after the day
unfoldable pub last_year : ℕ → ℤ → ℕ
last_year zero day = 0
last_year (suc year) day = if int_le (days_from_civil (pos (suc year)) 1 1) day then suc year else last_year year day

-- the last of the year's months up to this one whose first day is not after the day
unfoldable pub last_month : ℕ → ℕ → ℤ → ℕ
last_month year zero day = 0
last_month year (suc month) day =
    if int_le (days_from_civil (pos year) (suc month) 1) day then suc month else last_month year month day

-- the year of the day with a number
abbrev pub year_of : ℤ → ℕ
year_of day = last_year 9999 day

-- the month of the day with a number, where January is 1
abbrev pub month_of : ℤ → ℕ
month_of day = last_month (year_of day) 12 day

-- the day of the month of the day with a number, where the first is 1
abbrev pub day_of_month : ℤ → ℕ
day_of_month day = unsigned_abs (day -ℤ days_from_civil (pos (year_of day)) (month_of day) 1) + 1

-- the ten bytes of the day with a number
unfoldable pub day_text : ℤ → List ℕ
day_text day = day_bytes (year_of day) (month_of day) (day_of_month day)
