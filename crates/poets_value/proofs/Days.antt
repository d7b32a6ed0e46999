-- Day numbers of civil days, and the digits of a year.
use Rattle.std.proofs.Common.{◌≡◌, ℕ, ◌+◌, ◌*◌, ◌/◌, ◌%◌, ◌<◌, ◌≤◌, List, length, get_or, refl, ap, subst, arith, rules, inl, ◌∙◌, sym, ℤ, pos, neg_ℤ, ◌<ℤ◌, ◌≤ℤ◌}
use Rattle.std.proofs.lemmas.Int.{by_lt_z}
use Rattle.jiff_core.specs.Calendar.{IsCivilDate, days_from_civil, day_count}
use Rattle.jiff_core.specs.declared.civil.date.Date.{Date}
use Rattle.jiff_core.specs.Date.{epoch_day}
use Rattle.jiff_core.proofs.DateLemmas.{civil, epoch_day-lt, epoch_day_injective}
use Rattle.jiff_core.proofs.SignedLemmas.{signed_arith}
use Rattle.jiff_core.proofs.MarchLemmas.{day_count-early}
use Rattle.jiff_core.proofs.CalendarLemmas.{days_from_civil-day_count, day_count_bounds, day_count-day_of_year, day_count-later_year, days_in_month_bounds}
use Rattle.std.proofs.lemmas.Slice.Eq.{text_from_reads}
use Rattle.poets_value.specs.Civil.{IsDayNumber, IsDayText, IsDayOf, IsPair, digit_at, day_bytes}

pub first_count : day_count (pos 1) 1 1 ≡ 3_652_791
first_count = day_count-early (pos 1) 10000 1 1 refl (omega arith) (omega arith) (omega arith)

-- no day of the year 1 or later comes before 0001-01-01
pub count_after : (y : ℕ) (m d : ℕ) → 1 ≤ y → IsCivilDate (pos y) m d → 3_652_791 ≤ day_count (pos y) m d
count_after y m d later h =
    let year : 3_652_791 ≤ day_count (pos y) 1 1 = by_lt_z (pos 1) (pos y)
    (λ lt. omega (arith, first_count, day_count-later_year (pos 1) (pos y) (omega (arith, signed_arith)) lt))
    (λ le. let e : y ≡ 1 = omega (arith, signed_arith) in rw e (omega (arith, first_count))) in
    omega (arith, year, day_count-day_of_year (pos y) m d h.2.0)

-- the day number of a civil day lies in the range
pub day_number_range : (y : ℕ) (m d : ℕ) → 1 ≤ y → IsCivilDate (pos y) m d → IsDayNumber (days_from_civil (pos y) m d)
day_number_range y m d later h =
    omega (arith, signed_arith, days_from_civil-day_count, count_after y m d later h, day_count_bounds (pos y) m d h)

-- the digits of a year, from those of its century
pub digits_of_century : (c r : ℕ) → c < 100 → r < 100 → (digit_at (c * 100 + r) 1000 ≡ digit_at c 10) × (digit_at (c * 100 + r) 100 ≡ digit_at c 1) × (digit_at (c * 100 + r) 10 ≡ digit_at r 10) × (digit_at (c * 100 + r) 1 ≡ digit_at r 1)
digits_of_century c r hc hr = (omega arith, omega arith, omega arith, omega arith)

-- the pairs of digits in the text of a day
pub day_pairs : (t : List ℕ) (n : ℤ) (h : IsDayText t n) → IsPair (get_or t 0 0) (get_or t 1 0) (h.year / 100) × IsPair (get_or t 2 0) (get_or t 3 0) (h.year % 100) × IsPair (get_or t 5 0) (get_or t 6 0) h.month × IsPair (get_or t 8 0) (get_or t 9 0) h.day
day_pairs t n h =
    let year : h.year ≤ 9999 = omega (arith, signed_arith, h.of_day.1.0) in
    let month : h.month ≤ 12 = omega (arith, h.of_day.1.1) in
    let day : h.day ≤ 31 = omega (arith, h.of_day.1.2, days_in_month_bounds (pos h.year) h.month) in
    let at : (i : ℕ) → get_or t i 0 ≡ get_or (day_bytes h.year h.month h.day) i 0 = λ i. ap (λ s. get_or s i 0) h.bytes in (
      (omega arith, rw (at 0) (omega arith), rw (at 1) (omega arith)),
      (omega arith, rw (at 2) (omega arith), rw (at 3) (omega arith)),
      (omega arith, rw (at 5) refl, rw (at 6) refl),
      (omega arith, rw (at 8) refl, rw (at 9) refl),
    )

-- two digits name one number
pub pair_is : (a b n m : ℕ) → IsPair a b n → IsPair a b m → n ≡ m
pair_is a b n m h k = omega arith

-- ten bytes that are three pairs of digits with two dashes are the text of a day
pub bytes_from_pairs : (t : List ℕ) (c r m d : ℕ) → length t ≡ 10 → IsPair (get_or t 0 0) (get_or t 1 0) c → IsPair (get_or t 2 0) (get_or t 3 0) r → get_or t 4 0 ≡ 45 → IsPair (get_or t 5 0) (get_or t 6 0) m → get_or t 7 0 ≡ 45 → IsPair (get_or t 8 0) (get_or t 9 0) d → t ≡ day_bytes (c * 100 + r) m d
bytes_from_pairs t c r m d len hc hr dash hm dash2 hd =
    let y = digits_of_century c r hc.0 hr.0 in
    text_from_reads t (day_bytes (c * 100 + r) m d) len (omega arith, (omega arith, (omega arith, (omega arith, (dash, (hm.1, (hm.2, (dash2, (hd.1, (hd.2, tt))))))))))

-- a text of a day that has these pairs of digits is of that day
pub same_day : (t : List ℕ) (n : ℤ) (c r m d : ℕ) → IsDayText t n → IsPair (get_or t 0 0) (get_or t 1 0) c → IsPair (get_or t 2 0) (get_or t 3 0) r → IsPair (get_or t 5 0) (get_or t 6 0) m → IsPair (get_or t 8 0) (get_or t 9 0) d → IsDayOf (c * 100 + r) m d n
same_day t n c r m d h hc hr hm hd =
    let p = day_pairs t n h in
    let century : h.year / 100 ≡ c = pair_is _ _ _ _ p.0 hc in
    let rest : h.year % 100 ≡ r = pair_is _ _ _ _ p.1 hr in
    let year : h.year ≡ c * 100 + r = omega arith in
    let month : h.month ≡ m = pair_is _ _ _ _ p.2 hm in
    let day : h.day ≡ d = pair_is _ _ _ _ p.3 hd in
    subst (λ (y : ℕ). IsDayOf y m d n) year (subst (λ (m : ℕ). IsDayOf h.year m d n) month (subst (λ (d : ℕ). IsDayOf h.year h.month d n) day h.of_day))

first_date : Date
first_date = record { year = pos 1; month = 1; day = 1; year_in = search rules; month_in = search rules; day_in = search rules }

pub first_day : days_from_civil (pos 1) 1 1 ≡ neg_ℤ (pos 719_162)
first_day = omega (arith, signed_arith, days_from_civil-day_count, first_count)

-- a date from day -719162 on is of the year 1 or later
pub year_after : (d : Date) → neg_ℤ (pos 719_162) ≤ℤ epoch_day d → pos 1 ≤ℤ d.year
unfolding first_date
year_after d h =
    by_lt_z d.year (pos 1)
    (λ lt. absurd (let less : epoch_day d <ℤ days_from_civil (pos 1) 1 1 = epoch_day-lt d first_date (inl lt) in omega (arith, signed_arith, first_day, less, h)))
    (λ le. le)

-- the ten digits of a date are the text of its day
pub text_of_date : (d : Date) (y : ℕ) → d.year ≡ pos y → 1 ≤ y → IsDayText (day_bytes y d.month d.day) (epoch_day d)
text_of_date d y e later =
    let h : IsCivilDate d.year d.month d.day = civil d in
    record { year = y; month = d.month; day = d.day; of_day = (later, rw e at h, rw e refl); bytes = refl }

-- the library's date of a civil day
date_of : (y : ℕ) (m d : ℕ) → IsCivilDate (pos y) m d → Date
date_of y m d h = record { year = pos y; month = m; day = d; year_in = h.0; month_in = h.1; day_in = h.2 }

-- a day has one year, month and day
pub parts_of_day : (y y' : ℕ) (m m' : ℕ) (d d' : ℕ) (n : ℤ) → IsDayOf y m d n → IsDayOf y' m' d' n → (y ≡ y') × (m ≡ m') × (d ≡ d')
unfolding date_of
parts_of_day y y' m m' d d' n h k =
    let same = epoch_day_injective (date_of y m d h.1) (date_of y' m' d' k.1) (sym h.2 ∙ k.2) in
    (omega (arith, signed_arith, same.0), same.1, same.2)

-- a day has one text
pub text_of_day_is : (t u : List ℕ) (n : ℤ) → IsDayText t n → IsDayText u n → t ≡ u
text_of_day_is t u n h k =
    let same = parts_of_day h.year k.year h.month k.month h.day k.day n h.of_day k.of_day in
    h.bytes ∙ (rw (same.0, same.1, same.2) (sym k.bytes))

-- a text is of one day
pub day_of_text_is : (t : List ℕ) (n m : ℤ) → IsDayText t n → IsDayText t m → n ≡ m
day_of_text_is t n m h k =
    let p = day_pairs t n h in
    let same = same_day t m (h.year / 100) (h.year % 100) h.month h.day k p.0 p.1 p.2 p.3 in
    let year : h.year / 100 * 100 + h.year % 100 ≡ h.year = omega arith in
    h.of_day.2 ∙ sym (rw year at same.2)

-- and this day is in the range
pub range_of_text : (t : List ℕ) (n : ℤ) → IsDayText t n → IsDayNumber n
range_of_text t n h = rw h.of_day.2 (day_number_range h.year h.month h.day h.of_day.0 h.of_day.1)
