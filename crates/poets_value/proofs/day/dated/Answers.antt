use Rattle.std.proofs.Common.{◌≡◌, ℕ, ◌≤◌, pos, arith, w32, refl}
use Rattle.std.proofs.lemmas.Int.{ints, to_z-of_z}
use Rattle.jiff_core.specs.Calendar.{days_from_civil, IsCivilDate}
use Rattle.jiff_core.specs.declared.civil.date.Date.{Date}
use Rattle.jiff_core.proofs.DateLemmas.{civil}
use Rattle.poets_value.specs.Civil.{IsDayOf}
use Rattle.poets_value.proofs.Days.{day_number_range}
use Rattle.poets_value.proofs.day.dated.Goals as goal

-- a date with these parts is a day of them
day_of : (date : Date) (y m d : ℕ) → 1 ≤ y → date.year ≡ pos y → date.month ≡ m → date.day ≡ d → IsDayOf y m d (days_from_civil date.year date.month date.day)
day_of date y m d later ey em ed =
    let h : IsCivilDate date.year date.month date.day = civil date in
    rw (ey, em, ed) (later, rw (ey, em, ed) at h, refl)

pub returns-in-Ok-clause-day : goal.returns-in-Ok-clause-day
returns-in-Ok-clause-day c =
    let ymd = c.in-Ok.ensures.value in
    let y : c.in-Ok.date.year ≡ pos c.args.year = omega (arith, ints, ymd.0) in
    let m : c.in-Ok.date.month ≡ c.args.month = omega (arith, ints, ymd.1) in
    let d : c.in-Ok.date.day ≡ c.args.day = omega (arith, ints, ymd.2) in
    let h = day_of c.in-Ok.date c.args.year c.args.month c.args.day (omega arith) y m d in
    let number = to_z-of_z w32 c.to_unix_epoch_day.result (omega (arith, ints)) in
    rw (number, c.to_unix_epoch_day.ensures.value, c.to_plain.ensures) h

pub invariant_of-result : goal.invariant_of-result
invariant_of-result c =
    let ymd = c.in-Ok.ensures.value in
    let y : c.in-Ok.date.year ≡ pos c.args.year = omega (arith, ints, ymd.0) in
    let h : IsCivilDate c.in-Ok.date.year c.in-Ok.date.month c.in-Ok.date.day = civil c.in-Ok.date in
    let range = day_number_range c.args.year c.in-Ok.date.month c.in-Ok.date.day (omega arith) (rw y at h) in
    let number = to_z-of_z w32 c.to_unix_epoch_day.result (omega (arith, ints)) in
    rw (number, c.to_unix_epoch_day.ensures.value, c.to_plain.ensures, y) range
