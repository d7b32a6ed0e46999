use Rattle.std.proofs.Common.{unsigned_abs, ◌≡◌, pos, neg_ℤ, ◌≤ℤ◌, arith, ◌∙◌, of_z, to_z, w8, w32, w64}
use Rattle.std.proofs.lemmas.Int.{ints, to_z-of_z}
use Rattle.jiff_core.specs.Date.{epoch_day}
use Rattle.poets_value.specs.Civil.{IsDayText, day_bytes}
use Rattle.poets_value.proofs.Days.{year_after, text_of_date}
use Rattle.poets_value.proofs.DayTexts.{day_text-is}
use Rattle.poets_value.proofs.day.Day.text.Goals as goal

pub returns : goal.returns
returns c =
    let n32 = to_z-of_z w32 c.self.inside.number (omega (arith, ints)) in
    let n64 = to_z-of_z w64 (to_z w32 (of_z w32 c.self.inside.number)) (omega (arith, ints, n32)) in
    let number : epoch_day c.in-Ok.plain ≡ c.args.self.now = c.in-Ok.ensures.value ∙ n64 ∙ n32 ∙ c.self.view_is in
    let from : neg_ℤ (pos 719_162) ≤ℤ epoch_day c.in-Ok.plain = rw (c.in-Ok.ensures.value, n64, n32) c.self.invariant.0 in
    let late : pos 1 ≤ℤ c.in-Ok.plain.year = year_after c.in-Ok.plain from in
    let date = c.from_plain-date.ensures in
    let seen : c.year.result ≡ c.in-Ok.plain.year = rw date at c.year.ensures in
    let absolute = c.unsigned_abs-year.ensures.value in
    let year : c.in-Ok.plain.year ≡ pos c.unsigned_abs-year.result = omega (arith, ints, seen, late, absolute) in
    let month : unsigned_abs (to_z w8 (of_z w8 c.month.result)) ≡ c.in-Ok.plain.month = omega (arith, ints, rw date at c.month.ensures) in
    let day : unsigned_abs (to_z w8 (of_z w8 c.day.result)) ≡ c.in-Ok.plain.day = omega (arith, ints, rw date at c.day.ensures) in
    let h = text_of_date c.in-Ok.plain c.unsigned_abs-year.result year (omega (arith, ints)) in
    let same : IsDayText (day_bytes c.unsigned_abs-year.result (unsigned_abs (to_z w8 (of_z w8 c.month.result))) (unsigned_abs (to_z w8 (of_z w8 c.day.result)))) (epoch_day c.in-Ok.plain) = rw (month, day) h in
    let this : IsDayText c.bytes_of.result c.args.self.now = rw c.bytes_of.ensures (rw number at same) in
    record { day = this; text = day_text-is c.bytes_of.result c.args.self.now this }
