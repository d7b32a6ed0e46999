use Rattle.std.proofs.Common.{sym, subst}
use Rattle.poets_value.specs.Civil.{IsDayText}
use Rattle.poets_value.proofs.Days.{range_of_text}
use Rattle.poets_value.proofs.DayTexts.{day_text-is}
use Rattle.poets_value.proofs.EachDay.{IsDayText-day_text}
use Rattle.poets_literals.proofs.days.read_day.Goals as goal

pub returns-in-Ok-clause-found : goal.returns-in-Ok-clause-found
returns-in-Ok-clause-found c =
    let is : IsDayText c.args.text.now c.in-Ok.day =
    subst (λ t. IsDayText t c.in-Ok.day) c.as_bytes.ensures.value c.in-Ok.ensures.day in
    (range_of_text c.args.text.now c.in-Ok.day is, sym (day_text-is c.args.text.now c.in-Ok.day is))

pub returns-in-Err-clause-none : goal.returns-in-Err-clause-none
returns-in-Err-clause-none c day h =
    let is : IsDayText c.args.text.now day = subst (λ t. IsDayText t day) h.1 (IsDayText-day_text day h.0) in
    c.in-Err.ensures.refuses day (subst (λ t. IsDayText t day) (sym c.as_bytes.ensures.value) is)
