use Rattle.std.proofs.Common.{rules, ◌≡◌, ◌+◌, ◌*◌, ℤ, arith, length, get_or}
use Rattle.std.proofs.lemmas.Result.{IfOk-weaker, on_err_weaker}
use Rattle.poets_value.specs.Civil.{IsDayText, IsDayOf}
use Rattle.poets_value.proofs.Days.{day_pairs, same_day, bytes_from_pairs}
use Rattle.poets_value.proofs.day.Day.from_text.Goals as goal

pub returns-in_err-rest-clause-refuses : goal.returns-in_err-rest-clause-refuses
returns-in_err-rest-clause-refuses c =
    let no : (n : ℤ) → ¬ (IsDayText c.args.text.now n) = λ n h. c.in_err-rest.ensures.refuses _ (day_pairs c.args.text.now n h).1 in
    search rules

pub returns-in_err-day-clause-refuses : goal.returns-in_err-day-clause-refuses
returns-in_err-day-clause-refuses c =
    let no : (n : ℤ) → ¬ (IsDayText c.args.text.now n) = λ n h. c.in_err-day.ensures.refuses _ (day_pairs c.args.text.now n h).3 in
    search rules

pub returns-clause-day : goal.returns-clause-day
returns-clause-day c =
    let len : length c.args.text.now ≡ 10 = omega arith in
    let dash : get_or c.args.text.now 4 0 ≡ 45 = omega arith in
    let dash2 : get_or c.args.text.now 7 0 ≡ 45 = omega arith in
    let bytes = bytes_from_pairs c.args.text.now c.in_ok-century.century c.in_ok-rest.rest c.in_ok-month.month c.in_ok-day.day len
    c.in_ok-century.ensures.value c.in_ok-rest.ensures.value dash c.in_ok-month.ensures.value dash2 c.in_ok-day.ensures.value in
    IfOk-weaker c.dated.result _ _ (λ n h. record { year = _; month = _; day = _; of_day = h; bytes = bytes }) c.dated.ensures.day

pub returns-clause-refuses : goal.returns-clause-refuses
returns-clause-refuses c =
    let same : (n : ℤ) → IsDayText c.args.text.now n → IsDayOf (c.in_ok-century.century * 100 + c.in_ok-rest.rest) c.in_ok-month.month c.in_ok-day.day n =
    λ n h. same_day c.args.text.now n c.in_ok-century.century c.in_ok-rest.rest c.in_ok-month.month c.in_ok-day.day h
    c.in_ok-century.ensures.value c.in_ok-rest.ensures.value c.in_ok-month.ensures.value c.in_ok-day.ensures.value in
    on_err_weaker c.dated.result (λ no n h. no n (same n h)) c.dated.ensures.refuses
