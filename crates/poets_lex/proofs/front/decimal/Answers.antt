use Rattle.std.proofs.Common.{rules, ◌≤◌, ◌^◌, take, pos, ◌+◌, ◌-◌, ◌*◌, ◌*ℤ◌, ◌+ℤ◌, get_or, arith, to_z, of_z, w64}
use Rattle.std.proofs.lemmas.Int.{ints}
use Rattle.poets_lex.specs.Bytes.{decimal}
use Rattle.poets_lex.proofs.Decimal.{decimal-more, decimal-take, past}
use Rattle.poets_lex.proofs.front.decimal.Goals as goal

pub returns-in_err-checked_mul-clause-large : goal.returns-in_err-checked_mul-clause-large
returns-in_err-checked_mul-clause-large c =
    let digits = c.args.digits.now in
    let i = c.loop-digit.digit-index in
    let more = decimal-more digits i (omega arith) in
    let most = decimal-take digits (i + 1) in
    let past_here = past (10 * decimal (take i digits)) (to_z w64 c.loop-digit.number-bits *ℤ pos 10) (omega (arith, ints)) c.in_err-checked_mul.ensures in
    let large : 2 ^ 63 ≤ decimal digits = omega arith in
    search rules

pub returns-in_err-number-clause-large : goal.returns-in_err-number-clause-large
returns-in_err-number-clause-large c =
    let digits = c.args.digits.now in
    let i = c.loop-digit.digit-index in
    let more = decimal-more digits i (omega arith) in
    let most = decimal-take digits (i + 1) in
    let past_here = past (decimal (take (i + 1) digits)) (to_z w64 (of_z w64 c.in_ok-checked_mul.field-0) +ℤ to_z w64 (get_or digits i 0 - 48)) (omega (arith, ints, c.in_ok-checked_mul.ensures)) c.in_err-number.ensures in
    let large : 2 ^ 63 ≤ decimal digits = omega arith in
    search rules
