use Rattle.std.proofs.Common.{subst, rules}
use Rattle.poets_literals.specs.code.Parts.{BeginsPlainly}
use Rattle.poets_literals.proofs.NumberTexts.{begins_plainly, is_read, is_printed}
use Rattle.poets_literals.proofs.numbers.number.Goals as goal

pub returns-then-not-begins_plainly-clause-none : goal.returns-then-not-begins_plainly-clause-none
returns-then-not-begins_plainly-clause-none c z h e =
    let begins : BeginsPlainly c.args.text.now = subst BeginsPlainly e (begins_plainly z h) in
    search (rules, begins)

pub returns-in-Ok-clause-found : goal.returns-in-Ok-clause-found
returns-in-Ok-clause-found c =
    let begins : BeginsPlainly c.args.text.now = search rules in
    let is = is_printed c.args.text.now c.in-Ok.number c.parse.result begins c.parse.ensures.value.0 c.in-Ok.is in
    search (rules, is)

pub returns-in-Err-clause-none : goal.returns-in-Err-clause-none
returns-in-Err-clause-none c z h e =
    is_read z c.args.text.now c.parse.result c.in-Err.field-0 h e c.parse.ensures.value.0 c.in-Err.is
