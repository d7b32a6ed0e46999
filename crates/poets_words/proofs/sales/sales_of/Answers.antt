use Rattle.std.proofs.Common.{rules}
use Rattle.poets_words.proofs.Numbers.{decimal_is_read, read_is_decimal}
use Rattle.poets_words.proofs.sales.sales_of.Goals as goal

pub returns-in-Ok-clause-written : goal.returns-in-Ok-clause-written
returns-in-Ok-clause-written c = read_is_decimal c.args.text.now c.in-Ok.sales c.parse.result c.parse.ensures.value.0 c.in-Ok.is (search rules)

pub returns-in_default-clause-none : goal.returns-in_default-clause-none
returns-in_default-clause-none c = λ n range e.
    let read = decimal_is_read c.args.text.now n _ c.parse.ensures.value.0 range e in
    search rules

pub returns-in_default-2-clause-none : goal.returns-in_default-2-clause-none
returns-in_default-2-clause-none c = λ n range e.
    let read = decimal_is_read c.args.text.now n _ c.parse.ensures.value.0 range e in
    search rules

pub returns-in_default-3-clause-none : goal.returns-in_default-3-clause-none
returns-in_default-3-clause-none c = λ n range e.
    let read = decimal_is_read c.args.text.now n _ c.parse.ensures.value.0 range e in
    search rules
