use Rattle.std.proofs.Common.{None, Some, arith}
use Rattle.std.proofs.lemmas.Str.Pattern.{strip_prefix_char, strip_suffix_char}
use Rattle.poets_literals.proofs.TextsInBrackets.{none_gives, no_front, no_end, split_found, split_none}
use Rattle.poets_literals.proofs.resources.parts.Goals as goal

pub returns-in_err-strip_prefix-clause-none : goal.returns-in_err-strip_prefix-clause-none
returns-in_err-strip_prefix-clause-none c =
    let text = c.args.text.now in
    let none = strip_prefix_char 91 text None c.in_err-strip_prefix.ensures.cases (omega arith) in
    none_gives c.from_residual.result (no_front text none)

pub returns-in_err-inside-clause-none : goal.returns-in_err-inside-clause-none
returns-in_err-inside-clause-none c =
    let text = c.args.text.now in
    let front = c.in_ok-strip_prefix.field-0 in
    let whole = strip_prefix_char 91 text (Some front) c.in_ok-strip_prefix.ensures.cases (omega arith) in
    let none = strip_suffix_char 93 front.now None c.in_err-inside.ensures.cases (omega arith) in
    none_gives c.from_residual-in_err-inside.result (no_end text front.now whole none)

pub returns-clause-found : goal.returns-clause-found
returns-clause-found c =
    let text = c.args.text.now in
    let front = c.in_ok-strip_prefix.field-0 in
    let inside = c.in_ok-inside.inside in
    let whole = strip_prefix_char 91 text (Some front) c.in_ok-strip_prefix.ensures.cases (omega arith) in
    let end = strip_suffix_char 93 front.now (Some inside) c.in_ok-inside.ensures.cases (omega arith) in
    split_found text front.now inside.now c.split_once.result whole end c.split_once.ensures.cases

pub returns-clause-none : goal.returns-clause-none
returns-clause-none c =
    let text = c.args.text.now in
    let front = c.in_ok-strip_prefix.field-0 in
    let inside = c.in_ok-inside.inside in
    let whole = strip_prefix_char 91 text (Some front) c.in_ok-strip_prefix.ensures.cases (omega arith) in
    let end = strip_suffix_char 93 front.now (Some inside) c.in_ok-inside.ensures.cases (omega arith) in
    split_none text front.now inside.now c.split_once.result whole end c.split_once.ensures.cases
