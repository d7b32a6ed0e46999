use Rattle.std.proofs.Common.{sym, ap, ◌∙◌, arith, None, Some}
use Rattle.std.specs.Prelude.{drop}
use Rattle.std.proofs.lemmas.Str.Pattern.{strip_prefix_char}
use Rattle.poets_value.specs.Civil.{day_text}
use Rattle.poets_expr.specs.Env.{declared_of}
use Rattle.poets_literals.proofs.TextsInBrackets.{none_gives}
use Rattle.poets_literals.proofs.ValueTexts.{no_value, no_truth_read}
use Rattle.poets_literals.proofs.values.read_value.Goals as goal

pub returns-in_err-strip_prefix-clause-none : goal.returns-in_err-strip_prefix-clause-none
returns-in_err-strip_prefix-clause-none c =
    let text = c.args.text.now in
    let behind = strip_prefix_char 64 text None c.in_err-strip_prefix.ensures.cases (omega arith) in
    none_gives c.from_residual.result
    (no_value c.args.names.now (declared_of c.args.decls.now.names) text c.in_default.ensures.none
    (no_truth_read text c.in_default-parse.ensures.value) c.in_default-declared_name.ensures.none
    c.in_default-declared_name-2.ensures.none c.in_default-resource.ensures.none
    (λ day range e. behind (day_text day) (sym e)))

pub returns-in_err-day-clause-none : goal.returns-in_err-day-clause-none
returns-in_err-day-clause-none c =
    let text = c.args.text.now in
    let front = c.in_ok-strip_prefix.field-0 in
    let whole = strip_prefix_char 64 text (Some front) c.in_ok-strip_prefix.ensures.cases (omega arith) in
    none_gives c.from_residual-in_err-day.result
    (no_value c.args.names.now (declared_of c.args.decls.now.names) text c.in_default.ensures.none
    (no_truth_read text c.in_default-parse.ensures.value) c.in_default-declared_name.ensures.none
    c.in_default-declared_name-2.ensures.none c.in_default-resource.ensures.none
    (λ day range e. c.in_err-day.ensures.none day (range, ap (drop 1) (e ∙ whole))))
