use Rattle.std.proofs.Common.{◌≡◌, [], sym, ap, ◌∙◌, subst, map}
use Rattle.poets_expr.specs.Env.{declared_of}
use Rattle.poets_expr.specs.Expression.{expression_of}
use Rattle.poets_expr.specs.Val.{val}
use Rattle.poets_report.specs.Reports.{report_of}
use Rattle.poets_report.specs.Answers.{IsAnswer, answer_of}
use Rattle.poets_command.proofs.TypedCommands.{typed_report}
use Rattle.poets_rules.specs.Rules.{book_of_rules, reports_of_rules}
use Rattle.poets_engine.proofs.Tallying.{tally_made, values_by}
use Rattle.poets_engine.proofs.tallies.tally.Goals as goal

pub report_called-report-requires : goal.report_called-report-requires
report_called-report-requires g c =
    let rules = c.args.rules.now in
    typed_report.tally (book_of_rules rules) (reports_of_rules rules) c.args.name (map expression_of c.args.args.now) c.requires.typed

pub returns-clause-ok : goal.returns-clause-ok
returns-clause-ok g c =
    let rules = c.args.rules.now in
    let args = map expression_of c.args.args.now in
    let q = report_of c.report_called-report.result.now in
    let values = c.in_ok-values.values.items in
    let valued : values ≡ values_by rules args = c.in_ok-values.ensures.values ∙ ap (λ book. map (val (declared_of book.decls.names) []) args) c.book.ensures.book in
    let stands = c.in_ok-fold.ensures.stands values [] c.in_ok-start.ensures.stands in
    let over = subst (λ log. IsAnswer (declared_of c.book.result.now.decls.names) q values (map (λ p. p.1) log) c.in_ok-fold.fold.answer)
    (c.as_slice.ensures ∙ c.log.ensures) stands.answers in
    let under = subst (λ book. IsAnswer (declared_of book.decls.names) q values (map (λ p. p.1) c.args.store.now.log) c.in_ok-fold.fold.answer) c.book.ensures.book over in
    tally_made rules c.args.name args c.args.store.now q values (answer_of c.in_ok-answer.field-0) c.report_called-report.ensures.report valued
    (subst (IsAnswer (declared_of rules.studied.book.decls.names) q values (map (λ p. p.1) c.args.store.now.log)) (sym c.in_ok-answer.ensures.answer) under)
