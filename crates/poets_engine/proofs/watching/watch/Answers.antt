use Rattle.std.proofs.Common.{◌≡◌, [], Some, sym, ap, ◌∙◌, subst, map}
use Rattle.poets_expr.specs.Env.{declared_of}
use Rattle.poets_expr.specs.Expression.{expression_of}
use Rattle.poets_expr.specs.Val.{val}
use Rattle.poets_command.proofs.TypedCommands.{typed_report}
use Rattle.poets_rules.specs.Rules.{book_of_rules, reports_of_rules}
use Rattle.poets_engine.specs.code.Changes.{AddsWatch}
use Rattle.poets_engine.proofs.Tallying.{watch_made, values_by}
use Rattle.poets_engine.proofs.watching.watch.Goals as goal

pub report_called-report-requires : goal.report_called-report-requires
report_called-report-requires g c =
    let rules = c.args.rules.now in
    typed_report.watch (book_of_rules rules) (reports_of_rules rules) c.args.name (map expression_of c.args.args.now) c.requires.typed

pub returns-clause-ok : goal.returns-clause-ok
returns-clause-ok g c =
    let rules = c.args.rules.now in
    let args = map expression_of c.args.args.now in
    let values = c.in_ok-values.values.items in
    let report = c.in_ok-report.report in
    let valued : values ≡ values_by rules args = c.in_ok-values.ensures.values ∙ ap (λ book. map (val (declared_of book.decls.names) []) args) c.book.ensures.book in
    watch_made rules c.args.name args c.args.store.now c.watch.new.self report values c.in_ok-number.number
    (c.report_called-report.ensures.report ∙ ap (λ q. Some q) (sym c.in_ok-report.ensures)) valued
    (subst (λ book. AddsWatch (declared_of book.decls.names) report values c.args.store.now c.watch.new.self) c.book.ensures.book c.in_ok-number.ensures.ok)
    c.in_ok-number.ensures.number
