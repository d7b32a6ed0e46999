use Rattle.std.proofs.Common.{◌≡◌, [], sym, refl, ap, ◌∙◌, map}
use Rattle.poets_expr.specs.Env.{declared_of}
use Rattle.poets_expr.specs.Expression.{expression_of}
use Rattle.poets_expr.specs.Val.{val}
use Rattle.poets_command.proofs.TypedCommands.{typed_report}
use Rattle.poets_rules.specs.Rules.{book_of_rules, reports_of_rules}
use Rattle.poets_engine.proofs.Folios.{portfolio_absent, portfolio_prepared}
use Rattle.poets_engine.proofs.Tallying.{values_by}
use Rattle.poets_engine.proofs.portfolios.portfolio.Goals as goal

pub report_called-report-requires : goal.report_called-report-requires
report_called-report-requires g c =
    let rules = c.args.rules.now in
    typed_report.portfolio (book_of_rules rules) (reports_of_rules rules) c.args.name (map expression_of c.args.args.now) c.args.over.now c.requires.taken.typed

pub returns-in-Some-clause-ok : goal.returns-in-Some-clause-ok
returns-in-Some-clause-ok g c =
    portfolio_absent c.args.rules.now c.args.name (map expression_of c.args.args.now) c.args.over.now c.args.store.now c.in-Some.absent (sym c.in-Some.ensures)

pub returns-clause-ok : goal.returns-clause-ok
returns-clause-ok g c =
    let rules = c.args.rules.now in
    let args = map expression_of c.args.args.now in
    let valued : c.in_ok-args.args.items ≡ values_by rules args = c.in_ok-args.ensures.values ∙ ap (λ book. map (val (declared_of book.decls.names) []) args) c.book.ensures.book in
    (refl, portfolio_prepared rules c.args.name args c.args.over.now c.args.store.now _ (sym c.in_default.ensures) c.in_ok-decls.ensures.ok c.in_ok-report.ensures.ok valued c.in_ok-parts.ensures)
