use Rattle.std.proofs.Common.{◌≡◌, [], ◌∷◌, ◌++◌, Err, ◌∙◌, sym, arith}
use Rattle.std.proofs.lemmas.Result.{err_from_is_err_and}
use Rattle.poets_expr.specs.Expression.{expression_of}
use Rattle.poets_syntax.specs.TypeOf.{Passes}
use Rattle.poets_syntax.specs.Typed.{in_use, check_new, check_type, names_bound, types_bound}
use Rattle.poets_report.specs.Reports.{report_of}
use Rattle.poets_command.specs.TypedStatements.{check_key}
use Rattle.poets_types.specs.code.Answers.{answer_of}
use Rattle.poets_types.specs.code.Indices.{book_in, reports_in}
use Rattle.poets_types.specs.code.Scopes.{names_in}
use Rattle.poets_types.proofs.Checks.{passes_from_ok, fails_first}
use Rattle.poets_types.proofs.template.check_fold.Goals as goal

pub returns-in_err-check_step : goal.returns-in_err-check_step
returns-in_err-check_step c =
    let r = c.args.report.now in
    let started : check_type (book_in c.args.index.now).declared (names_in c.args.scope.now) r.ty (expression_of r.start) ≡ Passes tt = passes_from_ok _ _ (grind arith) in
    let new : check_new (in_use (book_in c.args.index.now) (reports_in c.args.index.now)) [] (r.carry ∷ names_bound r.binders) ≡ Passes tt = passes_from_ok _ _ (grind arith) in
    let p = err_from_is_err_and c.from_residual-in_err-check_step.result c.from_residual-in_err-check_step.ensures.1 in
    let failed : answer_of (check_type (book_in c.args.index.now).declared (types_bound r.binders ++ (r.carry, r.ty) ∷ names_in c.args.scope.now) r.ty (expression_of r.step)) ≡ Err p.0 = grind arith in
    rw (started, new) (p.1 ∙ sym (fails_first _ (λ _. check_key (book_in c.args.index.now).declared (types_bound r.binders ++ names_in c.args.scope.now) (report_of r).key) p.0 failed))

pub returns : goal.returns
returns c =
    let r = c.args.report.now in
    let started : check_type (book_in c.args.index.now).declared (names_in c.args.scope.now) r.ty (expression_of r.start) ≡ Passes tt = passes_from_ok _ _ (grind arith) in
    let new : check_new (in_use (book_in c.args.index.now) (reports_in c.args.index.now)) [] (r.carry ∷ names_bound r.binders) ≡ Passes tt = passes_from_ok _ _ (grind arith) in
    let stepped : check_type (book_in c.args.index.now).declared (types_bound r.binders ++ (r.carry, r.ty) ∷ names_in c.args.scope.now) r.ty (expression_of r.step) ≡ Passes tt = passes_from_ok _ _ (grind arith) in
    rw (started, new, stepped) (rw c.types_bound-bound.ensures at c.check_key.ensures)
