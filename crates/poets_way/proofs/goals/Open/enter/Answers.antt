use Rattle.std.proofs.Common.{◌≡◌, ◌∙◌, length, map, reverse, sym, ap, arith}
use Rattle.std.proofs.lemmas.List.{length-map}
use Rattle.std.proofs.lemmas.Result.{IfOk-weaker}
use Rattle.poets_expr.specs.Env.{declared_of}
use Rattle.poets_expr.specs.Expression.{expression_of}
use Rattle.poets_expr.specs.Val.{val}
use Rattle.poets_syntax.specs.Book.{book_of, parameter_env, template_of}
use Rattle.poets_syntax.specs.Contract.{App}
use Rattle.poets_way.specs.Moves as M
use Rattle.poets_way.specs.code.Goals.{Adds, Follows}
use Rattle.poets_way.proofs.Opened.{enter-same}
use Rattle.poets_way.proofs.goals.Open.enter.Goals as goal

pub returns : goal.returns
returns c =
    let g = c.args.goal in
    let args = map expression_of c.args.args.now in
    let old = c.args.self.now in
    let new = c.add.new.self in
    let book = book_of c.args.studied.now.book in
    let t = template_of c.in-Some.template.now in
    let own = c.book.result.now in
    let pairs : reverse c.in_ok-pairs.pairs.items ≡ parameter_env t.params (map (val book.declared (reverse g.pairs.items)) args) =
    c.in_ok-pairs.ensures
    ∙ ap (λ ps. parameter_env ps (map (val (declared_of own.decls.names) (reverse c.as_slice.result.now)) args)) c.as_slice-params.ensures
    ∙ ap (λ b. parameter_env t.params (map (val (declared_of b.decls.names) (reverse c.as_slice.result.now)) args)) c.book.ensures.book
    ∙ ap (λ ps. parameter_env t.params (map (val book.declared (reverse ps)) args)) c.as_slice.ensures in
    let as_many : length t.params ≡ length args =
    omega (arith, c.if-params-args.false, ap length c.as_slice-params.ensures, length-map c.args.args.now expression_of) in
    IfOk-weaker c.add.result (Adds t.body c.in_ok-pairs.pairs.items g.count old new) (Follows book (App c.args.name args) M.Enter g old new)
    (λ b h. enter-same book c.args.name args g old t (sym c.in-Some.ensures.template) c.in_ok-pairs.pairs.items new b h c.requires pairs as_many) c.add.ensures
