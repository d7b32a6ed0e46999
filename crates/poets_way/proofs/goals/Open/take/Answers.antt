use Rattle.std.proofs.Common.{◌≡◌, ◌∙◌, ◌-◌, ◌<◌, true, reverse, refl, sym, ap, arith}
use Rattle.std.proofs.lemmas.Result.{IfOk-weaker}
use Rattle.poets_expr.specs.Env.{declared_of}
use Rattle.poets_expr.specs.Expression.{expression_of}
use Rattle.poets_expr.specs.Val.{val}
use Rattle.poets_syntax.specs.Book.{book_of, taken}
use Rattle.poets_syntax.specs.Contract.{contract_of, Transmit}
use Rattle.poets_meaning.specs.Truth.{is_true}
use Rattle.poets_way.specs.Moves as M
use Rattle.poets_way.specs.declared.goals.Open.{Open}
use Rattle.poets_way.specs.code.Goals.{Adds, Follows}
use Rattle.poets_way.proofs.Opened.{take-true}
use Rattle.poets_way.proofs.goals.Open.take.Goals as goal

pub returns : goal.returns
returns c =
    let g = c.args.goal in
    let p = expression_of c.args.when.now in
    let next = contract_of c.args.then.now in
    let names = c.args.binders.now in
    let old = c.args.self.now in
    let new = c.add.new.self in
    let mid : Open = record { goals = old.goals; events = c.pop.new.self } in
    let book = book_of c.args.studied.now.book in
    let own = c.book.result.now in
    let env = taken names c.in-Some.event (reverse g.pairs.items) in
    let asked : is_true (val (declared_of own.decls.names) (reverse c.as_slice.result.now) p) ≡ true = sym c.holds.ensures ∙ c.if-not-holds.false in
    let holds : is_true (val book.declared env p) ≡ true =
    sym (ap (λ b. is_true (val (declared_of b.decls.names) (reverse c.as_slice.result.now) p)) c.book.ensures.book
    ∙ ap (λ e. is_true (val book.declared e p)) (ap reverse c.as_slice.ensures ∙ c.in_ok-bind.ensures)) ∙ asked in
    let some : 0 < g.count = omega (arith, c.if-count-eq0.false) in
    IfOk-weaker c.add.result (Adds next c.bind.new.pairs.items (g.count - 1) mid new) (Follows book (Transmit names p next) M.Take g old new)
    (λ b h. take-true book names p next g old c.in-Some.event c.pop.new.self.items some c.in-Some.ensures.some holds c.bind.new.pairs.items mid new b h
    c.requires refl refl c.in_ok-bind.ensures) c.add.ensures
