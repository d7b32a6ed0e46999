use Rattle.std.proofs.Common.{◌≡◌, true, false, [], sym, ◌∙◌, arith}
use Rattle.poets_expr.specs.Env.{declared_of}
use Rattle.poets_expr.specs.Expression.{expression_of}
use Rattle.poets_expr.specs.Val.{val}
use Rattle.poets_syntax.specs.Book.{book_of, taken}
use Rattle.poets_meaning.specs.Truth.{is_true}
use Rattle.poets_meaning.specs.Studied.{marks_of}
use Rattle.poets_cons.specs.Table.{contract_at}
use Rattle.poets_residue.proofs.Equations.{after-transmit}
use Rattle.poets_residue.proofs.derivation.Derivation.transmit.Goals as goal

pub returns-then-not-holds-clause-residual : goal.returns-then-not-holds-clause-residual
returns-then-not-holds-clause-residual g c =
    let k : is_true (val (declared_of c.args.self.now.studied.now.book.decls.names) (taken c.args.binders.now c.args.self.now.event.now []) (expression_of c.args.when.now)) ≡ false =
    sym (rw c.book.ensures.book at c.holds.ensures.value) ∙ c.if-not-holds.true in
    rw (
      after-transmit (book_of c.args.self.now.studied.now.book) (marks_of c.args.self.now.studied.now) c.args.self.now.event.now
          c.args.binders.now (expression_of c.args.when.now) (contract_at c.args.arena.now c.args.then),
      k,
    )
    c.failure.ensures.stands

pub returns-clause-residual : goal.returns-clause-residual
returns-clause-residual g c =
    let k : is_true (val (declared_of c.args.self.now.studied.now.book.decls.names) (taken c.args.binders.now c.args.self.now.event.now []) (expression_of c.args.when.now)) ≡ true =
    sym (rw c.book.ensures.book at c.holds.ensures.value) ∙ c.if-not-holds.false in
    rw (
      after-transmit (book_of c.args.self.now.studied.now.book) (marks_of c.args.self.now.studied.now) c.args.self.now.event.now
          c.args.binders.now (expression_of c.args.when.now) (contract_at c.args.arena.now c.args.then),
      k,
    )
    c.taken_on.ensures.residual

pub returns-clause-asks : goal.returns-clause-asks
returns-clause-asks g c =
    omega (arith, c.taken_on.ensures.asks, c.holds.ensures.asks)

pub returns-clause-once : goal.returns-clause-once
returns-clause-once g c =
    omega (arith, c.taken_on.ensures.arguments, c.holds.ensures.asks)
