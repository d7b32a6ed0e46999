use Rattle.std.proofs.Common.{◌∙◌, ap, sym, subst}
use Rattle.poets_syntax.specs.Applied.{CountsFit}
use Rattle.poets_syntax.specs.Book.{book_of}
use Rattle.poets_meaning.specs.Studied.{marks_of}
use Rattle.poets_calculus.specs.Residual.{after}
use Rattle.poets_residue.proofs.residuals.residual.Goals as goal

pub residual_rows-requires : goal.residual_rows-requires
residual_rows-requires g c = subst (CountsFit (book_of c.args.studied.now.book)) (sym c.in_ok-rows.ensures) c.requires

pub returns-in_err-left-clause-asks : goal.returns-in_err-left-clause-asks
returns-in_err-left-clause-asks g c = rw c.in_ok-rows.ensures at c.in_err-left.ensures.asks

pub returns-in_err-left-clause-once : goal.returns-in_err-left-clause-once
returns-in_err-left-clause-once g c = rw c.in_ok-rows.ensures at c.in_err-left.ensures.once

pub returns-clause-residual : goal.returns-clause-residual
returns-clause-residual g c =
    let residual = c.in_ok-left.ensures.residual ∙ ap (after (book_of c.args.studied.now.book) (marks_of c.args.studied.now) c.args.event.now) c.in_ok-rows.ensures in
    rw residual at c.to_term.ensures

pub returns-clause-asks : goal.returns-clause-asks
returns-clause-asks g c = rw c.in_ok-rows.ensures at c.in_ok-left.ensures.asks

pub returns-clause-once : goal.returns-clause-once
returns-clause-once g c = rw c.in_ok-rows.ensures at c.in_ok-left.ensures.once
