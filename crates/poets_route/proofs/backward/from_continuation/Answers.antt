use Rattle.std.proofs.Common.{sym, subst}
use Rattle.poets_syntax.specs.Book.{book_of}
use Rattle.poets_syntax.specs.Contract.{contract_of}
use Rattle.poets_syntax.specs.Givens.{event_givens}
use Rattle.poets_syntax.specs.WellFormed.{IsWellFormed}
use Rattle.poets_syntax.proofs.Givens.{HaveDeclaredNames-event}
use Rattle.poets_syntax.proofs.WellFormedness.{IsWellFormed-replace}
use Rattle.poets_route.proofs.backward.from_continuation.Goals as goal

pub undone_one-requires-clause-formed : goal.undone_one-requires-clause-formed
undone_one-requires-clause-formed c =
    let declared = (book_of c.args.studied.now.book).declared in
    let given = event_givens c.args.binders.now c.args.event.now in
    subst (IsWellFormed declared) (sym c.in_ok-then.ensures)
    (IsWellFormed-replace declared given (HaveDeclaredNames-event declared c.args.binders.now c.args.event.now c.requires.event)
    (contract_of c.args.then.now) c.requires.formed)
