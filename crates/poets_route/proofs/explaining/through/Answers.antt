use Rattle.std.proofs.Common.{◌-◌, length, take, drop, sym, ap, subst, ◌∙◌}
use Rattle.std.proofs.lemmas.List.{take_all, take_rest}
use Rattle.poets_syntax.specs.Applied.{CountsFit}
use Rattle.poets_syntax.specs.Book.{book_of}
use Rattle.poets_meaning.specs.Studied.{marks_of}
use Rattle.poets_cons.specs.Table.{contract_of_rows}
use Rattle.poets_route.specs.code.Through.{through}
use Rattle.poets_route.proofs.Through.{drop_next, fit_through, fits_next}
use Rattle.poets_route.proofs.explaining.through.Goals as goal

pub rows_after-requires-in-loop-event : goal.rows_after-requires-in-loop-event
rows_after-requires-in-loop-event c =
    let book = book_of c.args.studied.now.book in
    let marks = marks_of c.args.studied.now in
    let s = c.args.events.now in
    let first = contract_of_rows c.in_ok-last.last in
    let fits = fits_next book marks c.requires.studied c.index-events-0.result (contract_of_rows c.args.rows.now) first c.in_ok-last.ensures c.requires.fits in
    subst (CountsFit book) (sym c.loop-event.invariant)
    (fit_through book marks c.requires.studied (take c.loop-event.event-index (take (length s - 1) (drop 1 s))) first fits)

pub returns : goal.returns
returns c =
    let book = book_of c.args.studied.now.book in
    let marks = marks_of c.args.studied.now in
    let s = c.args.events.now in
    let first = contract_of_rows c.in_ok-last.last in
    let rows = contract_of_rows c.args.rows.now in
    let e = c.index-events-0.result in
    let all = take_all c.loop-event.event-index (take (length s - 1) (drop 1 s)) c.loop-event-test.false in
    let whole = drop_next s 0 e c.requires.some (sym c.index-events-0.is) in
    c.loop-event.invariant ∙ ap (through book marks first) (all ∙ take_rest s 1) ∙ ap (λ x. through book marks x (drop 1 s)) c.in_ok-last.ensures
    ∙ ap (through book marks rows) (sym whole)
