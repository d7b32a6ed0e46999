use Rattle.std.proofs.Common.{◌≡◌, arith, [], ◌∷◌, length, length-append, take, Some, sym, ap, subst, ◌∙◌}
use Rattle.std.specs.List.{slice_get}
use Rattle.poets_syntax.specs.Applied.{CountsFit}
use Rattle.poets_syntax.specs.Book.{book_of}
use Rattle.poets_meaning.specs.Studied.{marks_of}
use Rattle.poets_calculus.specs.Residual.{after}
use Rattle.poets_cons.specs.Table.{contract_of_rows}
use Rattle.poets_route.proofs.Through.{fit_through, residuals_more, through_next}
use Rattle.poets_route.proofs.explaining.residuals.Goals as goal

pub rows_after-requires : goal.rows_after-requires
rows_after-requires c =
    let book = book_of c.args.studied.now.book in
    subst (CountsFit book) (sym c.loop-event.invariant.last)
    (fit_through book (marks_of c.args.studied.now) c.requires.formed.studied (take c.loop-event.event-index c.args.events.now) (contract_of_rows c.args.start)
    c.requires.formed.fits)

pub loop-event-preserved : goal.loop-event-preserved
loop-event-preserved c =
    let book = book_of c.args.studied.now.book in
    let marks = marks_of c.args.studied.now in
    let start = contract_of_rows c.args.start in
    let s = c.args.events.now in
    let l = c.loop-event in
    let items = c.in_ok-push.ensures.items in
    let e = c.event-item.result in record {
      count = (let n = l.invariant.count in omega (arith, ap length items, length-append l.rows.items (l.last ∷ []), n));
      each = λ k r h. residuals_more c.args.studied.now start s l.event-index l.rows.items l.last l.invariant.count l.invariant.last l.invariant.each k r
          (subst (λ xs. slice_get xs k ≡ Some r) items h);
      last = c.in_ok-next.ensures ∙ ap (after book marks e) l.invariant.last
          ∙ sym (through_next book marks start s l.event-index e c.loop-event-test.true (sym c.event-item.is));
    }

pub returns : goal.returns
returns c =
    let start = contract_of_rows c.args.start in
    let s = c.args.events.now in
    let l = c.loop-event in
    let done = c.loop-event-test.false in
    let within = l.auto.event-index-end in
    let items = c.in_ok-push-2.ensures.items in record {
      count = (let n = l.invariant.count in omega (arith, ap length items, length-append l.rows.items (l.last ∷ []), n, done, within));
      each = λ k r h. residuals_more c.args.studied.now start s l.event-index l.rows.items l.last l.invariant.count l.invariant.last l.invariant.each k r
          (subst (λ xs. slice_get xs k ≡ Some r) items h);
    }
