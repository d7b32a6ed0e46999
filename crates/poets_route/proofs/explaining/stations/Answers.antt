use Rattle.std.proofs.Common.{◌≡◌, ◌+◌, ◌-◌, ◌*◌, ◌≤◌, arith, min, [], ◌∷◌, length, length-append, take, drop, sym, ap, subst, ◌∙◌}
use Rattle.poets_syntax.specs.Applied.{CountsFit}
use Rattle.poets_syntax.specs.Book.{book_of}
use Rattle.poets_meaning.specs.Studied.{marks_of}
use Rattle.poets_cons.specs.Table.{contract_of_rows}
use Rattle.poets_route.specs.declared.explaining.TheConstants.{PIECE}
use Rattle.poets_route.specs.code.Through.{through, AreStations}
use Rattle.poets_route.proofs.Through.{fit_through, split_at, stations_more, through_twice}
use Rattle.poets_route.proofs.explaining.stations.Goals as goal

pub through-requires-clause-fits : goal.through-requires-clause-fits
through-requires-clause-fits c =
    let book = book_of c.args.studied.now.book in
    subst (CountsFit book) (sym c.loop-at.invariant.last)
    (fit_through book (marks_of c.args.studied.now) c.requires.formed.studied (take c.loop-at.at c.args.events.now) (contract_of_rows c.args.start)
    c.requires.formed.fits)

pub loop-at-preserved : goal.loop-at-preserved
loop-at-preserved c =
    let s = c.args.studied.now in
    let book = book_of s.book in
    let marks = marks_of s in
    let start = contract_of_rows c.args.start in
    let events = c.args.events.now in
    let l = c.loop-at in
    let at = l.at in
    let n = c.min.result in
    let end = at + n in
    let items = c.in_ok-push.ensures.items in
    let more = length-append l.stations.items (l.last ∷ []) in
    let some = c.loop-at-test.true in
    let size : n ≡ min 256 (length events - at) = c.min.ensures in
    let whole : at ≡ 256 * length l.stations.items = l.invariant.whole some in
    let within : at + n ≤ length events = omega (arith, size, some) in
    let both = split_at events at (at + n) (omega arith) in record {
      within = within;
      whole = λ h. (let g : at + n ≡ 256 * length c.push.new.list.items = omega (arith, h, size, whole, ap length items, more) in g);
      some = λ h. absurd (omega (arith, h, ap length items, more));
      stations = subst (AreStations s start events PIECE) (sym items)
          (stations_more s start events PIECE at l.stations.items l.last l.invariant.within whole l.invariant.last l.invariant.stations);
      last = c.in_ok-next.ensures ∙ ap (λ x. through book marks x (take (at + n - at) (drop at events))) l.invariant.last
          ∙ sym (through_twice book marks start (take at events) (take (at + n - at) (drop at events))) ∙ ap (through book marks start) (sym both.0);
    }
