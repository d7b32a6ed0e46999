use Rattle.std.proofs.Common.{[], append-nil, sym, subst}
use Rattle.poets_syntax.specs.Applied.{CountsFit}
use Rattle.poets_syntax.specs.Book.{book_of}
use Rattle.poets_meaning.specs.Perf.{Perf}
use Rattle.poets_meaning.specs.Studied.{marks_of}
use Rattle.poets_cons.specs.Table.{contract_of_rows}
use Rattle.poets_way.specs.Trails.{way_at}
use Rattle.poets_way.specs.Ways.{Ways}
use Rattle.poets_route.specs.declared.explaining.TheConstants.{PIECE}
use Rattle.poets_route.specs.code.Back.{IsReadyIn}
use Rattle.poets_route.proofs.Choices.{refused}
use Rattle.poets_route.proofs.Made.{grew_twice}
use Rattle.poets_route.proofs.Through.{fit_through, performed_through, ready_through, stations_begin, stations_ready}
use Rattle.poets_route.proofs.explaining.over.Goals as goal

pub may_end_rows-requires : goal.may_end_rows-requires
may_end_rows-requires c =
    let book = book_of c.args.studied.now.book in
    let f = c.requires.ready.formed in
    subst (CountsFit book) (sym c.in_ok-stations.ensures.rest)
    (fit_through book (marks_of c.args.studied.now) f.studied c.args.events.now (contract_of_rows c.args.start) f.fits)

pub returns-then-not-may_end_rows : goal.returns-then-not-may_end_rows
returns-then-not-may_end_rows c =
    let book = book_of c.args.studied.now.book in
    let marks = marks_of c.args.studied.now in
    let start = contract_of_rows c.args.start in
    let events = c.args.events.now in
    let f = c.requires.ready.formed in
    (λ p. refused c.may_end_rows.result c.may_end_rows.ensures c.if-not-may_end_rows.true
    (subst (λ x. Perf book [] x []) (sym c.in_ok-stations.ensures.rest)
    (performed_through book marks f.studied events start f.formed f.fits c.requires.events [] (subst (λ s. Perf book [] start s) (sym (append-nil events)) p))))

pub over_none-requires-clause-ready : goal.over_none-requires-clause-ready
over_none-requires-clause-ready c =
    subst (IsReadyIn c.args.studied.now) (sym c.in_ok-stations.ensures.rest)
    (ready_through (book_of c.args.studied.now.book) (marks_of c.args.studied.now) c.args.events.now (contract_of_rows c.args.start) c.requires.ready c.requires.events)

pub over_pieces-requires-clause-ready : goal.over_pieces-requires-clause-ready
over_pieces-requires-clause-ready c =
    stations_ready c.args.studied.now (contract_of_rows c.args.start) c.args.events.now PIECE c.in_ok-stations.stations.items c.requires.ready c.requires.events
    c.in_ok-stations.ensures.stations

pub over_pieces-requires-clause-pieces : goal.over_pieces-requires-clause-pieces
over_pieces-requires-clause-pieces c =
    stations_begin c.args.studied.now (contract_of_rows c.args.start) c.args.events.now PIECE c.in_ok-stations.stations.items c.in_ok-stations.ensures.stations
    c.in_ok-stations.ensures.some

pub returns : goal.returns
returns c =
    let book = book_of c.args.studied.now.book in
    let start = contract_of_rows c.args.start in
    let p = c.in_ok-stations.ensures in
    let m = c.in_ok-way.ensures in
    let g = c.in_ok-way-2.ensures in record {
      grew = grew_twice m.grew g.grew;
      within = g.within;
      made = g.made start p.stations (subst (λ x. Ways book [] x [] (way_at c.over_none.new.trails c.in_ok-way.way)) p.rest (m.made []));
    }
