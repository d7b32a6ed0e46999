use Rattle.std.proofs.Common.{[], refl, sym, subst}
use Rattle.poets_syntax.specs.Book.{book_of}
use Rattle.poets_syntax.specs.Contract.{contract_of}
use Rattle.poets_meaning.specs.Perf.{Perf}
use Rattle.poets_meaning.specs.Studied.{marks_of}
use Rattle.poets_meaning.proofs.Granting.{May-Perf, Perf-May}
use Rattle.poets_cons.specs.Table.{contract_of_rows}
use Rattle.poets_norm.proofs.Meaning.{normal_in}
use Rattle.poets_residue.proofs.Studies.{IsStudied-book}
use Rattle.poets_route.specs.code.Back.{IsReady}
use Rattle.poets_route.specs.code.Through.{IsFound}
use Rattle.poets_route.proofs.Ready.{ready_normal}
use Rattle.poets_route.proofs.explaining.explain.Goals as goal

pub over-requires-clause-ready : goal.over-requires-clause-ready
over-requires-clause-ready c =
    let book = book_of c.args.studied.now.book in
    let marks = marks_of c.args.studied.now in
    subst (IsReady book marks) (sym c.in_ok-start.ensures)
    (ready_normal book marks (contract_of c.args.term.now)
    (record { studied = IsStudied-book book c.args.studied.now.marks c.recall.ensures; formed = c.requires.formed; fits = c.requires.fits }))

pub returns-in_default : goal.returns-in_default
returns-in_default c =
    let s = c.args.studied.now in
    let book = book_of s.book in
    let marks = marks_of s in
    let study = IsStudied-book book s.marks c.recall.ensures in
    let term = contract_of c.args.term.now in
    let start = contract_of_rows c.in_ok-start.start in
    let events = c.args.events.now.items in
    let absent : Perf book [] start c.as_slice.result.now → ⊥ =
    subst (λ o. IsFound s start c.as_slice.result.now c.new-trails.result c.over.new.trails o) c.in_default.is c.in_ok-found.ensures in
    (λ p. absent (subst (λ x. Perf book [] start x) (sym c.as_slice.ensures)
    (subst (λ x. Perf book [] x events) (sym c.in_ok-start.ensures)
    (May-Perf (normal_in book marks study.right term c.requires.formed [] (λ x k. refl) events 0 (Perf-May p)) refl))))
