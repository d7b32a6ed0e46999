use Rattle.std.proofs.Common.{◌≡◌, ◌+◌, ◌-◌, arith, length, refl, sym, subst}
use Rattle.poets_syntax.specs.Book.{book_of}
use Rattle.poets_meaning.specs.Studied.{marks_of}
use Rattle.poets_cons.specs.Table.{contract_of_rows}
use Rattle.poets_way.specs.Trails.{way_at}
use Rattle.poets_route.specs.code.Through.{AreResiduals}
use Rattle.poets_route.proofs.Made.{grew_twice}
use Rattle.poets_route.proofs.Through.{BacksFrom, backs_step, residual_at, residual_ready}
use Rattle.poets_route.proofs.explaining.over_piece.Goals as goal

pub back_over-requires-clause-ready : goal.back_over-requires-clause-ready
back_over-requires-clause-ready c =
    let s = c.args.studied.now in
    let start = contract_of_rows c.args.start in
    let piece = c.args.piece.now in
    let some = c.loop-k-test.true in
    let within = c.loop-k.auto.k in
    let rows = c.as_slice-rows.result.now in
    let are = subst (AreResiduals s start piece) (sym c.as_slice-rows.ensures) c.in_ok-rows.ensures in
    residual_ready s start piece rows (c.loop-k.k - 1) c.index-rows-k.result c.requires.ready c.requires.events are (omega (arith, some, within)) c.index-rows-k.is

pub loop-k-preserved : goal.loop-k-preserved
loop-k-preserved c =
    let s = c.args.studied.now in
    let book = book_of s.book in
    let marks = marks_of s in
    let start = contract_of_rows c.args.start in
    let piece = c.args.piece.now in
    let n = c.args.events in
    let k = c.loop-k.k - 1 in
    let some = c.loop-k-test.true in
    let within = c.loop-k.auto.k in
    let rows = c.as_slice-rows.result.now in
    let are = subst (AreResiduals s start piece) (sym c.as_slice-rows.ensures) c.in_ok-rows.ensures in
    let from = way_at c.args.trails.now c.args.way in
    let here = way_at c.loop-k.trails c.loop-k.way in
    let next : c.loop-k.k ≡ c.loop-k.k - 1 + 1 = omega (arith, some) in
    let m = c.loop-k.invariant in
    let g = c.in_ok-way.ensures in record {
      grew = grew_twice m.grew g.grew;
      within = g.within;
      made = backs_step book marks start piece k c.index-piece-k.result (omega (arith, some, within)) (sym c.index-piece-k.is) n
          (contract_of_rows c.index-rows-k.result) (contract_of_rows c.index-rows-k-in-loop-k.result) from here (way_at c.back_over.new.trails c.in_ok-way.way)
          (residual_at s start piece rows k c.index-rows-k.result are (omega (arith, some, within)) c.index-rows-k.is)
          (residual_at s start piece rows (k + 1) c.index-rows-k-in-loop-k.result are (omega (arith, some, within)) c.index-rows-k-in-loop-k.is)
          (subst (λ j. BacksFrom book marks n start piece j from here) next m.made) g.made;
    }
