use Rattle.std.proofs.Common.{◌≡◌, ◌-◌, ◌<◌, ◌∙◌, Some, ap, arith, length, map, slice_get, subst, sym}
use Rattle.poets_table.specs.TableView.{events_with, place_in_log, row_view}
use Rattle.poets_table.proofs.Logs.{events-at}
use Rattle.poets_table.proofs.table.Table.log_place.Goals as goal

pub overflow_sub-count : goal.overflow_sub-count
overflow_sub-count g c =
    let within = c.requires.place (row_view c.row.result.now) c.row.ensures in
    let count = c.len-count.ensures.count in
    omega (arith, within, count)

pub overflow_sub-count-2 : goal.overflow_sub-count-2
overflow_sub-count-2 g c =
    let within = c.requires.place (row_view c.row.result.now) c.row.ensures in
    let count = c.len-count.ensures.count in
    omega (arith, within, count)

pub pair_place-requires : goal.pair_place-requires
pair_place-requires g c =
    let n = c.args.number in
    let r = row_view c.row.result.now in
    let within = c.requires.place r c.row.ensures in
    let count = c.len-count.ensures.count in
    let at = subst (λ t. slice_get t.rows (n - 1) ≡ Some r) (sym c.self.view_is) c.row.ensures in
    let len = ap length (events-at n (map row_view c.self.inside.rows.items) c.self.inside.log.items r c.requires.live.0 c.self.invariant.2 at) in
    subst (λ log. c.len-count.result - 1 - c.args.place < length (events_with n log)) (sym c.as_slice.ensures) (omega (arith, within, count, len))

pub returns : goal.returns
returns g c =
    let n = c.args.number in
    let log = c.self.inside.log.items in
    let r = row_view c.row.result.now in
    let within = c.requires.place r c.row.ensures in
    let count = c.len-count.ensures.count in
    let at = subst (λ t. slice_get t.rows (n - 1) ≡ Some r) (sym c.self.view_is) c.row.ensures in
    let len = ap length (events-at n (map row_view c.self.inside.rows.items) log r c.requires.live.0 c.self.invariant.2 at) in
    let place : length (events_with n log) - 1 - (c.len-count.result - 1 - c.args.place) ≡ c.args.place = omega (arith, within, count, len) in
    c.pair_place.ensures
    ∙ ap (λ log. place_in_log n (length (events_with n log) - 1 - (c.len-count.result - 1 - c.args.place)) log) c.as_slice.ensures
    ∙ ap (λ k. place_in_log n k log) place ∙ ap (λ t. place_in_log n c.args.place t.log) c.self.view_is
