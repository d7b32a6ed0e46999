use Rattle.std.proofs.Common.{◌++◌, ◌∷◌, [], ◌∙◌, ap, length, map}
use Rattle.std.specs.Arc.{arc_value}
use Rattle.std.proofs.lemmas.List.{map_push}
use Rattle.poets_table.specs.Pieces.{joined, starts_of}
use Rattle.poets_table.specs.TableView.{row_view, values_of}
use Rattle.poets_table.proofs.Pieces.{joined-next, starts-next}
use Rattle.poets_table.proofs.rows.begin_piece.Goals as goal

pub returns-clause-ok : goal.returns-clause-ok
returns-clause-ok g c =
    let r = row_view c.args.row.now in
    let old = c.args.row.now in
    let next = c.in_ok-begin_piece.ensures.pieces in
    let point = c.in_ok-point.point in
    let events = ap joined next ∙ joined-next old.events.pieces in
    let starts = ap starts_of next ∙ starts-next old.events.pieces in
    let points =
    ap (map arc_value) (c.in-Ok.ensures.ok ∙ ap (λ items. items ++ point ∷ []) c.in_ok-reserve.ensures.items)
    ∙ map_push arc_value old.points.items point ∙ ap (λ v. values_of old.points ++ v ∷ []) c.in_ok-point.ensures in
    ap (λ es. record r { events = es; starts = starts_of c.begin_piece.new.self.pieces; points = values_of c.push.new.self }) events
    ∙ ap (λ ns. record r { starts = ns; points = values_of c.push.new.self }) starts
    ∙ ap (λ ps. record r { starts = r.starts ++ length r.events ∷ []; points = ps }) points
