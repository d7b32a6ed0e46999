use Rattle.std.proofs.Common.{ap, Some, None}
use Rattle.poets_report.specs.Keyed.{rows_of}
use Rattle.poets_report.proofs.KeyedRows.{sets_value, sets_undefined, put_row, no_room_at}
use Rattle.poets_report.proofs.keyed.KeyedRows.set.Goals as goal

pub returns-in_default-clause-ok : goal.returns-in_default-clause-ok
returns-in_default-clause-ok c =
    let cells = c.self.inside.cells.entries in
    put_row c.args.key None c.args.cell (rows_of cells c.self.inside.undefined) (rows_of cells c.args.cell) c.args.self.now.rows
    (ap (λ s. s.rows) c.self.view_is) c.in_default.is (sets_undefined c.args.cell cells c.self.inside.undefined c.self.invariant)

pub returns-clause-ok : goal.returns-clause-ok
returns-clause-ok c =
    let cells = c.self.inside.cells.entries in
    let next = c.insert.new.self.entries in
    put_row c.args.key (Some c.in-Some.value) c.args.cell (rows_of cells c.self.inside.undefined) (rows_of next c.self.inside.undefined) c.args.self.now.rows
    (ap (λ s. s.rows) c.self.view_is) c.in-Some.is
    (sets_value c.in-Some.value c.args.cell cells next c.self.inside.undefined c.self.invariant c.insert.ensures.ordered c.in-Ok.ensures.updates.0)

pub returns-in_default-insert-clause-succeeds : goal.returns-in_default-insert-clause-succeeds
returns-in_default-insert-clause-succeeds c = λ h. absurd
    (no_room_at c.args.key c.in-Some.value c.self.inside.cells.entries c.args.self.now.keys c.in-Some.is (ap (λ s. s.keys) c.self.view_is) c.in_default-insert.ensures.absent h)
