use Rattle.std.proofs.Common.{map, sym, subst}
use Rattle.poets_command.specs.Plain.{Reply}
use Rattle.poets_command.specs.Calls.{folio_row_of}
use Rattle.poets_engine.specs.State.{Fulfils}
use Rattle.poets_engine.proofs.Folios.{folio_fulfils}
use Rattle.poets_engine.proofs.engine.Engine.finish.Goals as goal

pub returns-in_ok-finish-in-Folio : goal.returns-in_ok-finish-in-Folio
returns-in_ok-finish-in-Folio g c =
    let folio = c.in_ok-finish-in-Folio.field-0 in
    subst (λ b. Fulfils (record { place = c.args.kept.place; body = b }) (Reply.Folio (map folio_row_of folio.rows.items) folio.total)) (sym c.in-Folio.is)
    (folio_fulfils c.args.kept.place c.in-Folio.work folio.rows.items folio.total (rw c.in-Folio.is at c.in_ok-finish-in-Folio.ensures.rows)
    (rw c.in-Folio.is at c.in_ok-finish-in-Folio.ensures.total))
