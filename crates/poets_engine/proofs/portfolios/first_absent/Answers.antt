use Rattle.std.proofs.Common.{sym, ◌∙◌}
use Rattle.poets_engine.proofs.Absent.{absent_later, absent_here}
use Rattle.poets_engine.proofs.portfolios.first_absent.Goals as goal

pub loop-name-preserved : goal.loop-name-preserved
loop-name-preserved c =
    c.loop-name.invariant
    ∙ absent_later c.args.store.now.rows c.args.names.now c.loop-name.name-index (record { id = 0 }) c.in-Some.field-0 c.loop-name-test.true c.in-Some.ensures

pub returns-in_default : goal.returns-in_default
returns-in_default c =
    sym (c.loop-name.invariant ∙ absent_here c.args.store.now.rows c.args.names.now c.loop-name.name-index (record { id = 0 }) c.loop-name-test.true c.in_default.ensures)
