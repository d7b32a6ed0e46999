use Rattle.std.proofs.Common.{◌≡◌, drop}
use Rattle.poets_engine.specs.code.Parts.{absent_from}
use Rattle.poets_engine.proofs.portfolios.first_absent.Given as goal

abbrev pub invariant-loop-name : goal.invariant-loop-name
invariant-loop-name l = absent_from l.store.rows l.names ≡ absent_from l.store.rows (drop l.name-index l.names)
