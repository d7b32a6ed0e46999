use Rattle.std.proofs.Common.{take}
use Rattle.std.specs.List.{AllZip}
use Rattle.poets_engine.specs.code.Parts.{IsPart}
use Rattle.poets_engine.proofs.portfolios.parts.Given as goal

abbrev pub invariant-loop-name : goal.invariant-loop-name
invariant-loop-name l = AllZip (IsPart l.store.rows) (take l.name-index l.names) l.parts.items
