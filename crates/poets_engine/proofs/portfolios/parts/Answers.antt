use Rattle.poets_engine.specs.code.Parts.{IsPart}
use Rattle.poets_engine.proofs.Absent.{all_there}
use Rattle.poets_engine.proofs.Zipped.{AllZip-turn}
use Rattle.poets_engine.proofs.portfolios.parts.Goals as goal

pub part-requires : goal.part-requires
part-requires c = all_there c.args.store.now.rows c.args.names.now c.loop-name.name-index (record { id = 0 }) c.loop-name-test.true c.requires

pub loop-name-preserved : goal.loop-name-preserved
loop-name-preserved c =
    AllZip-turn (IsPart c.args.store.now.rows) c.args.names.now c.loop-name.name-index (record { id = 0 }) c.loop-name.parts.items c.push.new.list.items
    c.in_ok-part.part c.loop-name-test.true c.loop-name.invariant c.in_ok-part.ensures c.in_ok-push.ensures.items
