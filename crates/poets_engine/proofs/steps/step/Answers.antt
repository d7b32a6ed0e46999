use Rattle.poets_engine.proofs.Keeping.{kept_rows}
use Rattle.poets_engine.proofs.steps.step.Goals as goal

pub transmit-requires-clause-rows : goal.transmit-requires-clause-rows
transmit-requires-clause-rows g c = kept_rows c.args.rules.now c.args.store.now c.requires.kept

pub end-requires : goal.end-requires
end-requires g c = kept_rows c.args.rules.now c.args.store.now c.requires.kept

pub show-requires : goal.show-requires
show-requires g c = kept_rows c.args.rules.now c.args.store.now c.requires.kept
