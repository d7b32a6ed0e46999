use Rattle.std.proofs.Common.{refl, sym}
use Rattle.poets_engine.proofs.Folios.{row_named}
use Rattle.poets_engine.proofs.portfolios.part.Goals as goal

pub returns : goal.returns
returns c =
    let there = row_named c.args.name c.args.store.now.rows c.in-Some.number (sym c.in-Some.ensures) in
    record {
      name = refl;
      number = c.in-Some.number;
      row = there.0;
      found = sym c.in-Some.ensures;
      here = there.1;
      events = c.in_ok-events.ensures there.0 there.1;
    }
