use Rattle.std.proofs.Common.{arith}
use Rattle.std.proofs.lemmas.Int.{ints}
use Rattle.poets_demo.specs.Line.{is_ended, is_recorded, is_refused, is_registered}
use Rattle.poets_demo.proofs.Histories.{count_more, paid_more}
use Rattle.poets_demo.proofs.line.sums_of.Goals as goal

pub loop-entry-preserved : goal.loop-entry-preserved
loop-entry-preserved c =
    let before = c.loop-entry.invariant in
    let after = c.add.ensures in
    record {
      registered = count_more is_registered c.args.entries.now c.loop-entry.entry-index _ _ c.entry-item.result c.loop-entry-test.true c.entry-item.is before.registered after.registered;
      recorded = count_more is_recorded c.args.entries.now c.loop-entry.entry-index _ _ c.entry-item.result c.loop-entry-test.true c.entry-item.is before.recorded after.recorded;
      ended = count_more is_ended c.args.entries.now c.loop-entry.entry-index _ _ c.entry-item.result c.loop-entry-test.true c.entry-item.is before.ended after.ended;
      refused = count_more is_refused c.args.entries.now c.loop-entry.entry-index _ _ c.entry-item.result c.loop-entry-test.true c.entry-item.is before.refused after.refused;
      paid = paid_more c.args.entries.now c.loop-entry.entry-index _ _ c.entry-item.result c.loop-entry-test.true c.entry-item.is before.paid after.paid;
      least = omega (arith, ints);
      greatest = omega (arith, ints);
    }
