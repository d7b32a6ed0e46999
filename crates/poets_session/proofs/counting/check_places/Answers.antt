use Rattle.std.proofs.Common.{refl, arith, take}
use Rattle.poets_command.specs.Statements.{statements_of}
use Rattle.poets_session.proofs.Limits.{limits_nothing}
use Rattle.poets_session.proofs.Placing.{placed_more, misplaced, too_many, at_end, journal_missing}
use Rattle.poets_session.proofs.counting.check_places.Goals as goal

pub loop-place-init : goal.loop-place-init
loop-place-init c = (
  record {
    after = refl;
    limits = limits_nothing;
    counting = record { clerks = refl; templates = refl; reports = refl; commands = refl };
  },
  omega arith,
  omega arith,
  omega arith,
  omega arith,
)

pub returns-in_default-clause-out : goal.returns-in_default-clause-out
returns-in_default-clause-out c =
    misplaced c.args.form c.loop-place.part c.loop-place.counts c.args.statements.now c.loop-place.place c.index-statements-place.result
    c.loop-place-test.true c.index-statements-place.is c.loop-place.invariant.0 c.in_default.ensures

pub with-requires : goal.with-requires
with-requires c = let i = c.loop-place.invariant in (i.1, i.2, i.3, i.4)

pub returns-in_default-with-clause-out : goal.returns-in_default-with-clause-out
returns-in_default-with-clause-out c =
    let l = c.args.statements.now in let i = c.loop-place.place in let p = c.loop-place.invariant.0 in
    too_many c.args.form c.loop-place.part c.in-Some.next c.loop-place.counts l i c.index-statements-place.result c.loop-place-test.true
    c.index-statements-place.is p c.in-Some.ensures (c.in_default-with.ensures.many (statements_of (take i l)) p.counting)

pub loop-place-preserved : goal.loop-place-preserved
loop-place-preserved c =
    let l = c.args.statements.now in let i = c.loop-place.place in let p = c.loop-place.invariant.0 in let before = statements_of (take i l) in
    let b = c.in-Some-with.ensures.bound in (
      placed_more c.args.form c.loop-place.part c.in-Some.next c.loop-place.counts c.in-Some-with.more l i c.index-statements-place.result
          c.loop-place-test.true c.index-statements-place.is p c.in-Some.ensures (c.in-Some-with.ensures.few before p.counting)
          (c.in-Some-with.ensures.counted before p.counting),
      b.0,
      b.1,
      b.2,
      b.3,
    )

pub returns-then-lacks_journal-clause-out : goal.returns-then-lacks_journal-clause-out
returns-then-lacks_journal-clause-out c =
    journal_missing c.args.form c.loop-place.part c.loop-place.counts c.args.statements.now c.loop-place.place c.loop-place-test.false
    c.loop-place.invariant.0 (rw c.if-lacks_journal.true at c.lacks_journal.ensures)

pub returns-clause-placed : goal.returns-clause-placed
returns-clause-placed c =
    at_end c.args.form c.loop-place.part c.loop-place.counts c.args.statements.now c.loop-place.place c.loop-place-test.false
    c.loop-place.invariant.0 (rw c.if-lacks_journal.false at c.lacks_journal.ensures)
