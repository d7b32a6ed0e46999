use Rattle.std.proofs.Common.{sym}
use Rattle.poets_mark.proofs.Named.{named_at, lacks_none, lacks_next, lacks_all}
use Rattle.poets_mark.proofs.naming.first_of.Goals as goal

pub loop-place-init : goal.loop-place-init
loop-place-init c = lacks_none c.args.name

pub loop-place-preserved : goal.loop-place-preserved
loop-place-preserved c =
    lacks_next c.args.tokens.now c.args.name c.loop-place.place c.index-tokens-place.result c.loop-place-test.true c.index-tokens-place.is c.loop-place.invariant (sym c.if-is_name.ensures)

pub returns-then-is_name-clause-found : goal.returns-then-is_name-clause-found
returns-then-is_name-clause-found c =
    named_at c.args.tokens.now c.args.name c.loop-place.place c.index-tokens-place.result c.loop-place-test.true c.index-tokens-place.is (sym c.if-is_name.ensures)

pub returns-clause-none : goal.returns-clause-none
returns-clause-none c = lacks_all c.args.tokens.now c.args.name c.loop-place.place c.loop-place-test.false c.loop-place.invariant
