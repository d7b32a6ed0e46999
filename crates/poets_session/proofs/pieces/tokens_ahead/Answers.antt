use Rattle.std.proofs.Common.{sym}
use Rattle.poets_session.proofs.Cutting.{no_end_next, ahead_at, after_at, never_ahead, cut_at, never_cut}
use Rattle.poets_session.proofs.pieces.tokens_ahead.Goals as goal

pub loop-place-init : goal.loop-place-init
loop-place-init c = tt

pub loop-place-preserved : goal.loop-place-preserved
loop-place-preserved c =
    no_end_next c.args.tokens.now c.loop-place.place c.index-tokens-place.result c.loop-place-test.true c.index-tokens-place.is c.loop-place.invariant (sym c.if-is_end.ensures)

pub returns-then-is_end-clause-found : goal.returns-then-is_end-clause-found
returns-then-is_end-clause-found c = (
  c.loop-place-test.true,
  ahead_at c.args.tokens.now c.loop-place.place c.index-tokens-place.result c.loop-place-test.true c.index-tokens-place.is c.loop-place.invariant (sym c.if-is_end.ensures),
  after_at c.args.tokens.now c.loop-place.place c.index-tokens-place.result c.loop-place-test.true c.index-tokens-place.is c.loop-place.invariant (sym c.if-is_end.ensures),
)

pub returns-then-is_end-clause-cut : goal.returns-then-is_end-clause-cut
returns-then-is_end-clause-cut c =
    cut_at c.args.tokens.now c.loop-place.place c.index-tokens-place.result c.loop-place-test.true c.index-tokens-place.is c.loop-place.invariant (sym c.if-is_end.ensures)

pub returns-clause-none : goal.returns-clause-none
returns-clause-none c = never_ahead c.args.tokens.now c.loop-place.place c.loop-place-test.false c.loop-place.invariant

pub returns-clause-whole : goal.returns-clause-whole
returns-clause-whole c = never_cut c.args.tokens.now c.loop-place.place c.loop-place-test.false c.loop-place.invariant
