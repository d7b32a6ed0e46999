use Rattle.std.proofs.Common.{◌+◌, ◌-◌, ap, ◌∙◌}
use Rattle.poets_mark.specs.Places.{statement_tokens}
use Rattle.poets_mark.proofs.Placing.{one_on}
use Rattle.poets_mark.proofs.pieces.from_statement.Goals as goal

pub loop-preserved : goal.loop-preserved
loop-preserved c =
    ap (statement_tokens (c.args.number - (c.loop.counter + 1))) c.after_end-rest.ensures
    ∙ one_on c.args.number c.loop.counter c.loop.rest.now c.loop-test.true
    ∙ c.loop.invariant
