use Rattle.std.proofs.Common.{sym}
use Rattle.poets_expr.specs.Expression.{expression_of}
use Rattle.poets_grammar.specs.Reading.{expression}
use Rattle.poets_parse.proofs.Lists.{listing_ends, listing_next, map_of_pushed}
use Rattle.poets_parse.proofs.list.some_arguments.Goals as goal

pub returns-in_default-clause-gives : goal.returns-in_default-clause-gives
returns-in_default-clause-gives c =
    let l = c.loop-args.invariant in
    rw (map_of_pushed expression_of _ _ _ c.in_ok-push.ensures.items)
    (listing_ends expression l.turns _ _ _ c.in_ok-arg.behind.now _ l.same l.enough c.in_ok-arg.ensures.shorter c.in_ok-arg.ensures.gives (sym c.in_default.ensures.found))

pub loop-args-preserved : goal.loop-args-preserved
loop-args-preserved c =
    listing_next expression (expression_of c.in_ok-arg.arg) c.in_ok-arg.behind.now c.in-Some.next.now c.loop-args.invariant c.in_ok-arg.ensures.gives c.in_ok-arg.ensures.shorter
    (map_of_pushed expression_of _ _ _ c.in_ok-push.ensures.items) (sym c.in-Some.ensures.found) c.in-Some.ensures.shorter
