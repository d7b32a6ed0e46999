use Rattle.poets_expr.specs.Env.{declared_of}
use Rattle.poets_types.proofs.Declaring.{type_in_named, option_or_assoc}
use Rattle.poets_import.proofs.book.declare.Goals as goal

pub loop-name-preserved : goal.loop-name-preserved
loop-name-preserved c = record {
  names = λ x.
      let more = type_in_named c.args.names.now c.loop-name.name-index (record { id = 0 }) c.args.ty x c.loop-name-test.true in
      let kept = c.loop-name.invariant.names x in
      rw (more, ← option_or_assoc (declared_of c.args.decls.now.names x), ← kept) (c.in_ok-enter.ensures.names x);
  order = λ old. c.in_ok-enter.ensures.order (c.loop-name.invariant.order old);
}
