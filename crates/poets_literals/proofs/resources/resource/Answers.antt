use Rattle.poets_expr.specs.Env.{declared_of}
use Rattle.poets_literals.proofs.TextsInBrackets.{none_gives}
use Rattle.poets_literals.proofs.ResourceTexts.{no_amount, no_kind}
use Rattle.poets_literals.proofs.resources.resource.Goals as goal

pub returns-in_err-amount-2-clause-none : goal.returns-in_err-amount-2-clause-none
returns-in_err-amount-2-clause-none c =
    let p = c.in_ok-amount in
    none_gives c.from_residual-in_err-amount-2.result
    (no_amount c.args.names.now (declared_of c.args.decls.now.names) c.args.text.now p.amount.now p.kind.now
    p.ensures.found.0 p.ensures.found.1 c.in_err-amount-2.ensures.none)

pub returns-in_err-kind-clause-none : goal.returns-in_err-kind-clause-none
returns-in_err-kind-clause-none c =
    let p = c.in_ok-amount in
    none_gives c.from_residual-in_err-kind.result
    (no_kind c.args.names.now (declared_of c.args.decls.now.names) c.args.text.now p.amount.now p.kind.now
    p.ensures.found.0 p.ensures.found.1 c.in_err-kind.ensures.none)
