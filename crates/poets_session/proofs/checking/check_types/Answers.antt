use Rattle.std.proofs.Common.{sym, subst}
use Rattle.poets_command.specs.Statements.{statements_of}
use Rattle.poets_session.specs.code.Checking.{IsTypeRefusal}
use Rattle.poets_session.specs.Causes.{IsCauseOf}
use Rattle.poets_session.proofs.Typing.{type_told}
use Rattle.poets_session.proofs.checking.check_types.Goals as goal

pub returns-in-Err-clause-fault : goal.returns-in-Err-clause-fault
returns-in-Err-clause-fault c =
    let statements = statements_of c.args.statements.now in
    subst (IsCauseOf (IsTypeRefusal statements)) (sym c.cause_of.ensures) (type_told statements c.in-Err.fault c.in-Err.ensures.fault)
