use Rattle.poets_expr.proofs.ValSubst.{KeepsDeclared-undeclared}
use Rattle.poets_expr.proofs.laws.declared_names_kept.Goals as goal

pub returns : goal.returns
returns c = KeepsDeclared-undeclared
