use Rattle.poets_expr.proofs.ValSubst.{val-subst_pairs, val-subst_alone, val-literal_undeclared}
use Rattle.poets_expr.proofs.laws.values_of_replaced.Goals as goal

pub returns-clause-under : goal.returns-clause-under
returns-clause-under c = val-subst_pairs

pub returns-clause-alone : goal.returns-clause-alone
returns-clause-alone c = val-subst_alone

pub returns-clause-literal : goal.returns-clause-literal
returns-clause-literal c = val-literal_undeclared
