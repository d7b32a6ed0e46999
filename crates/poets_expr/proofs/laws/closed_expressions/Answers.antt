use Rattle.poets_expr.proofs.FoldClosed.{is_closed-free_names}
use Rattle.poets_expr.proofs.laws.closed_expressions.Goals as goal

pub returns : goal.returns
returns c = is_closed-free_names
