use Rattle.poets_table.proofs.Logs.{less-at-place, pair-at-place}
use Rattle.poets_table.proofs.laws.pair_of_event.Goals as goal

pub returns-clause-pair : goal.returns-clause-pair
returns-clause-pair c = pair-at-place

pub returns-clause-same : goal.returns-clause-same
returns-clause-same c = λ n k log h. (less-at-place n k log h).same

pub returns-clause-others : goal.returns-clause-others
returns-clause-others c = λ n k m log h other. (less-at-place n k log h).other m other
