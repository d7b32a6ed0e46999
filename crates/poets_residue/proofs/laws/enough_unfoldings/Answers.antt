use Rattle.poets_syntax.specs.Contract.{App}
use Rattle.poets_residue.proofs.Ready.{ready-at_least, ready-unfolded}
use Rattle.poets_residue.proofs.laws.enough_unfoldings.Goals as goal

pub returns-clause-at_least : goal.returns-clause-at_least
returns-clause-at_least c = λ d book marks t right guarded bodies fits more. ready-at_least book marks right guarded bodies t fits d more

pub returns-clause-unfolds : goal.returns-clause-unfolds
returns-clause-unfolds c = λ book marks t right guarded bodies fits. ready-unfolded book marks right guarded bodies t fits

pub returns-clause-application : goal.returns-clause-application
returns-clause-application c = λ book marks f args right guarded bodies fits. ready-unfolded book marks right guarded bodies (App f args) fits
