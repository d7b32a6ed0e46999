use Rattle.poets_calculus.specs.Residual.{after_at}
use Rattle.poets_norm.proofs.NormalForms.{normal_of_built, built_of_normal}
use Rattle.poets_residue.proofs.Kept.{IsWellFormed-after_at, CountsFit-after_at, built-after_at}
use Rattle.poets_residue.proofs.Relation.{IsWellFormed-After}
use Rattle.poets_residue.proofs.WholeResiduals.{IsWhole-after_at}
use Rattle.poets_residue.proofs.laws.residual_well_formed.Goals as goal

pub returns-clause-formed : goal.returns-clause-formed
returns-clause-formed c = λ book marks e t r formed declared h after. IsWellFormed-After book marks formed e declared after h

pub returns-clause-formed_at : goal.returns-clause-formed_at
returns-clause-formed_at c = λ d book marks e t formed declared h. IsWellFormed-after_at book marks formed e declared d t h

pub returns-clause-fit_at : goal.returns-clause-fit_at
returns-clause-fit_at c = λ d book marks e t fit h. CountsFit-after_at book marks fit e d t h

pub returns-clause-normal_at : goal.returns-clause-normal_at
returns-clause-normal_at c = λ d book marks e t h.
    normal_of_built book marks (after_at d book marks e t) (built-after_at book marks e d t (built_of_normal book marks t h))

pub returns-clause-whole_at : goal.returns-clause-whole_at
returns-clause-whole_at c = λ d book marks e t bodies event h. IsWhole-after_at book marks bodies e event d t h
