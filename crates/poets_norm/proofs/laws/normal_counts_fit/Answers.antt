use Rattle.poets_norm.proofs.Counts.{CountsFit-normal}
use Rattle.poets_norm.proofs.laws.normal_counts_fit.Goals as goal

pub returns : goal.returns
returns c = λ book marks t counts. CountsFit-normal book marks t counts
