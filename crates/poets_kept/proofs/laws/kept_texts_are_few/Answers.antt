use Rattle.poets_kept.proofs.Fewness.{kept_texts_few}
use Rattle.poets_kept.proofs.laws.kept_texts_are_few.Goals as goal

pub returns : goal.returns
returns c = kept_texts_few
