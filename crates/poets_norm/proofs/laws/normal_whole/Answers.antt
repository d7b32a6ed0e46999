use Rattle.poets_norm.proofs.WholeNormals.{IsWhole-normal}
use Rattle.poets_norm.proofs.laws.normal_whole.Goals as goal

pub returns : goal.returns
returns c = λ book marks t whole. IsWhole-normal book marks t whole
