use Rattle.poets_lex.proofs.OneWay.{one-reading}
use Rattle.poets_lex.proofs.laws.one_reading.Goals as goal

pub returns : goal.returns
returns c = one-reading
