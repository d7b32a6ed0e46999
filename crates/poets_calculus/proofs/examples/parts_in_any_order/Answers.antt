use Rattle.poets_meaning.specs.Between.{Between}
use Rattle.poets_calculus.specs.Alike.{Alike, AreAlike}
use Rattle.poets_calculus.proofs.examples.parts_in_any_order.Goals as goal

pub returns-clause-alike : goal.returns-clause-alike
returns-clause-alike c = Alike.Par
    (AreAlike.One (Alike.Transmit Alike.Success) (Between.Second (Between.First Between.Empty))
    (AreAlike.One (Alike.Transmit Alike.Success) (Between.First Between.Empty) AreAlike.None))
