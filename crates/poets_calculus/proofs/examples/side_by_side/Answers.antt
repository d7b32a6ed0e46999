use Rattle.std.proofs.Common.{refl}
use Rattle.poets_meaning.specs.Between.{Between}
use Rattle.poets_meaning.specs.May.{May}
use Rattle.poets_calculus.proofs.examples.side_by_side.Goals as goal

pub returns-clause-granted : goal.returns-clause-granted
returns-clause-granted c =
    May.Beside (Between.Second Between.Empty) refl (May.Granted May.Done) (May.Taken refl (May.Granted May.Done))
