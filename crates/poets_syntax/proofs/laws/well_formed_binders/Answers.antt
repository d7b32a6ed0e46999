use Rattle.poets_syntax.proofs.WellFormedness.{BindersAreUndeclared-of}
use Rattle.poets_syntax.proofs.laws.well_formed_binders.Goals as goal

pub returns : goal.returns
returns c = BindersAreUndeclared-of
