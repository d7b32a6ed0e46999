use Rattle.std.proofs.Common.{sym, subst}
use Rattle.poets_grammar.specs.Tokens.{AreNatural}
use Rattle.poets_mark.proofs.naming.last_needed.Goals as goal

pub fault_stays-requires : goal.fault_stays-requires
fault_stays-requires c = subst AreNatural (sym c.as_slice.ensures) c.in_ok-tried.ensures
