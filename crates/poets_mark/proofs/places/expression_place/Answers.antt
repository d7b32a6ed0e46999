use Rattle.std.proofs.Common.{sym, subst}
use Rattle.poets_grammar.specs.Tokens.{AreNatural}
use Rattle.poets_grammar.proofs.Lexed.{read_natural}
use Rattle.poets_mark.proofs.places.expression_place.Goals as goal

pub all_said-requires : goal.all_said-requires
all_said-requires c = subst AreNatural (sym c.as_slice-2.ensures) (read_natural c.in-Ok.ensures.ok)
