use Rattle.std.proofs.Common.{sym}
use Rattle.poets_mark.proofs.Named.{named_at}
use Rattle.poets_mark.proofs.naming.place_or_first.Goals as goal

pub returns-then-is_name-clause-found : goal.returns-then-is_name-clause-found
returns-then-is_name-clause-found c =
    named_at c.args.tokens.now c.args.name c.args.place c.index-tokens-place.result c.requires.place c.index-tokens-place.is (sym c.if-is_name.ensures)
