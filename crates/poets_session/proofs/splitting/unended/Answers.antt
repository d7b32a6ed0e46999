use Rattle.std.proofs.Common.{refl}
use Rattle.poets_grammar.specs.Tokens.{toks}
use Rattle.poets_session.proofs.Saying.{unended_deep, unended_none}
use Rattle.poets_session.proofs.splitting.unended.Goals as goal

pub returns-then-is_too_deep : goal.returns-then-is_too_deep
returns-then-is_too_deep c = unended_deep (toks c.args.tokens.now) (c.if-is_too_deep.ensures.0 refl)

pub returns-else-is_too_deep : goal.returns-else-is_too_deep
returns-else-is_too_deep c = unended_none (toks c.args.tokens.now) (λ h. let e = c.if-is_too_deep.ensures.1 h in absurd cc)
