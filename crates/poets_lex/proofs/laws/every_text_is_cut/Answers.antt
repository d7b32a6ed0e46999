use Rattle.poets_lex.proofs.EveryText.{every-text}
use Rattle.poets_lex.proofs.laws.every_text_is_cut.Goals as goal

pub returns : goal.returns
returns c = every-text
