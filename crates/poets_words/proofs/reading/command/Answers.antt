use Rattle.std.proofs.Common.{rules}
use Rattle.std.proofs.lemmas.Result.{IfOk-weaker}
use Rattle.clap.specs.Words.{app_of}
use Rattle.poets_words.proofs.PlainWords.{finds_plain_words}
use Rattle.poets_words.proofs.reading.command.Goals as goal

pub returns : goal.returns
returns c = IfOk-weaker _ _ _ (λ made. finds_plain_words (app_of made)) (search rules)
