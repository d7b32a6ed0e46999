use Rattle.poets_norm.proofs.NoTemplates.{AreRight-without_templates, AreWellFormed-without_templates, CountsFit-without_templates}
use Rattle.poets_norm.proofs.laws.plain_books.Goals as goal

pub returns : goal.returns
returns c = λ declared. (AreRight-without_templates declared, AreWellFormed-without_templates declared, CountsFit-without_templates declared)
