use Rattle.poets_import.proofs.OnlyDocument.{one_document}
use Rattle.poets_import.proofs.laws.one_document.Goals as goal

pub returns : goal.returns
returns c = one_document
