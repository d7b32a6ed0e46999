use Rattle.poets_exchange.proofs.Documents.{exported_are_documents}
use Rattle.poets_exchange.proofs.laws.exported_are_documents.Goals as goal

pub returns : goal.returns
returns c = exported_are_documents
