use Rattle.poets_reread.proofs.Rereading.{texts_are_reread}
use Rattle.poets_reread.proofs.laws.texts_are_reread.Goals as goal

pub returns : goal.returns
returns c = texts_are_reread
