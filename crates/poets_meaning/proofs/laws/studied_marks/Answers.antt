use Rattle.poets_meaning.proofs.StudiedMarks.{AreRight-studied}
use Rattle.poets_meaning.proofs.laws.studied_marks.Goals as goal

pub returns : goal.returns
returns c = AreRight-studied
