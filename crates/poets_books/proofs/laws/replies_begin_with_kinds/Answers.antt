use Rattle.poets_books.proofs.ReplyKinds.{replies_begin_with_kinds}
use Rattle.poets_books.proofs.laws.replies_begin_with_kinds.Goals as goal

pub returns : goal.returns
returns c = replies_begin_with_kinds
