use Rattle.std.proofs.Common.{◌+◌, ◌*◌}
use Rattle.poets_syntax.specs.Book.{book_of}
use Rattle.poets_syntax.specs.Contract.{Plus, Seq}
use Rattle.poets_meaning.specs.Studied.{marks_of}
use Rattle.poets_meaning.specs.Width.{width}
use Rattle.poets_cons.specs.Table.{contract_at}
use Rattle.poets_residue.proofs.derivation.Derivation.+derive.Given as goal

abbrev pub decreases-derive : goal.decreases-derive
decreases-derive g l =
    4 * width (book_of l.self.now.studied.now.book) (marks_of l.self.now.studied.now) (contract_at l.table.now.arena l.place) + 3

abbrev pub decreases-derive_anew : goal.decreases-derive_anew
decreases-derive_anew g l =
    4 * width (book_of l.self.now.studied.now.book) (marks_of l.self.now.studied.now) (contract_at l.table.now.arena l.place) + 2

abbrev pub decreases-derive_seq : goal.decreases-derive_seq
decreases-derive_seq g l =
    4 * width (book_of l.self.now.studied.now.book) (marks_of l.self.now.studied.now)
    (Seq (contract_at l.table.now.arena l.a) (contract_at l.table.now.arena l.b)) + 1

abbrev pub decreases-derive_both : goal.decreases-derive_both
decreases-derive_both g l =
    4 * width (book_of l.self.now.studied.now.book) (marks_of l.self.now.studied.now)
    (Plus (contract_at l.table.now.arena l.a) (contract_at l.table.now.arena l.b))
