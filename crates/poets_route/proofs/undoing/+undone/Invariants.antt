use Rattle.std.proofs.Common.{◌+◌, ◌*◌}
use Rattle.poets_syntax.specs.Contract.{contract_of, Par, Plus, Seq}
use Rattle.poets_meaning.specs.Width.{size}
use Rattle.poets_route.proofs.undoing.+undone.Given as goal

abbrev pub decreases-undone : goal.decreases-undone
decreases-undone l = 4 * size (contract_of l.term.now) + 3

abbrev pub decreases-undone_one : goal.decreases-undone_one
decreases-undone_one l = 4 * size (contract_of l.term.now) + 2

abbrev pub decreases-undone_plus : goal.decreases-undone_plus
decreases-undone_plus l = 4 * size (Plus (contract_of l.a.now) (contract_of l.b.now)) + 1

abbrev pub decreases-undone_par : goal.decreases-undone_par
decreases-undone_par l = 4 * size (Par (contract_of l.a.now) (contract_of l.b.now)) + 1

abbrev pub decreases-undone_seq : goal.decreases-undone_seq
decreases-undone_seq l = 4 * size (Seq (contract_of l.a.now) (contract_of l.b.now)) + 1

abbrev pub decreases-undone_over : goal.decreases-undone_over
decreases-undone_over l = 4 * (size (contract_of l.term.now) + size (contract_of l.over.now)) + 3

abbrev pub decreases-undone_both : goal.decreases-undone_both
decreases-undone_both l = 4 * size (Par (contract_of l.a.now) (contract_of l.b.now))

abbrev pub decreases-undone_then : goal.decreases-undone_then
decreases-undone_then l = 4 * size (Seq (contract_of l.a.now) (contract_of l.b.now))
