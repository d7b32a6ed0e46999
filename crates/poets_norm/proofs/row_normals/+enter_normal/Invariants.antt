use Rattle.std.proofs.Common.{◌+◌, ◌*◌}
use Rattle.poets_syntax.specs.Contract.{contract_of}
use Rattle.poets_meaning.specs.Width.{size}
use Rattle.poets_norm.proofs.row_normals.+enter_normal.Given as goal

abbrev pub decreases-enter_normal : goal.decreases-enter_normal
decreases-enter_normal g l = 2 * size (contract_of l.term)

abbrev pub decreases-enter_both : goal.decreases-enter_both
decreases-enter_both g l = 2 * (size (contract_of l.a.value) + size (contract_of l.b.value)) + 1

abbrev pub decreases-enter_beside : goal.decreases-enter_beside
decreases-enter_beside g l = 2 * size (contract_of l.term) + 1
