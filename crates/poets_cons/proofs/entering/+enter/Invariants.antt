use Rattle.std.proofs.Common.{◌+◌, ◌*◌}
use Rattle.poets_syntax.specs.Contract.{contract_of}
use Rattle.poets_meaning.specs.Width.{size}
use Rattle.poets_cons.proofs.entering.+enter.Given as goal

abbrev pub decreases-enter : goal.decreases-enter
decreases-enter l = 2 * size (contract_of l.term.now)

abbrev pub decreases-enter_both : goal.decreases-enter_both
decreases-enter_both l = 2 * (size (contract_of l.a.now) + size (contract_of l.b.now)) + 1
