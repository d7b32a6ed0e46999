use Rattle.std.proofs.Common.{◌≡◌, ◌∙◌, ◌<◌, ap, ap₂, sym, subst, arith, length}
use Rattle.poets_syntax.specs.Contract.{Par}
use Rattle.poets_cons.specs.Table.{contract_at, contract_of_node}
use Rattle.poets_cons.proofs.Standing.{contract_at-later}
use Rattle.poets_norm.specs.Rows.{Enters}
use Rattle.poets_norm.specs.code.Grouping.{beside_parts}
use Rattle.poets_norm.proofs.Grouped.{beside_two}
use Rattle.poets_norm.proofs.joining.+join.Goals as goal

pub returns-in_ok-first-in-Par-clause-stands : goal.returns-in_ok-first-in-Par-clause-stands
returns-in_ok-first-in-Par-clause-stands t c =
    let old = c.args.arena.now in
    let first = c.args.first in
    let a = c.in-Par.a in
    let b = c.in-Par.b in
    let whole : contract_at old c.args.place ≡ Par (contract_at old a) (contract_at old b) =
    c.node.ensures.contract ∙ ap (contract_of_node old) c.in-Par.is in
    let below = rw c.in-Par.is at c.node.ensures.below in
    let within : b < length old = omega (arith, below.1, c.requires.second) in
    let second = contract_at-later old c.join.new.arena c.join.ensures.grows b within in
    subst (Enters c.join-in-Par.new.arena c.join-in-Par.result) (ap₂ beside_parts c.in_ok-first-in-Par.ensures.stands.contract second
    ∙ sym (beside_two (contract_at old first) (contract_at old a) (contract_at old b)) ∙ ap (beside_parts (contract_at old first)) (sym whole))
    c.join-in-Par.ensures.stands
