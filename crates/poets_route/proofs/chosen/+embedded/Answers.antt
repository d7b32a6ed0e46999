use Rattle.std.proofs.Common.{ap}
use Rattle.poets_syntax.specs.Contract.{contract_of}
use Rattle.poets_way.specs.Trails.{way_at}
use Rattle.poets_way.specs.declared.node.Node.TheVariants as N
use Rattle.poets_route.specs.code.Choices.{Embeds}
use Rattle.poets_route.proofs.Choices.{embeds_front, embeds_last, refused}
use Rattle.poets_route.proofs.Made.{node_made}
use Rattle.poets_route.proofs.chosen.+embedded.Goals as goal

pub returns-then-has : goal.returns-then-has
returns-then-has t c =
    let old = c.args.trails.now in
    let whole = contract_of c.args.choice.now in
    let wanted = contract_of c.args.goal.now in
    let from = way_at old c.args.way in
    let m = c.in_ok-part.ensures in
    node_made old c.embedded.new.trails c.right.new.self c.right.result (N.Right c.in_ok-part.part) (Embeds whole wanted from) m.grew c.right.ensures.number c.right.ensures.ok
    (embeds_last whole (contract_of c.in-Plus.front.value) (contract_of c.in-Plus.last.value) (contract_of c.deref.result.now)
    (ap contract_of c.in-Plus.is) (ap contract_of c.deref.ensures) (contract_of c.deref-then-has.result.now) wanted from
    (way_at c.embedded.new.trails c.in_ok-part.part) (ap contract_of c.deref-then-has.ensures) (c.has.ensures.0 c.if-has.true) m.made)

pub returns : goal.returns
returns t c =
    let old = c.args.trails.now in
    let whole = contract_of c.args.choice.now in
    let wanted = contract_of c.args.goal.now in
    let from = way_at old c.args.way in
    let m = c.in_ok-part-2.ensures in
    node_made old c.embedded-2.new.trails c.left.new.self c.left.result (N.Left c.in_ok-part-2.part) (Embeds whole wanted from) m.grew c.left.ensures.number c.left.ensures.ok
    (embeds_front whole (contract_of c.in-Plus.front.value) (contract_of c.in-Plus.last.value) (contract_of c.deref.result.now)
    (ap contract_of c.in-Plus.is) (ap contract_of c.deref.ensures) (contract_of c.deref-2.result.now) wanted from
    (way_at c.embedded-2.new.trails c.in_ok-part-2.part) (ap contract_of c.deref-2.ensures) (refused c.has.result c.has.ensures c.if-has.false) m.made)
