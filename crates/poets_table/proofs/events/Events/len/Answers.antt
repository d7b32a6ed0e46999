use Rattle.std.proofs.Common.{◌∙◌, ap, arith, length}
use Rattle.poets_table.specs.Pieces.{joined, pieces_of}
use Rattle.poets_table.proofs.Pieces.{joined-short, length-joined-push, length-pieces_of}
use Rattle.poets_table.proofs.events.Events.len.Goals as goal

pub overflow_add-result : goal.overflow_add-result
overflow_add-result c =
    let sealed = c.self.inside.sealed.items in
    let most = joined-short (pieces_of sealed) c.self.invariant.0.1 in
    let count = length-pieces_of sealed in
    let few = c.self.invariant.0.0 in
    let ahead = c.self.invariant.1 in
    let short = c.self.invariant.2 in
    let last = c.len.ensures in
    omega (arith, most, count, few, ahead, short, last)

pub returns-clause-count : goal.returns-clause-count
returns-clause-count c =
    let whole = length-joined-push (pieces_of c.self.inside.sealed.items) c.self.inside.last.items in
    let ahead = c.self.invariant.1 in
    let last = c.len.ensures in
    omega (arith, whole, ahead, last) ∙ ap (λ e. length (joined e.pieces)) c.self.view_is

pub returns-clause-small : goal.returns-clause-small
returns-clause-small c =
    let sealed = c.self.inside.sealed.items in
    let most = joined-short (pieces_of sealed) c.self.invariant.0.1 in
    let count = length-pieces_of sealed in
    let few = c.self.invariant.0.0 in
    let ahead = c.self.invariant.1 in
    let short = c.self.invariant.2 in
    let last = c.len.ensures in
    omega (arith, most, count, few, ahead, short, last)
