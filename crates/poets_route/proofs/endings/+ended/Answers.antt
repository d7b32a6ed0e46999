use Rattle.std.proofs.Common.{rules, ◌<◌, sym, ap, map, arith}
use Rattle.poets_expr.specs.Expression.{expression_of}
use Rattle.poets_syntax.specs.Book.{book_of, template_of}
use Rattle.poets_syntax.specs.Contract.{contract_of}
use Rattle.poets_meaning.specs.Studied.{marks_of}
use Rattle.poets_meaning.specs.Width.{width}
use Rattle.poets_residue.proofs.Widths.{width-plus}
use Rattle.poets_way.specs.Trails.{way_at, sides_at}
use Rattle.poets_way.specs.declared.node.Node.TheVariants as N
use Rattle.poets_route.specs.code.Undone.{Ends, EndsIn}
use Rattle.poets_route.proofs.Choices.{refused}
use Rattle.poets_route.proofs.Ends.{ends_first, ends_last, ends_body, body_narrower, ends-nothing, ends-left, ends-right, ends-both, ends-then, ends-enter}
use Rattle.poets_route.proofs.Made.{node_made, made_later, grew_not}
use Rattle.poets_route.proofs.endings.+ended.Goals as goal

pub ended-requires : goal.ended-requires
ended-requires t c =
    let book = book_of c.args.studied.now.book in
    let marks = marks_of c.args.studied.now in
    let whole = ap contract_of c.in-Plus.is in
    let a = contract_of c.in-Plus.a.value in
    let b = contract_of c.in-Plus.b.value in
    let part = contract_of c.deref-then-may_end.result.now in
    let first = ap contract_of c.deref-then-may_end.ensures in
    let here = ends_first book marks (contract_of c.args.term.now) a b (contract_of c.deref.result.now) part whole (ap contract_of c.deref.ensures) first
    c.requires.formed (c.may_end.ensures.0 c.if-may_end.true) in
    let smaller : width book marks part < width book marks (contract_of c.args.term.now) =
    omega (arith, ap (width book marks) first, ap (width book marks) whole, width-plus book marks a b) in
    (search (rules, smaller), (here.0, here.1))

pub returns-then-may_end : goal.returns-then-may_end
returns-then-may_end t c =
    let m = c.in_ok-part-in-Plus.ensures in
    node_made c.args.trails.now c.ended.new.trails c.left.new.self c.left.result (N.Left c.in_ok-part-in-Plus.part)
    (EndsIn c.args.studied.now (contract_of c.args.term.now)) m.grew c.left.ensures.number c.left.ensures.ok
    (ends-left (book_of c.args.studied.now.book) (marks_of c.args.studied.now) (contract_of c.args.term.now) (contract_of c.in-Plus.a.value) (contract_of c.in-Plus.b.value)
    (contract_of c.deref-then-may_end.result.now) (way_at c.ended.new.trails c.in_ok-part-in-Plus.part) (ap contract_of c.in-Plus.is) (ap contract_of c.deref-then-may_end.ensures) m.made)

pub ended-requires-in-Plus : goal.ended-requires-in-Plus
ended-requires-in-Plus t c =
    let book = book_of c.args.studied.now.book in
    let marks = marks_of c.args.studied.now in
    let whole = ap contract_of c.in-Plus.is in
    let a = contract_of c.in-Plus.a.value in
    let b = contract_of c.in-Plus.b.value in
    let part = contract_of c.deref-in-Plus.result.now in
    let last = ap contract_of c.deref-in-Plus.ensures in
    let here = ends_last book marks (contract_of c.args.term.now) a b (contract_of c.deref.result.now) part whole (ap contract_of c.deref.ensures) last
    c.requires.formed c.requires.ends (refused c.may_end.result c.may_end.ensures c.if-may_end.false) in
    let smaller : width book marks part < width book marks (contract_of c.args.term.now) =
    omega (arith, ap (width book marks) last, ap (width book marks) whole, width-plus book marks a b) in
    (search (rules, smaller), (here.0, here.1))

pub ended-requires-in-App : goal.ended-requires-in-App
ended-requires-in-App t c =
    let book = book_of c.args.studied.now.book in
    let marks = marks_of c.args.studied.now in
    let whole = ap contract_of c.in-App.is in
    let template = template_of c.in-Some.template.now in
    let args = map expression_of c.in-App.args.items in
    let q = sym c.in-Some.ensures.template in
    let here = ends_body book marks (contract_of c.args.term.now) c.in-App.name args template whole q c.requires.formed c.requires.ends in
    let smaller : width book marks template.body < width book marks (contract_of c.args.term.now) =
    body_narrower book marks (contract_of c.args.term.now) c.in-App.name args template whole q c.requires.formed in
    (search (rules, smaller), (here.0, here.1))

pub returns-in-Success : goal.returns-in-Success
returns-in-Success t c =
    let whole = ap contract_of c.in-Success.is in
    node_made c.args.trails.now c.args.trails.now c.nothing.new.self c.nothing.result N.Nothing
    (EndsIn c.args.studied.now (contract_of c.args.term.now)) (grew_not c.args.trails.now) c.nothing.ensures.number c.nothing.ensures.ok
    (ends-nothing (book_of c.args.studied.now.book) (marks_of c.args.studied.now) (contract_of c.args.term.now) whole)

pub returns-in_ok-part-in-Plus-2 : goal.returns-in_ok-part-in-Plus-2
returns-in_ok-part-in-Plus-2 t c =
    let m = c.in_ok-part-in-Plus-2.ensures in
    node_made c.args.trails.now c.ended-in-Plus.new.trails c.right.new.self c.right.result (N.Right c.in_ok-part-in-Plus-2.part)
    (EndsIn c.args.studied.now (contract_of c.args.term.now)) m.grew c.right.ensures.number c.right.ensures.ok
    (ends-right (book_of c.args.studied.now.book) (marks_of c.args.studied.now) (contract_of c.args.term.now) (contract_of c.in-Plus.a.value) (contract_of c.in-Plus.b.value)
    (contract_of c.deref-in-Plus.result.now) (way_at c.ended-in-Plus.new.trails c.in_ok-part-in-Plus-2.part) (ap contract_of c.in-Plus.is) (ap contract_of c.deref-in-Plus.ensures) m.made)

pub returns-in_ok-second-in-Par : goal.returns-in_ok-second-in-Par
returns-in_ok-second-in-Par t c =
    let mid = c.ended-in-Par.new.trails in
    let last = c.ended-in-Par-2.new.trails in
    let m = c.in_ok-first-in-Par.ensures in
    let n = c.in_ok-second-in-Par.ensures in
    let first = c.in_ok-first-in-Par.first in
    let second = c.in_ok-second-in-Par.second in
    let book = book_of c.args.studied.now.book in
    let k = made_later {t = c.args.trails.now} {u = mid} {v = last} {k = first} {Is = Ends book (contract_of c.deref-in-Par.result.now)} m n.grew in
    node_made c.args.trails.now last c.both.new.self c.both.result (N.Both c.no_sides-none.result first second)
    (EndsIn c.args.studied.now (contract_of c.args.term.now)) k.grew c.both.ensures.number c.both.ensures.ok
    (ends-both book (marks_of c.args.studied.now) (contract_of c.in-Par.a.value) (contract_of c.in-Par.b.value) (contract_of c.deref-in-Par.result.now)
    (contract_of c.deref-in-Par-2.result.now) (ap contract_of c.deref-in-Par.ensures) (ap contract_of c.deref-in-Par-2.ensures) (way_at last first)
    (way_at last second) k.made n.made (contract_of c.args.term.now) (sides_at last c.no_sides-none.result) (ap contract_of c.in-Par.is)
    c.no_sides-none.ensures.sides)

pub returns-in_ok-second-in-Seq : goal.returns-in_ok-second-in-Seq
returns-in_ok-second-in-Seq t c =
    let mid = c.ended-in-Seq.new.trails in
    let last = c.ended-in-Seq-2.new.trails in
    let m = c.in_ok-first-in-Seq.ensures in
    let n = c.in_ok-second-in-Seq.ensures in
    let first = c.in_ok-first-in-Seq.first in
    let second = c.in_ok-second-in-Seq.second in
    let book = book_of c.args.studied.now.book in
    let k = made_later {t = c.args.trails.now} {u = mid} {v = last} {k = first} {Is = Ends book (contract_of c.deref-in-Seq.result.now)} m n.grew in
    node_made c.args.trails.now last c.then.new.self c.then.result (N.Then 0 first second)
    (EndsIn c.args.studied.now (contract_of c.args.term.now)) k.grew c.then.ensures.number c.then.ensures.ok
    (ends-then book (marks_of c.args.studied.now) (contract_of c.in-Seq.a.value) (contract_of c.in-Seq.b.value) (contract_of c.deref-in-Seq.result.now)
    (contract_of c.deref-in-Seq-2.result.now) (ap contract_of c.deref-in-Seq.ensures) (ap contract_of c.deref-in-Seq-2.ensures) (way_at last first)
    (way_at last second) k.made n.made (contract_of c.args.term.now) (ap contract_of c.in-Seq.is))

pub returns-in_ok-part-in-App : goal.returns-in_ok-part-in-App
returns-in_ok-part-in-App t c =
    let m = c.in_ok-part-in-App.ensures in
    let template = template_of c.in-Some.template.now in
    node_made c.args.trails.now c.ended-in-App.new.trails c.enter.new.self c.enter.result (N.Enter c.in_ok-part-in-App.part)
    (EndsIn c.args.studied.now (contract_of c.args.term.now)) m.grew c.enter.ensures.number c.enter.ensures.ok
    (ends-enter (book_of c.args.studied.now.book) (marks_of c.args.studied.now) (contract_of c.args.term.now) c.in-App.name (map expression_of c.in-App.args.items) template
    (way_at c.ended-in-App.new.trails c.in_ok-part-in-App.part) (ap contract_of c.in-App.is) (sym c.in-Some.ensures.template) c.requires.formed m.made)
