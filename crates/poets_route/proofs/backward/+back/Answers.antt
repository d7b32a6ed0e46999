use Rattle.std.proofs.Common.{rules, ◌≡◌, [], ◌∷◌, true, false, refl, sym, ap, subst, map, ◌∙◌, ◌+◌, ◌-◌, ◌*◌, ◌<◌, arith}
use Rattle.poets_expr.specs.Expression.{expression_of}
use Rattle.poets_syntax.specs.Book.{book_of, template_of}
use Rattle.poets_syntax.specs.Contract.{contract_of, Success, App, Plus, Par, Seq}
use Rattle.poets_meaning.specs.Studied.{marks_of}
use Rattle.poets_meaning.specs.Width.{width}
use Rattle.poets_meaning.proofs.Nullability.{nullable_in, nullable_performed, EachExposed-fits}
use Rattle.poets_calculus.specs.Normal.{normal}
use Rattle.poets_residue.proofs.Widths.{body-smaller, width-first, width-plus, width-par}
use Rattle.poets_way.specs.Way.{Way}
use Rattle.poets_way.specs.Way as W
use Rattle.poets_way.specs.Trails.{way_at, sides_at}
use Rattle.poets_way.specs.declared.node.Node.TheVariants as N
use Rattle.poets_route.specs.code.Back.{Backs, BacksBody, BacksWhole, Begins, ByFirst, BySecond, IsReady}
use Rattle.poets_route.specs.code.Choices.{Embeds}
use Rattle.poets_route.specs.code.Undone.{Ends, IsFormed, UndoesWhole}
use Rattle.poets_route.proofs.Choices.{refused}
use Rattle.poets_route.proofs.Made.{given_as, given_since, grew_not, grew_twice, made_later, made_sides, made_there, node_made, two_made, sides_later, way_later, within_later}
use Rattle.poets_route.proofs.Ready.{formed_body, ready_normal, ready_plus, ready_par, ready_seq, ready_grouped, not_success}
use Rattle.poets_route.proofs.Sharing.{SharedWay}
use Rattle.poets_route.proofs.Backing.{backs-left, backs-right, backs-began, begins-none, first-none}
use Rattle.poets_route.proofs.Backed.{app_backed, begun_both, begun_rest, body_backed, first_backed, first_both, first_rest, over_backed, second_both, second_narrower, second_done, second_none, transmit_backed}
use Rattle.poets_route.proofs.backward.+back.Goals as goal

pub back_app-back_body-requires : goal.back_app-back_body-requires
back_app-back_body-requires t c =
    let book = book_of c.args.studied.now.book in
    let marks = marks_of c.args.studied.now in
    let args = map expression_of c.args.args.now in
    let template = template_of c.in-Some.template.now in
    let q = sym c.in-Some.ensures.template in
    let f = c.requires.ready.formed in
    let body = contract_of c.in_ok-body.body in
    let formed = subst (IsFormed book marks) (sym c.in_ok-body.ensures) (formed_body book marks c.args.name args template q f) in
    let smaller : 7 * width book marks (normal book marks body) + 6 < 7 * width book marks (App c.args.name args) + 4 =
    omega (arith, ap (λ x. width book marks (normal book marks x)) c.in_ok-body.ensures, body-smaller book marks f.studied c.args.name args template q f.fits) in
    (search (rules, smaller), (c.requires.event, (formed, (c.requires.way, c.requires.room))))

pub back_app-returns : goal.back_app-returns
back_app-returns t c =
    let book = book_of c.args.studied.now.book in
    let marks = marks_of c.args.studied.now in
    let e = c.args.event.now in
    let n = c.args.events in
    let old = c.args.trails.now in
    let goal = contract_of c.args.goal.now in
    let way = way_at old c.args.way in
    let args = map expression_of c.args.args.now in
    let template = template_of c.in-Some.template.now in
    let f = c.requires.ready.formed in
    let next = c.back_body.new.trails in
    let m = c.in_ok-part.ensures in
    node_made old next c.enter.new.self c.enter.result (N.Enter c.in_ok-part.part) (Backs book marks e n (App c.args.name args) goal way) m.grew
    c.enter.ensures.number c.enter.ensures.ok
    (app_backed book marks e f.studied c.args.name args template (sym c.in-Some.ensures.template) f.fits f.formed n (contract_of c.in_ok-body.body) goal
    way (way_at next c.in_ok-part.part) c.in_ok-body.ensures m.made)

pub back_body-back_one-requires : goal.back_body-back_one-requires
back_body-back_one-requires t c =
    let book = book_of c.args.studied.now.book in
    let marks = marks_of c.args.studied.now in
    let body = contract_of c.args.body.now in
    let ready = subst (IsReady book marks) (sym c.in_ok-start.ensures) (ready_normal book marks body c.requires.formed) in
    let smaller : 7 * width book marks (contract_of c.in_ok-start.start) + 5 < 7 * width book marks (normal book marks body) + 6 =
    omega (arith, ap (width book marks) c.in_ok-start.ensures) in
    (search (rules, smaller), (c.requires.event, (ready, (c.requires.way, c.requires.room))))

pub back_body-returns : goal.back_body-returns
back_body-returns t c =
    let book = book_of c.args.studied.now.book in
    let marks = marks_of c.args.studied.now in
    let e = c.args.event.now in
    let n = c.args.events in
    let old = c.args.trails.now in
    let goal = contract_of c.args.goal.now in
    let way = way_at old c.args.way in
    let body = contract_of c.args.body.now in
    let start = contract_of c.in_ok-start.start in
    let mid = c.back_one.new.trails in
    let m = c.in_ok-part.ensures in
    let from = way_at mid c.in_ok-part.part in
    given_since old mid c.undone.new.trails c.undone.result (UndoesWhole book marks (n + 1) body start from) (BacksBody book marks e n body goal way) m.grew
    c.undone.ensures
    (λ w g. body_backed book marks e n body start goal way from w c.in_ok-start.ensures m.made g)

pub back_one-back_app-requires : goal.back_one-back_app-requires
back_one-back_app-requires t c =
    let book = book_of c.args.studied.now.book in
    let marks = marks_of c.args.studied.now in
    let term = contract_of c.args.term.now in
    let args = map expression_of c.as_slice-args.result.now in
    let whole : term ≡ App c.in-App.name args =
    ap contract_of c.in-App.is ∙ ap (λ xs. App c.in-App.name (map expression_of xs)) (sym c.as_slice-args.ensures) in
    let smaller : 7 * width book marks (App c.in-App.name args) + 4 < 7 * width book marks term + 5 = omega (arith, ap (width book marks) whole) in
    (search (rules, smaller), (c.requires.event, (subst (IsReady book marks) whole c.requires.ready, (c.requires.way, c.requires.room))))

pub back_one-returns-in_ok-part-in-Transmit : goal.back_one-returns-in_ok-part-in-Transmit
back_one-returns-in_ok-part-in-Transmit t c =
    let book = book_of c.args.studied.now.book in
    let marks = marks_of c.args.studied.now in
    let e = c.args.event.now in
    let n = c.args.events in
    let old = c.args.trails.now in
    let goal = contract_of c.args.goal.now in
    let way = way_at old c.args.way in
    let term = contract_of c.args.term.now in
    let next = c.from_continuation.new.trails in
    let part = c.in_ok-part-in-Transmit.part in
    let m = c.in_ok-part-in-Transmit.ensures in
    node_made old next c.take.new.self c.take.result (N.Take part) (Backs book marks e n term goal way) m.grew c.take.ensures.number c.take.ensures.ok
    (transmit_backed book marks e n term c.requires.event c.requires.ready goal c.in-Transmit.binders (expression_of c.in-Transmit.when)
    (contract_of c.in-Transmit.then.value) (contract_of c.deref.result.now) way (way_at next part) (ap contract_of c.in-Transmit.is)
    (ap contract_of c.deref.ensures) m.made)

pub back_par-is_beside-requires-clause-grouped : goal.back_par-is_beside-requires-clause-grouped
back_par-is_beside-requires-clause-grouped t c =
    let book = book_of c.args.studied.now.book in
    let marks = marks_of c.args.studied.now in
    let a = contract_of c.args.a.now in
    let b = contract_of c.args.b.now in
    ready_grouped book marks a (ready_par book marks a b c.requires.ready).0

pub back_par-is_beside-requires-clause-unfinished : goal.back_par-is_beside-requires-clause-unfinished
back_par-is_beside-requires-clause-unfinished t c =
    let book = book_of c.args.studied.now.book in
    let marks = marks_of c.args.studied.now in
    let a = contract_of c.args.a.now in
    let b = contract_of c.args.b.now in
    not_success a (ready_par book marks a b c.requires.ready).2

pub back_par-returns : goal.back_par-returns
back_par-returns t c =
    let book = book_of c.args.studied.now.book in
    let marks = marks_of c.args.studied.now in
    let a = contract_of c.args.a.now in
    let b = contract_of c.args.b.now in
    let e = c.args.event.now in
    let n = c.args.events in
    let old = c.args.trails.now in
    let goal = contract_of c.args.goal.now in
    let way = way_at old c.args.way in
    given_as old c.by_first.new.trails c.by_first.result (ByFirst book marks e n a b goal way) (Backs book marks e n (Par a b) goal way) c.by_first.ensures
    (λ w g. first_backed book marks e n a b (contract_of c.in_ok-after_b.after_b) c.in_ok-after_b.ensures goal way w
    (refused c.is_beside.result c.is_beside.ensures c.if-is_beside.false) g)

pub back_plus-back_one-requires : goal.back_plus-back_one-requires
back_plus-back_one-requires t c =
    let book = book_of c.args.studied.now.book in
    let marks = marks_of c.args.studied.now in
    let a = contract_of c.args.a.now in
    let b = contract_of c.args.b.now in
    let smaller : 7 * width book marks b + 5 < 7 * width book marks (Plus a b) + 4 = omega (arith, width-plus book marks a b) in
    (search (rules, smaller), (c.requires.event, ((ready_plus book marks a b c.requires.ready).1, (c.requires.way, c.requires.room))))

pub back_plus-returns-then-branch : goal.back_plus-returns-then-branch
back_plus-returns-then-branch t c =
    let book = book_of c.args.studied.now.book in
    let marks = marks_of c.args.studied.now in
    let a = contract_of c.args.a.now in
    let b = contract_of c.args.b.now in
    let old = c.args.trails.now in
    let next = c.back_one.new.trails in
    let goal = contract_of c.args.goal.now in
    let way = way_at old c.args.way in
    let e = c.args.event.now in
    let m = c.in_ok-part.ensures in
    node_made old next c.right.new.self c.right.result (N.Right c.in_ok-part.part) (Backs book marks e c.args.events (Plus a b) goal way) m.grew
    c.right.ensures.number c.right.ensures.ok
    (backs-right book marks e c.args.events a b goal way (way_at next c.in_ok-part.part) (c.in_ok-is_left.ensures.0 c.if-branch.true) m.made)

pub back_plus-back_one-requires-2 : goal.back_plus-back_one-requires-2
back_plus-back_one-requires-2 t c =
    let book = book_of c.args.studied.now.book in
    let marks = marks_of c.args.studied.now in
    let a = contract_of c.args.a.now in
    let b = contract_of c.args.b.now in
    let smaller : 7 * width book marks a + 5 < 7 * width book marks (Plus a b) + 4 = omega (arith, width-plus book marks a b) in
    (search (rules, smaller), (c.requires.event, ((ready_plus book marks a b c.requires.ready).0, (c.requires.way, c.requires.room))))

pub back_plus-returns : goal.back_plus-returns
back_plus-returns t c =
    let book = book_of c.args.studied.now.book in
    let marks = marks_of c.args.studied.now in
    let a = contract_of c.args.a.now in
    let b = contract_of c.args.b.now in
    let old = c.args.trails.now in
    let next = c.back_one-2.new.trails in
    let goal = contract_of c.args.goal.now in
    let way = way_at old c.args.way in
    let e = c.args.event.now in
    let m = c.in_ok-part-2.ensures in
    node_made old next c.left.new.self c.left.result (N.Left c.in_ok-part-2.part) (Backs book marks e c.args.events (Plus a b) goal way) m.grew
    c.left.ensures.number c.left.ensures.ok
    (backs-left book marks e c.args.events a b goal way (way_at next c.in_ok-part-2.part)
    (refused c.in_ok-is_left.field-0 c.in_ok-is_left.ensures c.if-branch.false) m.made)

pub back_seq-returns-then-not-may_end : goal.back_seq-returns-then-not-may_end
back_seq-returns-then-not-may_end t c =
    let book = book_of c.args.studied.now.book in
    let marks = marks_of c.args.studied.now in
    let a = contract_of c.args.a.now in
    let b = contract_of c.args.b.now in
    let e = c.args.event.now in
    let n = c.args.events in
    let old = c.args.trails.now in
    let goal = contract_of c.args.goal.now in
    let way = way_at old c.args.way in
    let f = (ready_seq book marks a b c.requires.ready).0.formed in
    given_as old c.begun.new.trails c.begun.result (Begins book marks e n a b goal way) (Backs book marks e n (Seq a b) goal way) c.begun.ensures
    (λ w g. backs-began book marks e n a b goal way w
    (λ over i. refused c.may_end.result c.may_end.ensures c.if-not-may_end.true (nullable_performed book marks f.studied.right [] a (EachExposed-fits book marks a f.fits) over)) g)

pub back_seq-returns-then-not-branch : goal.back_seq-returns-then-not-branch
back_seq-returns-then-not-branch t c =
    let book = book_of c.args.studied.now.book in
    let marks = marks_of c.args.studied.now in
    let a = contract_of c.args.a.now in
    let b = contract_of c.args.b.now in
    let e = c.args.event.now in
    let n = c.args.events in
    let old = c.args.trails.now in
    let goal = contract_of c.args.goal.now in
    let way = way_at old c.args.way in
    let last = c.begun-then-not-branch in
    given_as old last.new.trails last.result (Begins book marks e n a b goal way) (Backs book marks e n (Seq a b) goal way) last.ensures
    (λ w g. backs-began book marks e n a b goal way w (λ over i. refused c.in_ok-is_left.field-0 c.in_ok-is_left.ensures c.if-not-branch.true i) g)

pub back_seq-ended-requires-clause-ends : goal.back_seq-ended-requires-clause-ends
back_seq-ended-requires-clause-ends t c =
    let book = book_of c.args.studied.now.book in
    let marks = marks_of c.args.studied.now in
    let a = contract_of c.args.a.now in
    let b = contract_of c.args.b.now in
    nullable_in book marks c.requires.ready.formed.studied.right (c.may_end.ensures.0 c.if-not-may_end.false) refl

pub back_seq-back_one-requires : goal.back_seq-back_one-requires
back_seq-back_one-requires t c =
    let book = book_of c.args.studied.now.book in
    let marks = marks_of c.args.studied.now in
    let a = contract_of c.args.a.now in
    let b = contract_of c.args.b.now in
    let over = nullable_in book marks c.requires.ready.formed.studied.right (c.may_end.ensures.0 c.if-not-may_end.false) refl in
    let smaller : 7 * width book marks b + 5 < 7 * width book marks (Seq a b) + 4 = omega (arith, second_narrower book marks a b over) in (
      search (rules, smaller),
      (
        c.requires.event,
        (
          (ready_seq book marks a b c.requires.ready).1,
          (within_later {t = c.args.trails.now} {u = c.ended.new.trails} c.in_ok-first.ensures.grew c.args.way c.requires.way, c.requires.room),
        ),
      ),
    )

pub back_seq-returns : goal.back_seq-returns
back_seq-returns t c =
    let book = book_of c.args.studied.now.book in
    let marks = marks_of c.args.studied.now in
    let a = contract_of c.args.a.now in
    let b = contract_of c.args.b.now in
    let e = c.args.event.now in
    let n = c.args.events in
    let old = c.args.trails.now in
    let goal = contract_of c.args.goal.now in
    let way = way_at old c.args.way in
    let mid = c.ended.new.trails in
    let late = c.back_one.new.trails in
    let m = c.in_ok-first.ensures in
    let k = c.in_ok-second.ensures in
    let first = c.in_ok-first.first in
    let second = c.in_ok-second.second in
    let from = way_at mid c.args.way in
    let IsFirst : Way → Type 0 = λ w. Ends book a w in
    let IsSecond : Way → Type 0 = λ w. Backs book marks e n b goal from w in
    let Is : Way → Type 0 = λ w. Backs book marks e n (Seq a b) goal way w in
    two_made old mid late first second IsFirst IsSecond m k c.then.new.self c.then.result (N.Then 0 first second) Is c.then.ensures.number c.then.ensures.ok
    (λ f g. over_backed book marks e n a b goal way from (way_at late second) (way_at late first)
    (c.in_ok-is_left.ensures.0 c.if-not-branch.false) (way_later m.grew c.args.way c.requires.way) f g)

pub begun-back_over-requires : goal.begun-back_over-requires
begun-back_over-requires t c =
    let book = book_of c.args.studied.now.book in
    let marks = marks_of c.args.studied.now in
    let a = contract_of c.args.a.now in
    let b = contract_of c.args.b.now in
    let smaller : 7 * width book marks a + 6 < 7 * width book marks (Seq a b) + 3 = omega (arith, width-first book marks a b) in
    (search (rules, smaller), (c.requires.event, ((ready_seq book marks a b c.requires.ready).0, c.requires.way)))

pub begun-returns-in_default : goal.begun-returns-in_default
begun-returns-in_default t c =
    let book = book_of c.args.studied.now.book in
    let marks = marks_of c.args.studied.now in
    let a = contract_of c.args.a.now in
    let b = contract_of c.args.b.now in
    let e = c.args.event.now in
    let n = c.args.events in
    let old = c.args.trails.now in
    let goal = contract_of c.args.goal.now in
    let way = way_at old c.args.way in
    let mid = c.back_over.new.trails in
    let first = c.in_ok-first.first in
    let second = c.in_ok-first.second in
    let m = c.in_ok-first.ensures.0 in
    let k = c.in_ok-first.ensures.1 in
    node_made old mid c.then.new.self c.then.result (N.Then 1 first second) (Begins book marks e n a b goal way) m.grew c.then.ensures.number c.then.ensures.ok
    (begun_rest book marks e n a b c.requires.ready goal way (way_at mid second) (way_at mid first) c.in_default.ensures.none (k.made) m.made)

pub begun-returns-in_default-then_of : goal.begun-returns-in_default-then_of
begun-returns-in_default-then_of t c =
    let book = book_of c.args.studied.now.book in
    let marks = marks_of c.args.studied.now in
    let a = contract_of c.args.a.now in
    let b = contract_of c.args.b.now in
    let e = c.args.event.now in
    let n = c.args.events in
    let old = c.args.trails.now in
    let goal = contract_of c.args.goal.now in
    let way = way_at old c.args.way in
    made_there old c.args.way (Begins book marks e n a b goal way) c.requires.way
    (begins-none book marks e n a b (contract_of c.in-Some.after_a.now) goal way way c.in-Some.ensures.some c.in_default-then_of.ensures.none)

pub begun-back-requires : goal.begun-back-requires
begun-back-requires t c =
    let book = book_of c.args.studied.now.book in
    let marks = marks_of c.args.studied.now in
    let a = contract_of c.args.a.now in
    let b = contract_of c.args.b.now in
    let smaller : 7 * width book marks a + 6 < 7 * width book marks (Seq a b) + 3 = omega (arith, width-first book marks a b) in
    let few = c.in-Some-then_of.ensures.count in
    let room = c.requires.room in (
      search (rules, smaller),
      (c.requires.event, ((ready_seq book marks a b c.requires.ready).0, (c.in-Some-then_of.ensures.some.first_within, omega (arith, few, room)))),
    )

pub begun-returns : goal.begun-returns
begun-returns t c =
    let book = book_of c.args.studied.now.book in
    let marks = marks_of c.args.studied.now in
    let a = contract_of c.args.a.now in
    let b = contract_of c.args.b.now in
    let e = c.args.event.now in
    let n = c.args.events in
    let old = c.args.trails.now in
    let goal = contract_of c.args.goal.now in
    let way = way_at old c.args.way in
    let next = c.back.new.trails in
    let head = c.in-Some-then_of.ensures.some in
    let count = c.in-Some-then_of.count in
    let first = c.in-Some-then_of.first in
    let second = c.in-Some-then_of.second in
    let m = c.in_ok-first-2.ensures in
    let made = c.in_ok-first-2.first in
    node_made old next c.then-2.new.self c.then-2.result (N.Then (count + 1) made second) (Begins book marks e n a b goal way) m.grew
    c.then-2.ensures.number c.then-2.ensures.ok
    (begun_both book marks e n a b c.requires.ready count (contract_of c.in-Some.after_a.now) goal way (way_at old first) (way_at old second)
    (way_at next second) (way_at next made) c.in-Some.ensures.some head.way (way_later m.grew second head.second_within) m.made)

pub by_first-back_over-requires : goal.by_first-back_over-requires
by_first-back_over-requires t c =
    let book = book_of c.args.studied.now.book in
    let marks = marks_of c.args.studied.now in
    let a = contract_of c.args.a.now in
    let b = contract_of c.args.b.now in
    let smaller : 7 * width book marks a + 6 < 7 * width book marks (Par a b) + 3 = omega (arith, width-par book marks a b) in
    (search (rules, smaller), (c.requires.event, ((ready_par book marks a b c.requires.ready).0, c.requires.way)))

pub by_first-returns-in_default : goal.by_first-returns-in_default
by_first-returns-in_default t c =
    let book = book_of c.args.studied.now.book in
    let marks = marks_of c.args.studied.now in
    let a = contract_of c.args.a.now in
    let b = contract_of c.args.b.now in
    let e = c.args.event.now in
    let n = c.args.events in
    let old = c.args.trails.now in
    let goal = contract_of c.args.goal.now in
    let way = way_at old c.args.way in
    let mid = c.back_over.new.trails in
    let late = c.all_of.new.trails in
    let last = c.side.new.self in
    let first = c.in_ok-first.first in
    let second = c.in_ok-first.second in
    let r = c.in_ok-rest.ensures in
    let rest = sides_at late c.in_ok-rest.rest in
    let sides = made_sides {t = late} {u = late} {v = last} {r = c.in_ok-sides.sides} (false ∷ rest) (λ s. s ≡ false ∷ rest) (grew_not late)
    c.in_ok-sides.ensures.number c.in_ok-sides.ensures.ok refl in
    let grew = grew_twice r.grew sides.grew in
    let m = made_later {t = old} {u = mid} {v = last} {k = first} {Is = Backs book marks e 0 a Success W.Nothing} c.in_ok-first.ensures.0 grew in
    let k = made_later {t = old} {u = mid} {v = last} {k = second} {Is = Embeds b goal way} c.in_ok-first.ensures.1 grew in
    node_made old last c.both.new.self c.both.result (N.Both c.in_ok-sides.sides first second) (ByFirst book marks e n a b goal way) m.grew
    c.both.ensures.number c.both.ensures.ok
    (first_rest book marks e n a b c.requires.event c.requires.ready goal (sides_at last c.in_ok-sides.sides) rest way (way_at last second)
    (way_at last first) c.in_default.ensures.none sides.made r.made k.made m.made)

pub by_first-returns-in_default-both_of : goal.by_first-returns-in_default-both_of
by_first-returns-in_default-both_of t c =
    let book = book_of c.args.studied.now.book in
    let marks = marks_of c.args.studied.now in
    let a = contract_of c.args.a.now in
    let b = contract_of c.args.b.now in
    let e = c.args.event.now in
    let n = c.args.events in
    let old = c.args.trails.now in
    let goal = contract_of c.args.goal.now in
    let way = way_at old c.args.way in
    let p = c.in_ok-parted.ensures in
    let parted = way_at c.beside.new.trails c.in_ok-parted.parted in record {
      grew = p.grew;
      within = p.within;
      made = first-none book marks e n a b (contract_of c.in-Some.after_a.now) goal way parted parted c.in-Some.ensures.some p.made c.in_default-both_of.ensures.none;
    }

pub by_first-back-requires : goal.by_first-back-requires
by_first-back-requires t c =
    let book = book_of c.args.studied.now.book in
    let marks = marks_of c.args.studied.now in
    let a = contract_of c.args.a.now in
    let b = contract_of c.args.b.now in
    let smaller : 7 * width book marks a + 6 < 7 * width book marks (Par a b) + 3 = omega (arith, width-par book marks a b) in
    let few = c.shares-firsts.ensures.first in
    let room = c.requires.room in (
      search (rules, smaller),
      (c.requires.event, ((ready_par book marks a b c.requires.ready).0, (c.in-Some-both_of.ensures.some.first_within, omega (arith, few, room)))),
    )

pub by_first-returns : goal.by_first-returns
by_first-returns t c =
    let book = book_of c.args.studied.now.book in
    let marks = marks_of c.args.studied.now in
    let a = contract_of c.args.a.now in
    let b = contract_of c.args.b.now in
    let e = c.args.event.now in
    let n = c.args.events in
    let old = c.args.trails.now in
    let goal = contract_of c.args.goal.now in
    let way = way_at old c.args.way in
    let mid = c.beside.new.trails in
    let late = c.back.new.trails in
    let last = c.side-2.new.self in
    let head = c.in-Some-both_of.ensures.some in
    let first = c.in-Some-both_of.first in
    let second = c.in-Some-both_of.second in
    let rest = sides_at mid c.in-Some-both_of.rest in
    let p = c.in_ok-parted.ensures in
    let g = c.in_ok-first-2.ensures in
    let made = c.in_ok-first-2.first in
    let kept = sides_at late c.in-Some-both_of.rest in
    let sides = made_sides {t = late} {u = late} {v = last} {r = c.in_ok-sides-2.sides} (false ∷ kept) (λ s. s ≡ false ∷ kept) (grew_not late)
    c.in_ok-sides-2.ensures.number c.in_ok-sides-2.ensures.ok refl in
    let whose = sides.made ∙ ap (λ s. false ∷ s) (sides_later g.grew c.in-Some-both_of.rest head.sides_within) in
    let k = made_later {t = mid} {u = late} {v = last} {k = made} {Is = BacksWhole book marks e c.shares-firsts.result.0 a (contract_of c.in-Some.after_a.now) (way_at mid first)}
    g sides.grew in
    let parted : SharedWay n (way_at mid c.in_ok-parted.parted) = record {
      sides = rest;
      first = way_at mid first;
      second = way_at mid second;
      first_count = c.shares-firsts.result.0;
      second_count = c.shares-firsts.result.1;
      is = head.way;
      first_is = c.shares-firsts.ensures.first;
      second_is = c.shares-firsts.ensures.second;
    } in
    node_made old last c.both-2.new.self c.both-2.result (N.Both c.in_ok-sides-2.sides made second) (ByFirst book marks e n a b goal way) (grew_twice p.grew k.grew)
    c.both-2.ensures.number c.both-2.ensures.ok
    (first_both book marks e n a b c.requires.event c.requires.ready (contract_of c.in-Some.after_a.now) goal c.in-Some.ensures.some way
    (way_at mid c.in_ok-parted.parted) p.made parted (sides_at last c.in_ok-sides-2.sides) (way_at last second) {w = way_at last made} whose
    (way_later k.grew second head.second_within) k.made)

pub by_second-back_over-requires : goal.by_second-back_over-requires
by_second-back_over-requires t c =
    let book = book_of c.args.studied.now.book in
    let marks = marks_of c.args.studied.now in
    let a = contract_of c.args.a.now in
    let b = contract_of c.args.b.now in
    let smaller : 7 * width book marks b + 6 < 7 * width book marks (Par a b) + 3 = omega (arith, width-par book marks a b) in
    (search (rules, smaller), (c.requires.event, ((ready_par book marks a b c.requires.ready).1, c.requires.way)))

pub by_second-returns-then-is_done : goal.by_second-returns-then-is_done
by_second-returns-then-is_done t c =
    let book = book_of c.args.studied.now.book in
    let marks = marks_of c.args.studied.now in
    let a = contract_of c.args.a.now in
    let b = contract_of c.args.b.now in
    let e = c.args.event.now in
    let n = c.args.events in
    let old = c.args.trails.now in
    let goal = contract_of c.args.goal.now in
    let way = way_at old c.args.way in
    let mid = c.back_over.new.trails in
    let late = c.all_of.new.trails in
    let last = c.side.new.self in
    let first = c.in_ok-second.first in
    let second = c.in_ok-second.second in
    let r = c.in_ok-rest.ensures in
    let rest = sides_at late c.in_ok-rest.rest in
    let sides = made_sides {t = late} {u = late} {v = last} {r = c.in_ok-sides.sides} (true ∷ rest) (λ s. s ≡ true ∷ rest) (grew_not late)
    c.in_ok-sides.ensures.number c.in_ok-sides.ensures.ok refl in
    let grew = grew_twice r.grew sides.grew in
    let m = made_later {t = old} {u = mid} {v = last} {k = second} {Is = Backs book marks e 0 b Success W.Nothing} c.in_ok-second.ensures.0 grew in
    let k = made_later {t = old} {u = mid} {v = last} {k = first} {Is = Embeds a goal way} c.in_ok-second.ensures.1 grew in
    node_made old last c.both.new.self c.both.result (N.Both c.in_ok-sides.sides first second) (BySecond book marks e n a b goal way) m.grew
    c.both.ensures.number c.both.ensures.ok
    (second_done book marks e n a b (contract_of c.args.after_b.now) c.requires.after goal (sides_at last c.in_ok-sides.sides) rest way (way_at last first)
    (way_at last second) (c.is_done.ensures.0 c.if-is_done.true) sides.made r.made k.made m.made)

pub by_second-returns-in_default : goal.by_second-returns-in_default
by_second-returns-in_default t c =
    let book = book_of c.args.studied.now.book in
    let marks = marks_of c.args.studied.now in
    let a = contract_of c.args.a.now in
    let b = contract_of c.args.b.now in
    let e = c.args.event.now in
    let n = c.args.events in
    let old = c.args.trails.now in
    let goal = contract_of c.args.goal.now in
    let way = way_at old c.args.way in
    let p = c.in_ok-parted.ensures in
    let parted = way_at c.beside.new.trails c.in_ok-parted.parted in record {
      grew = p.grew;
      within = p.within;
      made = second_none book marks e n a b (contract_of c.args.after_b.now) c.requires.after c.requires.ready
          (refused c.is_done.result c.is_done.ensures c.if-is_done.false) goal way parted parted p.made c.in_default.ensures.none;
    }

pub by_second-back-requires : goal.by_second-back-requires
by_second-back-requires t c =
    let book = book_of c.args.studied.now.book in
    let marks = marks_of c.args.studied.now in
    let a = contract_of c.args.a.now in
    let b = contract_of c.args.b.now in
    let smaller : 7 * width book marks b + 6 < 7 * width book marks (Par a b) + 3 = omega (arith, width-par book marks a b) in
    let few = c.shares-seconds.ensures.second in
    let room = c.requires.room in (
      search (rules, smaller),
      (c.requires.event, ((ready_par book marks a b c.requires.ready).1, (c.in-Some.ensures.some.second_within, omega (arith, few, room)))),
    )

pub by_second-returns : goal.by_second-returns
by_second-returns t c =
    let book = book_of c.args.studied.now.book in
    let marks = marks_of c.args.studied.now in
    let a = contract_of c.args.a.now in
    let b = contract_of c.args.b.now in
    let e = c.args.event.now in
    let n = c.args.events in
    let old = c.args.trails.now in
    let goal = contract_of c.args.goal.now in
    let way = way_at old c.args.way in
    let mid = c.beside.new.trails in
    let late = c.back.new.trails in
    let last = c.side-2.new.self in
    let head = c.in-Some.ensures.some in
    let first = c.in-Some.first in
    let second = c.in-Some.second in
    let rest = sides_at mid c.in-Some.rest in
    let p = c.in_ok-parted.ensures in
    let g = c.in_ok-second-2.ensures in
    let made = c.in_ok-second-2.second in
    let kept = sides_at late c.in-Some.rest in
    let sides = made_sides {t = late} {u = late} {v = last} {r = c.in_ok-whose.whose} (true ∷ kept) (λ s. s ≡ true ∷ kept) (grew_not late)
    c.in_ok-whose.ensures.number c.in_ok-whose.ensures.ok refl in
    let whose = sides.made ∙ ap (λ s. true ∷ s) (sides_later g.grew c.in-Some.rest head.sides_within) in
    let k = made_later {t = mid} {u = late} {v = last} {k = made} {Is = BacksWhole book marks e c.shares-seconds.result.1 b (contract_of c.args.after_b.now) (way_at mid second)}
    g sides.grew in
    let parted : SharedWay n (way_at mid c.in_ok-parted.parted) = record {
      sides = rest;
      first = way_at mid first;
      second = way_at mid second;
      first_count = c.shares-seconds.result.0;
      second_count = c.shares-seconds.result.1;
      is = head.way;
      first_is = c.shares-seconds.ensures.first;
      second_is = c.shares-seconds.ensures.second;
    } in
    node_made old last c.both-2.new.self c.both-2.result (N.Both c.in_ok-whose.whose first made) (BySecond book marks e n a b goal way) (grew_twice p.grew k.grew)
    c.both-2.ensures.number c.both-2.ensures.ok
    (second_both book marks e n a b (contract_of c.args.after_b.now) c.requires.after c.requires.ready
    (refused c.is_done.result c.is_done.ensures c.if-is_done.false) goal way (way_at mid c.in_ok-parted.parted) p.made parted
    (sides_at last c.in_ok-whose.whose) (way_at last first) (way_at last made) whose (way_later k.grew first head.first_within) k.made)
