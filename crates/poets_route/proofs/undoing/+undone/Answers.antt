use Rattle.std.proofs.Common.{rules, ◌≡◌, refl, sym, ap, ◌∙◌, ◌+◌, ◌-◌, ◌*◌, ◌<◌, arith, inl, inr}
use Rattle.poets_expr.specs.Expression.{expression_of}
use Rattle.poets_syntax.specs.Book.{book_of}
use Rattle.poets_syntax.specs.Contract.{contract_of, Success, Plus, Par, Seq}
use Rattle.poets_meaning.specs.Studied.{marks_of}
use Rattle.poets_meaning.specs.Width.{size}
use Rattle.poets_norm.specs.code.Grouping.{beside_parts}
use Rattle.poets_way.specs.Way.{Way}
use Rattle.poets_way.specs.Way as W
use Rattle.poets_way.specs.Trails.{way_at, sides_at}
use Rattle.poets_way.specs.declared.node.Node.TheVariants as N
use Rattle.poets_route.specs.code.Undone.{Undoes, UndoesIn, UndoesWhole}
use Rattle.poets_route.proofs.Choices.{refused}
use Rattle.poets_route.proofs.Made.{grew_not, made_node, made_there, made_later, node_made, two_made, made_since, grew_twice, way_later, sides_later, within_later}
use Rattle.poets_route.proofs.Sharing.{SharedWay}
use Rattle.poets_route.proofs.Stepped.{both_undone, then_undone, success_undone, failure_undone, app_undone, take_none, take_undone, par_done, par_rest_undone, seq_rest_undone}
use Rattle.poets_route.proofs.Undone.{undoes-par_none, undoes-left, undoes-right, undoes-seq_done, undoes-seq_none}
use Rattle.poets_route.proofs.undoing.+undone.Goals as goal

pub undone_both-returns-in_default : goal.undone_both-returns-in_default
undone_both-returns-in_default t c =
    let book = book_of c.args.studied.now.book in
    let marks = marks_of c.args.studied.now in
    let p = c.in_ok-parted.ensures in
    let x = contract_of c.args.whole_a.now in
    let y = contract_of c.args.whole_b.now in
    let way = way_at c.beside.new.trails c.in_ok-parted.parted in record {
      grew = p.grew;
      within = p.within;
      made = undoes-par_none book marks c.args.events (contract_of c.args.a.now) (contract_of c.args.b.now) x y (beside_parts x y)
          (way_at c.args.trails.now c.args.way) way way refl p.made c.in_default.ensures.none;
    }

pub undone_both-undone-requires-2 : goal.undone_both-undone-requires-2
undone_both-undone-requires-2 t c =
    let m = c.in_ok-first.ensures in
    let a = contract_of c.args.a.now in
    let b = contract_of c.args.b.now in
    let smaller : 4 * size b + 3 < 4 * size (Par a b) = omega arith in
    (search (rules, smaller), (c.requires.formed.1, within_later {t = c.beside.new.trails} {u = c.undone.new.trails} m.grew c.in-Some.second c.in-Some.ensures.some.second_within))

pub undone_both-returns : goal.undone_both-returns
undone_both-returns t c =
    let book = book_of c.args.studied.now.book in
    let marks = marks_of c.args.studied.now in
    let old = c.args.trails.now in
    let mid = c.beside.new.trails in
    let next = c.undone.new.trails in
    let late = c.undone-2.new.trails in
    let a = contract_of c.args.a.now in
    let b = contract_of c.args.b.now in
    let x = contract_of c.args.whole_a.now in
    let y = contract_of c.args.whole_b.now in
    let events = c.args.events in
    let from = way_at old c.args.way in
    let p = c.in_ok-parted.ensures in
    let head = c.in-Some.ensures.some in
    let first = c.in_ok-first.first in
    let second = c.in_ok-second.second in
    let m = c.in_ok-first.ensures in
    let k = c.in_ok-second.ensures in
    let firsts = c.shares-firsts.result.0 in
    let seconds = c.shares-firsts.result.1 in
    let IsFirst : Way → Type 0 = λ w. UndoesWhole book marks firsts a x (way_at mid c.in-Some.first) w in
    let IsSecond : Way → Type 0 = λ w. UndoesWhole book marks seconds b y (way_at next c.in-Some.second) w in
    let Is : Way → Type 0 = λ w. Undoes book marks events (Par a b) (beside_parts x y) from w in
    let parted : SharedWay events (way_at mid c.in_ok-parted.parted) = record {
      sides = sides_at mid c.in-Some.sides;
      first = way_at mid c.in-Some.first;
      second = way_at mid c.in-Some.second;
      first_count = firsts;
      second_count = seconds;
      is = head.way;
      first_is = c.shares-firsts.ensures.first;
      second_is = c.shares-firsts.ensures.second;
    } in
    two_made old next late first second IsFirst IsSecond (made_since {t = old} {u = mid} {v = next} {k = first} {Is = IsFirst} p.grew m) k
    c.both.new.self c.both.result (N.Both c.in-Some.sides first second) Is c.both.ensures.number c.both.ensures.ok
    (λ f g. both_undone book marks events a b x y c.requires.whole c.requires.unfinished from (way_at mid c.in_ok-parted.parted) p.made parted
    (sides_at late c.in-Some.sides) (way_at next c.in-Some.second) (way_at late first) (way_at late second)
    (sides_later (grew_twice m.grew k.grew) c.in-Some.sides head.sides_within) (way_later m.grew c.in-Some.second head.second_within) f g)

pub undone_one-returns-in_default-take_of : goal.undone_one-returns-in_default-take_of
undone_one-returns-in_default-take_of t c =
    let old = c.args.trails.now in
    let way = way_at old c.args.way in
    let term = contract_of c.args.term.now in
    let goal = contract_of c.args.goal.now in
    made_there old c.args.way (UndoesIn c.args.studied.now c.args.events term goal way) c.requires.way
    (take_none (book_of c.args.studied.now.book) (marks_of c.args.studied.now) c.args.events term goal c.in-Transmit.binders
    (expression_of c.in-Transmit.when) (contract_of c.in-Transmit.then.value) (ap contract_of c.in-Transmit.is) way way c.in_default-take_of.ensures.none)

pub undone_one-returns-in_ok-part-in-Transmit : goal.undone_one-returns-in_ok-part-in-Transmit
undone_one-returns-in_ok-part-in-Transmit t c =
    let old = c.args.trails.now in
    let next = c.undone.new.trails in
    let way = way_at old c.args.way in
    let term = contract_of c.args.term.now in
    let goal = contract_of c.args.goal.now in
    let m = c.in_ok-part-in-Transmit.ensures in
    let part = c.in_ok-part-in-Transmit.part in
    node_made old next c.take.new.self c.take.result (N.Take part) (UndoesIn c.args.studied.now c.args.events term goal way) m.grew
    c.take.ensures.number c.take.ensures.ok
    (take_undone (book_of c.args.studied.now.book) (marks_of c.args.studied.now) c.args.events term goal
    c.in-Transmit.binders (expression_of c.in-Transmit.when) (contract_of c.in-Transmit.then.value) (ap contract_of c.in-Transmit.is)
    c.in-Transmit-goal.binders (expression_of c.in-Transmit-goal.when) (contract_of c.in-Transmit-goal.whole.value) (ap contract_of c.in-Transmit-goal.is)
    c.saturating_sub-rest.result (contract_of c.deref.result.now) (contract_of c.deref-in-Transmit.result.now)
    way (way_at old c.in-Some.part) (way_at next part) c.requires.formed (ap contract_of c.deref.ensures) (ap contract_of c.deref-in-Transmit.ensures) c.in-Some.ensures.some.way c.saturating_sub-rest.ensures m.made)

pub undone_one-returns-in-Success-3 : goal.undone_one-returns-in-Success-3
undone_one-returns-in-Success-3 t c =
    let book = book_of c.args.studied.now.book in
    let marks = marks_of c.args.studied.now in
    let old = c.args.trails.now in
    let way = way_at old c.args.way in
    let term = contract_of c.args.term.now in
    let goal = contract_of c.args.goal.now in
    made_there old c.args.way (UndoesIn c.args.studied.now c.args.events term goal way) c.requires.way
    (elim c.in-Success.is [
      | inl e ↦ success_undone book marks c.args.events term goal way (ap contract_of e)
      | inr r ↦ (elim r [
        | inl e ↦ failure_undone book marks c.args.events term goal way (ap contract_of e)
        | inr e ↦ app_undone book marks c.args.events term goal way _ _ c.requires.formed (ap contract_of e.2)
      ])
    ])

pub undone_over-undone_one-requires-2 : goal.undone_over-undone_one-requires-2
undone_over-undone_one-requires-2 t c =
    let mid = c.undone_one.new.trails in
    let made = made_node {t = mid} {u = mid} {v = c.nothing.new.self} {r = c.in_ok-nothing.nothing} N.Nothing (λ w. w ≡ W.Nothing) (grew_not mid)
    c.in_ok-nothing.ensures.number c.in_ok-nothing.ensures.ok refl in
    let a = contract_of c.args.term.now in
    let b = contract_of c.args.over.now in
    let smaller : 4 * size b + 2 < 4 * (size a + size b) + 3 = omega arith in
    (search (rules, smaller), (c.requires.over, made.within))

pub undone_par-returns-then-is_done : goal.undone_par-returns-then-is_done
undone_par-returns-then-is_done t c =
    let book = book_of c.args.studied.now.book in
    let marks = marks_of c.args.studied.now in
    let old = c.args.trails.now in
    let mid = c.undone_over.new.trails in
    let late = c.all_of.new.trails in
    let a = contract_of c.args.a.now in
    let b = contract_of c.args.b.now in
    let goal = contract_of c.args.goal.now in
    let way = way_at old c.args.way in
    let events = c.args.events in
    let first = c.in_ok-first.first in
    let second = c.in_ok-first.second in
    let s = c.in_ok-sides.ensures in
    let m = made_later {t = old} {u = mid} {v = late} {k = first} {Is = Undoes book marks events a goal way} c.in_ok-first.ensures.0 s.grew in
    let k = made_later {t = old} {u = mid} {v = late} {k = second} {Is = Undoes book marks 0 b Success W.Nothing} c.in_ok-first.ensures.1 s.grew in
    node_made old late c.both.new.self c.both.result (N.Both c.in_ok-sides.sides first second) (Undoes book marks events (Par a b) goal way) m.grew
    c.both.ensures.number c.both.ensures.ok
    (par_done book marks events a b goal (contract_of c.in_ok-whole.whole) c.in_ok-whole.ensures (sides_at late c.in_ok-sides.sides) way
    (way_at late first) (way_at late second) (c.is_done.ensures.0 c.if-is_done.true) s.made m.made k.made)

pub undone_par-undone_over-requires-2 : goal.undone_par-undone_over-requires-2
undone_par-undone_over-requires-2 t c =
    let a = contract_of c.args.a.now in
    let b = contract_of c.args.b.now in
    let smaller : 4 * (size b + size a) + 3 < 4 * size (Par a b) + 1 = omega arith in
    (search (rules, smaller), (c.requires.formed.1, (c.requires.formed.0, c.requires.way)))

pub undone_par-returns : goal.undone_par-returns
undone_par-returns t c =
    let book = book_of c.args.studied.now.book in
    let marks = marks_of c.args.studied.now in
    let old = c.args.trails.now in
    let mid = c.undone_over-2.new.trails in
    let late = c.all_of-2.new.trails in
    let a = contract_of c.args.a.now in
    let b = contract_of c.args.b.now in
    let goal = contract_of c.args.goal.now in
    let way = way_at old c.args.way in
    let events = c.args.events in
    let first = c.in_ok-second.first in
    let second = c.in_ok-second.second in
    let s = c.in_ok-sides-2.ensures in
    let m = made_later {t = old} {u = mid} {v = late} {k = second} {Is = Undoes book marks events b goal way} c.in_ok-second.ensures.0 s.grew in
    let k = made_later {t = old} {u = mid} {v = late} {k = first} {Is = Undoes book marks 0 a Success W.Nothing} c.in_ok-second.ensures.1 s.grew in
    node_made old late c.both-2.new.self c.both-2.result (N.Both c.in_ok-sides-2.sides first second) (Undoes book marks events (Par a b) goal way) m.grew
    c.both-2.ensures.number c.both-2.ensures.ok
    (par_rest_undone book marks events a b goal (contract_of c.in_ok-whole.whole) c.in_ok-whole.ensures (sides_at late c.in_ok-sides-2.sides) way
    (way_at late second) (way_at late first) (refused c.is_done.result c.is_done.ensures c.if-is_done.false) c.in_default.ensures.none s.made k.made m.made)

pub undone_plus-undone_one-requires : goal.undone_plus-undone_one-requires
undone_plus-undone_one-requires t c =
    let a = contract_of c.args.a.now in
    let b = contract_of c.args.b.now in
    let smaller : 4 * size b + 2 < 4 * size (Plus a b) + 1 = omega arith in
    (search (rules, smaller), (c.requires.formed.1, c.requires.way))

pub undone_plus-returns-then-branch : goal.undone_plus-returns-then-branch
undone_plus-returns-then-branch t c =
    let book = book_of c.args.studied.now.book in
    let marks = marks_of c.args.studied.now in
    let old = c.args.trails.now in
    let next = c.undone_one.new.trails in
    let a = contract_of c.args.a.now in
    let b = contract_of c.args.b.now in
    let goal = contract_of c.args.goal.now in
    let way = way_at old c.args.way in
    let m = c.in_ok-part.ensures in
    node_made old next c.right.new.self c.right.result (N.Right c.in_ok-part.part) (Undoes book marks c.args.events (Plus a b) goal way) m.grew
    c.right.ensures.number c.right.ensures.ok
    (undoes-right book marks c.args.events a b goal way (way_at next c.in_ok-part.part) (c.in_ok-is_of_normal.ensures.0 c.if-branch.true) m.made)

pub undone_plus-returns : goal.undone_plus-returns
undone_plus-returns t c =
    let book = book_of c.args.studied.now.book in
    let marks = marks_of c.args.studied.now in
    let old = c.args.trails.now in
    let next = c.undone_one-2.new.trails in
    let a = contract_of c.args.a.now in
    let b = contract_of c.args.b.now in
    let goal = contract_of c.args.goal.now in
    let way = way_at old c.args.way in
    let m = c.in_ok-part-2.ensures in
    node_made old next c.left.new.self c.left.result (N.Left c.in_ok-part-2.part) (Undoes book marks c.args.events (Plus a b) goal way) m.grew
    c.left.ensures.number c.left.ensures.ok
    (undoes-left book marks c.args.events a b goal way (way_at next c.in_ok-part-2.part)
    (refused c.in_ok-is_of_normal.field-0 c.in_ok-is_of_normal.ensures c.if-branch.false) m.made)

pub undone_seq-returns-then-is_done : goal.undone_seq-returns-then-is_done
undone_seq-returns-then-is_done t c =
    let book = book_of c.args.studied.now.book in
    let marks = marks_of c.args.studied.now in
    let old = c.args.trails.now in
    let mid = c.undone_over.new.trails in
    let a = contract_of c.args.a.now in
    let b = contract_of c.args.b.now in
    let goal = contract_of c.args.goal.now in
    let way = way_at old c.args.way in
    let events = c.args.events in
    let first = c.in_ok-first.first in
    let second = c.in_ok-first.second in
    let m = c.in_ok-first.ensures.0 in
    let k = c.in_ok-first.ensures.1 in
    node_made old mid c.then.new.self c.then.result (N.Then events first second) (Undoes book marks events (Seq a b) goal way) m.grew
    c.then.ensures.number c.then.ensures.ok
    (undoes-seq_done book marks events a b goal way (way_at mid first) (way_at mid second)
    (sym c.in_ok-whole.ensures ∙ c.is_done.ensures.0 c.if-is_done.true) m.made k.made)

pub undone_seq-undone_over-requires-2 : goal.undone_seq-undone_over-requires-2
undone_seq-undone_over-requires-2 t c =
    let a = contract_of c.args.a.now in
    let b = contract_of c.args.b.now in
    let smaller : 4 * (size b + size a) + 3 < 4 * size (Seq a b) + 1 = omega arith in
    (search (rules, smaller), (c.requires.formed.1, (c.requires.formed.0, c.requires.way)))

pub undone_seq-returns : goal.undone_seq-returns
undone_seq-returns t c =
    let book = book_of c.args.studied.now.book in
    let marks = marks_of c.args.studied.now in
    let old = c.args.trails.now in
    let mid = c.undone_over-2.new.trails in
    let a = contract_of c.args.a.now in
    let b = contract_of c.args.b.now in
    let goal = contract_of c.args.goal.now in
    let way = way_at old c.args.way in
    let events = c.args.events in
    let first = c.in_ok-second.first in
    let second = c.in_ok-second.second in
    let m = c.in_ok-second.ensures.0 in
    let k = c.in_ok-second.ensures.1 in
    node_made old mid c.then-2.new.self c.then-2.result (N.Then 0 first second) (Undoes book marks events (Seq a b) goal way) m.grew
    c.then-2.ensures.number c.then-2.ensures.ok
    (seq_rest_undone book marks events a b goal (contract_of c.in_ok-whole.whole) c.in_ok-whole.ensures way (way_at mid second) (way_at mid first)
    (refused c.is_done.result c.is_done.ensures c.if-is_done.false) c.in_default.ensures.none k.made m.made)

pub undone_then-returns-in_default : goal.undone_then-returns-in_default
undone_then-returns-in_default t c =
    let old = c.args.trails.now in
    let way = way_at old c.args.way in
    let a = contract_of c.args.a.now in
    let b = contract_of c.args.b.now in
    let x = contract_of c.args.whole_a.now in
    let y = contract_of c.args.whole_b.now in
    made_there old c.args.way (UndoesIn c.args.studied.now c.args.events (Seq a b) (Seq x y) way) c.requires.way
    (undoes-seq_none (book_of c.args.studied.now.book) (marks_of c.args.studied.now) c.args.events a b x y (Seq x y) way way refl c.in_default.ensures.none)

pub undone_then-undone-requires-2 : goal.undone_then-undone-requires-2
undone_then-undone-requires-2 t c =
    let m = c.in_ok-first.ensures in
    let a = contract_of c.args.a.now in
    let b = contract_of c.args.b.now in
    let smaller : 4 * size b + 3 < 4 * size (Seq a b) = omega arith in
    (search (rules, smaller), (c.requires.formed.1, within_later {t = c.args.trails.now} {u = c.undone.new.trails} m.grew c.in-Some.second c.in-Some.ensures.some.second_within))

pub undone_then-returns : goal.undone_then-returns
undone_then-returns t c =
    let book = book_of c.args.studied.now.book in
    let marks = marks_of c.args.studied.now in
    let old = c.args.trails.now in
    let next = c.undone.new.trails in
    let late = c.undone-2.new.trails in
    let a = contract_of c.args.a.now in
    let b = contract_of c.args.b.now in
    let x = contract_of c.args.whole_a.now in
    let y = contract_of c.args.whole_b.now in
    let events = c.args.events in
    let count = c.in-Some.count in
    let from = way_at old c.args.way in
    let head = c.in-Some.ensures.some in
    let first = c.in_ok-first.first in
    let second = c.in_ok-second.second in
    let m = c.in_ok-first.ensures in
    let k = c.in_ok-second.ensures in
    let IsFirst : Way → Type 0 = λ w. UndoesWhole book marks count a x (way_at old c.in-Some.first) w in
    let IsSecond : Way → Type 0 = λ w. UndoesWhole book marks (events - count) b y (way_at next c.in-Some.second) w in
    let Is : Way → Type 0 = λ w. Undoes book marks events (Seq a b) (Seq x y) from w in
    two_made old next late first second IsFirst IsSecond m k c.then.new.self c.then.result (N.Then count first second) Is c.then.ensures.number c.then.ensures.ok
    (λ f g. then_undone book marks events a b x y c.requires.whole c.requires.unfinished count from (way_at old c.in-Some.first) (way_at old c.in-Some.second)
    (way_at next c.in-Some.second) (way_at late first) (way_at late second) head.way
    (way_later m.grew c.in-Some.second head.second_within) f g)
