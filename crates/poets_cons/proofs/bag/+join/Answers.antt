use Rattle.std.proofs.Common.{◌∙◌, ◌++◌, ◌-◌, append-nil, arith, ap, sym}
use Rattle.std.proofs.lemmas.Result.{IfOk-weaker}
use Rattle.poets_cons.specs.code.Bags.{forked_at, bag_at, times, IsBagOf, IsBagOfBoth}
use Rattle.poets_cons.proofs.Bags.{bag_zero, both_joined, some_joined}
use Rattle.poets_cons.proofs.bag.+join.Goals as goal

pub returns-then-a-eq0-clause-number : goal.returns-then-a-eq0-clause-number
returns-then-a-eq0-clause-number t c =
    let old = c.args.bags.now.keys in
    let none = ap (bag_at old) c.if-a-eq0.true ∙ bag_zero old in
    (λ l. absurd (omega (arith, l)), c.requires.second, λ n. ap (λ ks. times n (ks ++ bag_at old c.args.b)) (sym none))

pub returns-then-b-eq0-clause-number : goal.returns-then-b-eq0-clause-number
returns-then-b-eq0-clause-number t c =
    let old = c.args.bags.now.keys in
    let none = ap (bag_at old) c.if-b-eq0.true ∙ bag_zero old in
    let first = bag_at old c.args.a in
    (λ l. l, c.requires.first, λ n. ap (times n) (sym (append-nil first)) ∙ ap (λ ks. times n (first ++ ks)) (sym none))

pub insert-requires-clause-some : goal.insert-requires-clause-some
insert-requires-clause-some t c =
    let r = c.row_at-first.result in
    let row = c.requires.bags.each (c.args.a - 1) r c.row_at-first.ensures in
    let some = some_joined r.count c.row_at-second.result.count r.odd r.even c.in_ok-odd.odd c.in_ok-even.even row.2 c.in_ok-odd.ensures.number.0
    c.in_ok-even.ensures.number.0 in
    omega (arith, some, c.in-Some.ensures.1)

pub returns-clause-number : goal.returns-clause-number
returns-clause-number t c =
    let new = c.insert.new.bags.keys in
    let fork = forked_at c.join-2.new.bags.keys c.in-Some.count c.in_ok-odd.odd c.in_ok-even.even in
    let both = both_joined c.args.bags.now.keys c.join.new.bags.keys c.join-2.new.bags.keys c.requires.bags c.in_ok-odd.ensures.grows c.in_ok-even.ensures.grows
    c.args.a c.args.b c.row_at-first.result c.row_at-second.result (omega arith, c.row_at-first.ensures) (omega arith, c.row_at-second.ensures)
    c.in-Some.count c.in_ok-odd.odd c.in_ok-even.even c.in-Some.ensures.1 c.in_ok-odd.ensures.number c.in_ok-even.ensures.number in
    IfOk-weaker c.insert.result (IsBagOf new fork) (IsBagOfBoth c.args.bags.now.keys c.args.a c.args.b new) (λ n h. (λ l. h.0, h.1, λ k. ap (times k) h.2 ∙ both k))
    c.insert.ensures.number
