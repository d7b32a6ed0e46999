use Rattle.std.proofs.Common.{◌∙◌, ◌-◌, ◌/◌, ◌∷◌, [], arith, ap, sym}
use Rattle.std.proofs.lemmas.Result.{IfOk-weaker}
use Rattle.poets_cons.specs.code.Bags.{forked_at, IsBagOf}
use Rattle.poets_cons.proofs.Bags.{one_first, one_odd, one_even}
use Rattle.poets_cons.proofs.bag.+unit.Goals as goal

pub returns-then-class-eq0-clause-number : goal.returns-then-class-eq0-clause-number
returns-then-class-eq0-clause-number t c =
    let old = c.args.bags.now.keys in
    let new = c.insert.new.bags.keys in
    IfOk-weaker c.insert.result (IsBagOf new (forked_at old 1 0 0)) (IsBagOf new (c.args.class ∷ []))
    (λ n h. (h.0, h.1, h.2 ∙ one_first old ∙ ap (λ k. k ∷ []) (sym c.if-class-eq0.true))) c.insert.ensures.number

pub returns-then-class-eq1-clause-number : goal.returns-then-class-eq1-clause-number
returns-then-class-eq1-clause-number t c =
    let class = c.args.class in
    let mid = c.unit.new.bags.keys in
    let new = c.insert-then-class-eq1.new.bags.keys in
    let one = one_odd mid c.in_ok-rest.rest ((class - 1) / 2) class c.in_ok-rest.ensures.number.2 (omega arith) in
    IfOk-weaker c.insert-then-class-eq1.result (IsBagOf new (forked_at mid 0 c.in_ok-rest.rest 0)) (IsBagOf new (class ∷ []))
    (λ n h. (h.0, h.1, h.2 ∙ one)) c.insert-then-class-eq1.ensures.number

pub returns-else-class-eq1-clause-number : goal.returns-else-class-eq1-clause-number
returns-else-class-eq1-clause-number t c =
    let class = c.args.class in
    let mid = c.unit.new.bags.keys in
    let new = c.insert-else-class-eq1.new.bags.keys in
    let one = one_even mid c.in_ok-rest.rest ((class - 1) / 2) class c.in_ok-rest.ensures.number.2 (omega arith) in
    IfOk-weaker c.insert-else-class-eq1.result (IsBagOf new (forked_at mid 0 0 c.in_ok-rest.rest)) (IsBagOf new (class ∷ []))
    (λ n h. (h.0, h.1, h.2 ∙ one)) c.insert-else-class-eq1.ensures.number
