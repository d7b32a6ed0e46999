use Rattle.std.proofs.Common.{◌≡◌, ◌∙◌, ◌<◌, ap, length, arith}
use Rattle.poets_syntax.specs.Contract.{Plus}
use Rattle.poets_calculus.specs.Normal.{plus}
use Rattle.poets_cons.specs.Row.{row_of, contract_by}
use Rattle.poets_cons.specs.Table.{contract_at, Stands}
use Rattle.poets_cons.proofs.Reaching.{one_ok}
use Rattle.poets_norm.proofs.RowChoices.{first_distinct, second_distinct, either_stands}
use Rattle.poets_norm.proofs.joining.+distinct_choice.Goals as goal

pub merge-requires-clause-first : goal.merge-requires-clause-first
merge-requires-clause-first t c =
    let below = rw c.in-Plus.is at c.node.ensures.below in
    let k : c.in-Plus.b < length c.args.arena.now = omega (arith, below.1, c.requires) in
    first_distinct c.args.arena.now c.distinct_choice.new.arena c.distinct_choice-in-Plus.new.arena c.in_ok-first-in-Plus.ensures.grows
    c.in_ok-second-in-Plus.ensures.grows c.in-Plus.a c.in-Plus.b k c.in_ok-first-in-Plus.first c.in_ok-second-in-Plus.second
    c.in_ok-first-in-Plus.ensures.stands c.in_ok-second-in-Plus.ensures.stands

pub merge-requires-clause-second : goal.merge-requires-clause-second
merge-requires-clause-second t c =
    let below = rw c.in-Plus.is at c.node.ensures.below in
    let k : c.in-Plus.b < length c.args.arena.now = omega (arith, below.1, c.requires) in
    second_distinct c.args.arena.now c.distinct_choice.new.arena c.distinct_choice-in-Plus.new.arena c.in_ok-first-in-Plus.ensures.grows
    c.in_ok-second-in-Plus.ensures.grows c.in-Plus.a c.in-Plus.b k c.in_ok-first-in-Plus.first c.in_ok-second-in-Plus.second
    c.in_ok-first-in-Plus.ensures.stands c.in_ok-second-in-Plus.ensures.stands

pub returns-in_ok-second-in-Plus-clause-stands : goal.returns-in_ok-second-in-Plus-clause-stands
returns-in_ok-second-in-Plus-clause-stands t c =
    let old = c.args.arena.now in
    let last = c.distinct_choice-in-Plus.new.arena in
    let new = c.merge.new.arena in
    let a = c.in-Plus.a in
    let b = c.in-Plus.b in
    let f = c.in_ok-first-in-Plus.first in
    let g = c.in_ok-second-in-Plus.second in
    let below = rw c.in-Plus.is at c.node.ensures.below in
    let k : b < length old = omega (arith, below.1, c.requires) in
    let whole : contract_at old c.args.place ≡ Plus (contract_at old a) (contract_at old b) =
    c.node.ensures.contract ∙ ap (λ n. contract_by (contract_at old) (row_of n)) c.in-Plus.is in
    rw whole (one_ok (λ p. Stands new p (plus (contract_at last f) (contract_at last g))) (λ p. Stands new p (plus (contract_at old a) (contract_at old b))) c.merge.result
    (either_stands old c.distinct_choice.new.arena last c.in_ok-first-in-Plus.ensures.grows c.in_ok-second-in-Plus.ensures.grows a b k f g
    c.in_ok-first-in-Plus.ensures.stands c.in_ok-second-in-Plus.ensures.stands new) c.merge.ensures.stands)
