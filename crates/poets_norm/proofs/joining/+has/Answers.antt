use Rattle.std.proofs.Common.{◌≡◌, ◌↔◌, IsTrue, sym, ◌∙◌}
use Rattle.poets_cons.specs.Table.{contract_at, AreAlikeAt}
use Rattle.poets_cons.proofs.Reaching.{one_ok}
use Rattle.poets_norm.specs.code.Alternatives.{is_alternative}
use Rattle.poets_norm.proofs.RowChoices.{has_other}
use Rattle.poets_norm.proofs.EarlierRows.{none_earlier}
use Rattle.poets_norm.proofs.joining.+has.Goals as goal

pub returns-then-not-has_parallel-clause-has : goal.returns-then-not-has_parallel-clause-has
returns-then-not-has_parallel-clause-has t c =
    sym (none_earlier c.args.arena.now c.node-node.ensures.table c.args.place c.requires.place (sym c.has_parallel.ensures ∙ c.if-not-has_parallel.true) c.args.choice
    c.if-choice-place.true)

pub returns-in_default-clause-has : goal.returns-in_default-clause-has
returns-in_default-clause-has t c =
    let old = c.args.arena.now in
    let choice = c.args.choice in
    let place = c.args.place in
    one_ok (λ r. IsTrue r ↔ AreAlikeAt old choice place) (λ r. r ≡ is_alternative old choice place) c.alike.result
    (λ r is. has_other old choice c.node-node.result.now c.node-node.ensures.contract (c.in_default.not-Failure, λ a b e. c.in_default.not-Plus a b e) (contract_at old place) r is)
    c.alike.ensures.alike
