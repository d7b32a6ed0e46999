use Rattle.std.proofs.Common.{◌≡◌, ◌∙◌, ◌<◌, ap, ap₂, sym, subst, arith, length}
use Rattle.poets_syntax.specs.Contract.{Par}
use Rattle.poets_cons.specs.Table.{contract_at, contract_of_node}
use Rattle.poets_cons.proofs.Standing.{contract_at-later}
use Rattle.poets_norm.specs.Choices.{regrouped}
use Rattle.poets_norm.specs.Rows.{Enters}
use Rattle.poets_norm.specs.code.Grouping.{beside_parts}
use Rattle.poets_norm.proofs.Grouped.{regrouped_two, regrouped_grouped}
use Rattle.poets_norm.proofs.joining.+grouped.Goals as goal

pub returns-then-is_grouped-clause-stands : goal.returns-then-is_grouped-clause-stands
returns-then-is_grouped-clause-stands t c = record {
  within = c.requires;
  contract = sym (regrouped_grouped (contract_at c.args.arena.now c.args.place) (sym c.is_grouped.ensures ∙ c.if-is_grouped.true));
}

pub returns-in_ok-first-in-Par-clause-stands : goal.returns-in_ok-first-in-Par-clause-stands
returns-in_ok-first-in-Par-clause-stands t c =
    let old = c.args.arena.now in
    let a = c.in-Par.a in
    let b = c.in-Par.b in
    let whole : contract_at old c.args.place ≡ Par (contract_at old a) (contract_at old b) =
    c.node.ensures.contract ∙ ap (contract_of_node old) c.in-Par.is in
    let below = rw c.in-Par.is at c.node.ensures.below in
    let within : b < length old = omega (arith, below.1, c.requires) in
    let second = contract_at-later old c.grouped.new.arena c.grouped.ensures.grows b within in
    subst (Enters c.join.new.arena c.join.result) (ap₂ beside_parts c.in_ok-first-in-Par.ensures.stands.contract second
    ∙ sym (regrouped_two (contract_at old a) (contract_at old b)) ∙ ap regrouped (sym whole)) c.join.ensures.stands
