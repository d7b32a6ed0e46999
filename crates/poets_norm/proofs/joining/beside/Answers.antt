use Rattle.std.proofs.Common.{sym, ◌∙◌, ap₂, subst}
use Rattle.poets_cons.specs.Table.{contract_at}
use Rattle.poets_cons.proofs.Standing.{contract_at-later}
use Rattle.poets_norm.specs.Rows.{Enters}
use Rattle.poets_norm.specs.code.Grouping.{beside_parts}
use Rattle.poets_norm.proofs.Grouped.{regrouped_two}
use Rattle.poets_norm.proofs.joining.beside.Goals as goal

pub returns-clause-stands : goal.returns-clause-stands
returns-clause-stands c =
    let old = c.args.arena.now in
    let second = contract_at-later old c.grouped.new.arena c.grouped.ensures.grows c.args.b c.requires.second in
    subst (Enters c.join.new.arena c.join.result) (ap₂ beside_parts c.in_ok-first.ensures.stands.contract second
    ∙ sym (regrouped_two (contract_at old c.args.a) (contract_at old c.args.b))) c.join.ensures.stands
