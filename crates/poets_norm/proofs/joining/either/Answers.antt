use Rattle.std.proofs.Common.{sym, subst}
use Rattle.poets_calculus.specs.Normal.{plus}
use Rattle.poets_norm.specs.Choices.{IsDistinctChoice}
use Rattle.poets_cons.specs.Table.{contract_at, Stands}
use Rattle.poets_cons.proofs.Reaching.{one_ok}
use Rattle.poets_cons.proofs.Standing.{contract_at-later}
use Rattle.poets_norm.proofs.RowChoices.{first_distinct, second_distinct, either_stands}
use Rattle.poets_norm.proofs.joining.either.Goals as goal

pub as_choice-requires-2-clause-known : goal.as_choice-requires-2-clause-known
as_choice-requires-2-clause-known c = λ h.
    subst IsDistinctChoice (sym (contract_at-later c.args.arena.now c.as_choice.new.arena c.in_ok-first.ensures.grows c.args.b c.requires.within_second))
    (c.requires.second h)

pub merge-requires-clause-first : goal.merge-requires-clause-first
merge-requires-clause-first c =
    first_distinct c.args.arena.now c.as_choice.new.arena c.as_choice-2.new.arena c.in_ok-first.ensures.grows c.in_ok-second.ensures.grows
    c.args.a c.args.b c.requires.within_second c.in_ok-first.first c.in_ok-second.second c.in_ok-first.ensures.stands c.in_ok-second.ensures.stands

pub merge-requires-clause-second : goal.merge-requires-clause-second
merge-requires-clause-second c =
    second_distinct c.args.arena.now c.as_choice.new.arena c.as_choice-2.new.arena c.in_ok-first.ensures.grows c.in_ok-second.ensures.grows
    c.args.a c.args.b c.requires.within_second c.in_ok-first.first c.in_ok-second.second c.in_ok-first.ensures.stands c.in_ok-second.ensures.stands

pub returns-clause-stands : goal.returns-clause-stands
returns-clause-stands c =
    let old = c.args.arena.now in
    let last = c.as_choice-2.new.arena in
    let new = c.merge.new.arena in
    one_ok (λ p. Stands new p (plus (contract_at last c.in_ok-first.first) (contract_at last c.in_ok-second.second)))
    (λ p. Stands new p (plus (contract_at old c.args.a) (contract_at old c.args.b))) c.merge.result
    (either_stands old c.as_choice.new.arena last c.in_ok-first.ensures.grows c.in_ok-second.ensures.grows c.args.a c.args.b c.requires.within_second
    c.in_ok-first.first c.in_ok-second.second c.in_ok-first.ensures.stands c.in_ok-second.ensures.stands new) c.merge.ensures.stands
