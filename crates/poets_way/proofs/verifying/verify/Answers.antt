use Rattle.std.proofs.Common.{◌≡◌, ◌∙◌, ◌∷◌, ◌+◌, [], drop, map, reverse, refl, sym, ap, subst}
use Rattle.std.proofs.lemmas.List.{drop_all}
use Rattle.poets_syntax.specs.Book.{book_of}
use Rattle.poets_syntax.specs.Contract.{contract_of}
use Rattle.poets_way.specs.Ways.{Ways}
use Rattle.poets_way.specs.declared.goals.Open.{Open}
use Rattle.poets_way.specs.code.Goals.{Goal, goal_of, goals_in, goals_of, IsLeft}
use Rattle.poets_way.specs.Moves.{move_of}
use Rattle.poets_way.proofs.Following.{fitting, unfitting, ended, begun}
use Rattle.poets_way.proofs.Opened.{started, popped, popped-shared, moves_more, no_goals}
use Rattle.poets_way.proofs.verifying.verify.Goals as goal

pub loop-step-init : goal.loop-step-init
loop-step-init c =
    let s = c.args.events.now.items in
    let contract = contract_of c.args.term.now in
    let book = book_of c.args.studied.now.book in
    let whole = Ways book [] contract s c.args.way.now in
    let old : Open = record { goals = c.new.result; events = c.in_ok-turned.field-0 } in
    let turned : reverse old.events.items ≡ s = c.in_ok-turned.ensures ∙ c.as_slice.ensures in
    let first : Goal = record { env = []; contract = contract; events = s } in
    let h = started contract c.new-2.result.items c.len.result s old c.add.new.self c.in_ok-add.field-0 c.in_ok-add.ensures c.new.ensures c.new-2.ensures c.len.ensures turned in
    record {
      shared = h.1;
      left = subst (λ gs. IsLeft book (map move_of c.moves-step-items.result.now) gs whole) (sym h.0)
          (subst (λ ms. IsLeft book ms (first ∷ []) whole) (sym c.moves-step-items.ensures) (begun book [] contract s c.args.way.now));
    }

pub follow-requires : goal.follow-requires
follow-requires c =
    popped-shared c.loop-step.rest (record { goals = c.pop.new.self; events = c.loop-step.rest.events }) c.in-Some.goal c.in-Some.ensures.some refl
    c.loop-step.invariant.shared

pub returns-then-not-branch : goal.returns-then-not-branch
returns-then-not-branch c =
    let book = book_of c.args.studied.now.book in
    let whole = Ways book [] (contract_of c.args.term.now) c.args.events.now.items c.args.way.now in
    let items = c.moves-step-items.result.now in
    let i = c.loop-step.step-index in
    let m = c.step-item.result in
    let g = c.in-Some.goal in
    let rest : Open = record { goals = c.pop.new.self; events = c.loop-step.rest.events } in
    let s = reverse rest.events.items in
    let gs = goals_of (reverse rest.goals.items) (drop g.count s) in
    let moves = map move_of (drop (i + 1) items) in
    let left : IsLeft book (move_of m ∷ moves) (goal_of g s ∷ gs) whole =
    subst (λ ms. IsLeft book ms (goal_of g s ∷ gs) whole) (moves_more items i m c.loop-step-test.true c.step-item.is)
    (subst (λ hs. IsLeft book (map move_of (drop i items)) hs whole) (popped c.loop-step.rest rest g c.in-Some.ensures.some refl) c.loop-step.invariant.left) in (
      (λ t. absurd cc),
      (λ x. absurd (unfitting book (move_of m) moves (goal_of g s) gs whole left c.in_ok-follow.field-0 (goals_in c.follow.new.rest) c.in_ok-follow.ensures.0 c.if-not-branch.true x)),
    )

pub loop-step-preserved : goal.loop-step-preserved
loop-step-preserved c =
    let book = book_of c.args.studied.now.book in
    let whole = Ways book [] (contract_of c.args.term.now) c.args.events.now.items c.args.way.now in
    let items = c.moves-step-items.result.now in
    let i = c.loop-step.step-index in
    let m = c.step-item.result in
    let g = c.in-Some.goal in
    let rest : Open = record { goals = c.pop.new.self; events = c.loop-step.rest.events } in
    let s = reverse rest.events.items in
    let gs = goals_of (reverse rest.goals.items) (drop g.count s) in
    let moves = map move_of (drop (i + 1) items) in
    let left : IsLeft book (move_of m ∷ moves) (goal_of g s ∷ gs) whole =
    subst (λ ms. IsLeft book ms (goal_of g s ∷ gs) whole) (moves_more items i m c.loop-step-test.true c.step-item.is)
    (subst (λ hs. IsLeft book (map move_of (drop i items)) hs whole) (popped c.loop-step.rest rest g c.in-Some.ensures.some refl) c.loop-step.invariant.left) in
    record {
      shared = c.in_ok-follow.ensures.1 c.if-not-branch.false;
      left = fitting book (move_of m) moves (goal_of g s) gs whole left c.in_ok-follow.field-0 (goals_in c.follow.new.rest) c.in_ok-follow.ensures.0 c.if-not-branch.false;
    }

pub returns : goal.returns
returns c =
    let book = book_of c.args.studied.now.book in
    let whole = Ways book [] (contract_of c.args.term.now) c.args.events.now.items c.args.way.now in
    let items = c.moves-step-items.result.now in
    let rest = c.loop-step.rest in
    let s = reverse rest.events.items in
    let left : IsLeft book [] (goals_in rest) whole =
    subst (λ ms. IsLeft book (map move_of ms) (goals_in rest) whole) (drop_all c.loop-step.step-index items c.loop-step-test.false) c.loop-step.invariant.left in
    let e = ended book (goals_in rest) whole left in (
      (λ t. e.0 (ap (λ gs. goals_of (reverse gs) s) (c.is_empty.ensures.0 t))),
      (λ x. c.is_empty.ensures.1 (no_goals rest.goals.items s (e.1 x))),
    )
