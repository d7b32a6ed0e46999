use Rattle.std.specs.Arc.{arc_value}
use Rattle.std.proofs.Common.{◌≡◌, slice_get, Some, refl, inl, inr}
use Rattle.poets_expr.specs.Expression.{expression_of}
use Rattle.poets_syntax.specs.Contract.{contract_of}
use Rattle.poets_cons.specs.Row as R
use Rattle.poets_cons.specs.Table.{rows_of, AddsReached}
use Rattle.poets_cons.proofs.Reaching.{both_ok, reached_one, reached_both, reached_parts}
use Rattle.poets_cons.proofs.Standing.{stands_later}
use Rattle.poets_cons.proofs.entering.+enter.Goals as goal

pub enter-returns-in_ok-when-in-Transmit-clause-reached : goal.enter-returns-in_ok-when-in-Transmit-clause-reached
enter-returns-in_ok-when-in-Transmit-clause-reached t c =
    let old = c.args.arena.now in
    let mid = c.enter.new.arena in
    let new = c.add-in-Transmit.new.self in
    let a = c.in_ok-then-in-Transmit.then in
    let r = R.Transmit c.in-Transmit.binders (expression_of (arc_value c.in_ok-when-in-Transmit.when)) a in
    both_ok (λ p. slice_get (rows_of new) p ≡ Some r) (AddsReached mid new) (AddsReached old new) c.add-in-Transmit.result
    (reached_one old mid new c.add-in-Transmit.ensures.grows a c.in_ok-then-in-Transmit.ensures.reached r refl)
    c.add-in-Transmit.ensures.row c.add-in-Transmit.ensures.reached

pub enter-returns-in_ok-a-in-Plus-clause-reached : goal.enter-returns-in_ok-a-in-Plus-clause-reached
enter-returns-in_ok-a-in-Plus-clause-reached t c =
    let mid = c.enter_both.new.arena in
    let new = c.add-in-Plus.new.self in
    let r = R.Plus c.in_ok-a-in-Plus.a c.in_ok-a-in-Plus.b in
    both_ok (λ p. slice_get (rows_of new) p ≡ Some r) (AddsReached mid new) (AddsReached c.args.arena.now new) c.add-in-Plus.result
    (reached_parts c.args.arena.now mid new c.add-in-Plus.ensures.grows c.in_ok-a-in-Plus.a c.in_ok-a-in-Plus.b c.in_ok-a-in-Plus.ensures.reached r (inl refl) (inr refl))
    c.add-in-Plus.ensures.row c.add-in-Plus.ensures.reached

pub enter-returns-in_ok-a-in-Par-clause-reached : goal.enter-returns-in_ok-a-in-Par-clause-reached
enter-returns-in_ok-a-in-Par-clause-reached t c =
    let mid = c.enter_both-in-Par.new.arena in
    let new = c.add-in-Par.new.self in
    let r = R.Par c.in_ok-a-in-Par.a c.in_ok-a-in-Par.b in
    both_ok (λ p. slice_get (rows_of new) p ≡ Some r) (AddsReached mid new) (AddsReached c.args.arena.now new) c.add-in-Par.result
    (reached_parts c.args.arena.now mid new c.add-in-Par.ensures.grows c.in_ok-a-in-Par.a c.in_ok-a-in-Par.b c.in_ok-a-in-Par.ensures.reached r (inl refl) (inr refl))
    c.add-in-Par.ensures.row c.add-in-Par.ensures.reached

pub enter-returns-in_ok-a-in-Seq-clause-reached : goal.enter-returns-in_ok-a-in-Seq-clause-reached
enter-returns-in_ok-a-in-Seq-clause-reached t c =
    let mid = c.enter_both-in-Seq.new.arena in
    let new = c.add-in-Seq.new.self in
    let r = R.Seq c.in_ok-a-in-Seq.a c.in_ok-a-in-Seq.b in
    both_ok (λ p. slice_get (rows_of new) p ≡ Some r) (AddsReached mid new) (AddsReached c.args.arena.now new) c.add-in-Seq.result
    (reached_parts c.args.arena.now mid new c.add-in-Seq.ensures.grows c.in_ok-a-in-Seq.a c.in_ok-a-in-Seq.b c.in_ok-a-in-Seq.ensures.reached r (inl refl) (inr refl))
    c.add-in-Seq.ensures.row c.add-in-Seq.ensures.reached

pub enter_both-returns-clause-first : goal.enter_both-returns-clause-first
enter_both-returns-clause-first t c =
    stands_later c.enter.new.arena c.enter-2.new.arena c.enter-2.ensures.grows c.in_ok-first.first (contract_of c.args.a.now) c.in_ok-first.ensures.stands

pub enter_both-returns-clause-reached : goal.enter_both-returns-clause-reached
enter_both-returns-clause-reached t c =
    reached_both c.args.arena.now c.enter.new.arena c.enter-2.new.arena c.enter-2.ensures.grows c.in_ok-first.first c.in_ok-second.second
    c.in_ok-first.ensures.reached c.in_ok-second.ensures.reached
