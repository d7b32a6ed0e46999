use Rattle.std.proofs.Common.{rules, ◌∙◌, ◌+◌, ◌*◌, ◌<◌, ℕ, arith, ap, refl, sym, subst, map, length, Ok, IfOk}
use Rattle.std.specs.Arc.{arc_value}
use Rattle.poets_expr.specs.Expression.{expression_of}
use Rattle.poets_syntax.specs.Applied.{CountsFit}
use Rattle.poets_syntax.specs.Book.{template_of}
use Rattle.poets_syntax.specs.Contract.{Plus, Par, Seq}
use Rattle.poets_meaning.specs.Marks.{nullable}
use Rattle.poets_meaning.specs.Width.{width}
use Rattle.poets_calculus.specs.Residual.{after}
use Rattle.poets_cons.specs.Row.{row_of, AreBelow}
use Rattle.poets_cons.specs.Table.{contract_at, Stands}
use Rattle.poets_cons.proofs.Standing.{contract_at-later, length-extends, extends_not}
use Rattle.poets_residue.specs.code.Deriving.{book_by, marks_by, IsResidual, Derives}
use Rattle.poets_residue.proofs.Equations.{after_at-success, after-none}
use Rattle.poets_residue.proofs.Kept.{after_at-failure}
use Rattle.poets_residue.proofs.Spending.{failed}
use Rattle.poets_residue.proofs.Widths.{width-plus}
use Rattle.poets_residue.proofs.Asking.{row_is, transmit_is, app_is}
use Rattle.poets_residue.proofs.Deriving.{IsPart, itself, plus_part, seq_part, par_part, ends_part, part_failed, part_joined, anew, known, noted_next, unasked, transmit_done, second_can, second_width, second_failed, both_derived, joined_found, passed_found, app_failed, body_can, body_less, app_done}
use Rattle.poets_residue.proofs.derivation.Derivation.+derive.Goals as goal

both_within : (a b place len : ℕ) → place < len → (a < place) × (b < place) → (a < len) × (b < len)
both_within a b place len l h = (omega (arith, h.0, l), omega (arith, h.1, l))

pub derive-returns-in-Some : goal.derive-returns-in-Some
derive-returns-in-Some g t c =
    known c.args.self.now c.args.table.now c.args.place c.in-Some.known c.args.asks.now c.requires.ready.notes (sym c.in-Some.ensures)

pub derive-returns-in_err-next : goal.derive-returns-in_err-next
derive-returns-in_err-next g t c =
    part_failed c.args.self.now (itself c.args.self.now (contract_at c.args.table.now.arena c.args.place)) c.derive_anew.ensures c.from_residual.result c.from_residual.ensures.0

pub derive-returns : goal.derive-returns
derive-returns g t c =
    noted_next c.args.self.now c.args.table.now c.derive_anew.new.table c.args.place c.in_ok-next.next c.requires.within c.args.asks.now c.derive_anew.new.asks
    c.in_ok-next.ensures c.note.new.self c.note.result c.note.ensures.row c.note.ensures.notes

pub derive_anew-returns-in-Success : goal.derive_anew-returns-in-Success
derive_anew-returns-in-Success g t c =
    let d = c.args.self.now in
    let old = c.args.table.now.arena in
    let whole = row_is old c.args.place c.node.ensures.contract c.in-Success.is in
    unasked d c.args.table.now c.args.place c.requires.ready.notes c.failure.new.arena c.failure.ensures.grows c.failure.result c.args.asks.now
    (subst (λ k. IfOk c.failure.result (λ p. Stands c.failure.new.arena p k))
    (sym (after_at-success (book_by d) (marks_by d) d.event.now (length (book_by d).templates)) ∙ ap (after (book_by d) (marks_by d) d.event.now) (sym whole)) c.failure.ensures.stands)

pub derive_anew-returns-in-Failure : goal.derive_anew-returns-in-Failure
derive_anew-returns-in-Failure g t c =
    let d = c.args.self.now in
    let old = c.args.table.now.arena in
    let whole = row_is old c.args.place c.node.ensures.contract c.in-Failure.is in
    let after_it = after (book_by d) (marks_by d) d.event.now in
    unasked d c.args.table.now c.args.place c.requires.ready.notes old (extends_not old) (Ok c.args.place) c.args.asks.now (record {
      within = c.requires.within;
      contract = whole ∙ sym (after_at-failure (length (book_by d).templates) (book_by d) (marks_by d) d.event.now) ∙ ap after_it (sym whole);
    })

pub derive_anew-returns-in_err-when-in-Transmit : goal.derive_anew-returns-in_err-when-in-Transmit
derive_anew-returns-in_err-when-in-Transmit g t c =
    let d = c.args.self.now in
    let old = c.args.table.now.arena in
    unasked d c.args.table.now c.args.place c.requires.ready.notes old (extends_not old) c.from_residual.result c.args.asks.now
    (failed c.from_residual.result c.from_residual.ensures.0 (IsResidual d old (contract_at old c.args.place)))

pub derive_anew-returns-in_ok-when-in-Transmit : goal.derive_anew-returns-in_ok-when-in-Transmit
derive_anew-returns-in_ok-when-in-Transmit g t c =
    let d = c.args.self.now in
    let old = c.args.table.now.arena in
    transmit_done d c.args.table.now c.args.place c.requires.ready.notes c.transmit.new.arena c.transmit.ensures.grows c.transmit.result c.node.ensures.table c.requires.within c.requires.new
    c.in-Transmit.binders (expression_of c.deref.result.now) (contract_at old c.in-Transmit.then)
    (transmit_is old c.args.place c.node.ensures.contract c.in-Transmit.is (c.deref.ensures ∙ c.in_ok-when-in-Transmit.ensures))
    c.args.asks.now c.transmit.new.asks c.transmit.ensures.rises c.transmit.ensures.asks c.transmit.ensures.once c.transmit.ensures.residual

pub derive_anew-returns-in_err-after-in-Plus : goal.derive_anew-returns-in_err-after-in-Plus
derive_anew-returns-in_err-after-in-Plus g t c =
    let d = c.args.self.now in
    let old = c.args.table.now.arena in
    let a = contract_at old c.in-Plus.a in
    let b = contract_at old c.in-Plus.b in
    let whole = row_is old c.args.place c.node.ensures.contract c.in-Plus.is in
    let part = subst (IsPart d (Plus a b)) (sym whole) (itself d (Plus a b)) in
    anew d (part_failed d part c.derive_both.ensures c.from_residual-in_err-after-in-Plus.result c.from_residual-in_err-after-in-Plus.ensures.0)

pub derive_anew-returns-in_ok-after-in-Plus : goal.derive_anew-returns-in_ok-after-in-Plus
derive_anew-returns-in_ok-after-in-Plus g t c =
    let d = c.args.self.now in
    let old = c.args.table.now.arena in
    let a = contract_at old c.in-Plus.a in
    let b = contract_at old c.in-Plus.b in
    let whole = row_is old c.args.place c.node.ensures.contract c.in-Plus.is in
    let part = subst (IsPart d (Plus a b)) (sym whole) (itself d (Plus a b)) in
    let within = both_within c.in-Plus.a c.in-Plus.b c.args.place (length old) c.requires.within (subst (λ n. AreBelow c.args.place (row_of n)) c.in-Plus.is c.node.ensures.below) in
    let made = c.in_ok-after-in-Plus.ensures in
    anew d (part_joined d part made c.one_of.new.arena c.one_of.ensures.grows c.one_of.result
    (joined_found d Plus old c.derive_both.new.table.arena c.one_of.new.arena made.grows c.in-Plus.a c.in-Plus.b within.0 within.1 (contract_at old c.args.place) whole
    c.one_of.result c.one_of.ensures.residual))

pub derive_anew-returns-in_err-after-in-Par : goal.derive_anew-returns-in_err-after-in-Par
derive_anew-returns-in_err-after-in-Par g t c =
    let d = c.args.self.now in
    let old = c.args.table.now.arena in
    let a = contract_at old c.in-Par.a in
    let b = contract_at old c.in-Par.b in
    let whole = row_is old c.args.place c.node.ensures.contract c.in-Par.is in
    let part = subst (IsPart d (Plus a b)) (sym whole) (par_part d a b) in
    anew d (part_failed d part c.derive_both-in-Par.ensures c.from_residual-in_err-after-in-Par.result c.from_residual-in_err-after-in-Par.ensures.0)

pub derive_anew-returns-in_ok-after-in-Par : goal.derive_anew-returns-in_ok-after-in-Par
derive_anew-returns-in_ok-after-in-Par g t c =
    let d = c.args.self.now in
    let old = c.args.table.now.arena in
    let a = contract_at old c.in-Par.a in
    let b = contract_at old c.in-Par.b in
    let whole = row_is old c.args.place c.node.ensures.contract c.in-Par.is in
    let part = subst (IsPart d (Plus a b)) (sym whole) (par_part d a b) in
    let within = both_within c.in-Par.a c.in-Par.b c.args.place (length old) c.requires.within (subst (λ n. AreBelow c.args.place (row_of n)) c.in-Par.is c.node.ensures.below) in
    let made = c.in_ok-after-in-Par.ensures in
    anew d (part_joined d part made c.one_side.new.arena c.one_side.ensures.grows c.one_side.result
    (joined_found d Par old c.derive_both-in-Par.new.table.arena c.one_side.new.arena made.grows c.in-Par.a c.in-Par.b within.0 within.1 (contract_at old c.args.place) whole
    c.one_side.result c.one_side.ensures.residual))

pub derive_anew-returns-in-Seq : goal.derive_anew-returns-in-Seq
derive_anew-returns-in-Seq g t c =
    let d = c.args.self.now in
    let old = c.args.table.now.arena in
    let whole = row_is old c.args.place c.node.ensures.contract c.in-Seq.is in
    anew d (subst (λ k. Derives d k c.args.table.now c.derive_seq.new.table c.args.asks.now c.derive_seq.new.asks c.derive_seq.result) (sym whole) c.derive_seq.ensures)

pub derive_anew-returns-in_default : goal.derive_anew-returns-in_default
derive_anew-returns-in_default g t c =
    let d = c.args.self.now in
    let old = c.args.table.now.arena in
    let whole = row_is old c.args.place c.node.ensures.contract c.in-App.is in
    let args = map expression_of (arc_value c.in-App.args).items in
    let nodes = c.failure-in_default.new.arena in
    let none = after-none (book_by d) (marks_by d) d.event.now c.requires.ready.studied c.in-App.name args (subst (CountsFit (book_by d)) whole c.requires.ready.fits)
    (sym c.in_default.ensures.template) in
    unasked d c.args.table.now c.args.place c.requires.ready.notes nodes c.failure-in_default.ensures.grows c.failure-in_default.result c.args.asks.now
    (subst (λ k. IfOk c.failure-in_default.result (λ p. Stands nodes p k)) (sym none ∙ ap (after (book_by d) (marks_by d) d.event.now) (sym whole)) c.failure-in_default.ensures.stands)

pub derive_anew-returns-in_err-args-in-App : goal.derive_anew-returns-in_err-args-in-App
derive_anew-returns-in_err-args-in-App g t c =
    let d = c.args.self.now in
    let old = c.args.table.now.arena in
    unasked d c.args.table.now c.args.place c.requires.ready.notes old (extends_not old) c.from_residual-in_err-args-in-App.result c.args.asks.now
    (failed c.from_residual-in_err-args-in-App.result c.from_residual-in_err-args-in-App.ensures.0 (IsResidual d old (contract_at old c.args.place)))

pub derive_anew-returns-in_err-start-in-App : goal.derive_anew-returns-in_err-start-in-App
derive_anew-returns-in_err-start-in-App g t c =
    let d = c.args.self.now in
    let old = c.args.table.now.arena in
    let args = map expression_of c.as_slice-args.result.now in
    let whole = app_is old c.args.place c.node.ensures.contract c.in-App.is c.as_slice-args.result.now (c.as_slice-args.ensures ∙ ap (λ l. l.items) (c.deref-in-App.ensures ∙ c.in_ok-args-in-App.ensures)) in
    app_failed d c.args.table.now c.args.place c.requires.within c.node.ensures.table c.requires.new c.requires.ready c.in-App.name args whole (template_of c.in-Some.template.now) (sym c.in-Some.ensures.template)
    c.unfold.new.arena c.in_err-start-in-App.ensures.grows c.args.asks.now c.unfold.new.asks c.in_err-start-in-App.ensures.rises
    c.in_err-start-in-App.ensures.asks c.in_err-start-in-App.ensures.arguments c.from_residual-in_err-start-in-App.result c.from_residual-in_err-start-in-App.ensures.0

pub derive_anew-derive-requires : goal.derive_anew-derive-requires
derive_anew-derive-requires g t c κs within =
    let d = c.args.self.now in
    let old = c.args.table.now.arena in
    let args = map expression_of c.as_slice-args.result.now in
    let whole = app_is old c.args.place c.node.ensures.contract c.in-App.is c.as_slice-args.result.now (c.as_slice-args.ensures ∙ ap (λ l. l.items) (c.deref-in-App.ensures ∙ c.in_ok-args-in-App.ensures)) in
    let mid = c.unfold.new.arena in
    let start = c.in_ok-start-in-App.start in
    let body = c.in_ok-start-in-App.ensures.body in
    let less = body_less d c.args.table.now c.args.place c.requires.within c.node.ensures.table c.requires.new c.requires.ready c.in-App.name args whole (template_of c.in-Some.template.now)
    (sym c.in-Some.ensures.template) mid c.in_ok-start-in-App.ensures.grows start body.contract in
    let smaller : 4 * width (book_by d) (marks_by d) (contract_at mid start) + 3 < 4 * width (book_by d) (marks_by d) (contract_at old c.args.place) + 2 = omega (arith, less) in
    let ready = body_can d c.args.table.now c.args.place c.requires.within c.node.ensures.table c.requires.new c.requires.ready c.in-App.name args whole (template_of c.in-Some.template.now)
    (sym c.in-Some.ensures.template) mid c.in_ok-start-in-App.ensures.grows start body.contract in
    (search (rules, smaller), (within, (body.within, ready)))

pub derive_anew-returns-in_ok-start-in-App : goal.derive_anew-returns-in_ok-start-in-App
derive_anew-returns-in_ok-start-in-App g t c =
    let d = c.args.self.now in
    let old = c.args.table.now.arena in
    let args = map expression_of c.as_slice-args.result.now in
    let whole = app_is old c.args.place c.node.ensures.contract c.in-App.is c.as_slice-args.result.now (c.as_slice-args.ensures ∙ ap (λ l. l.items) (c.deref-in-App.ensures ∙ c.in_ok-args-in-App.ensures)) in
    let body = c.in_ok-start-in-App.ensures.body in
    app_done d c.args.table.now c.args.place c.requires.within c.node.ensures.table c.requires.new c.requires.ready c.in-App.name args whole (template_of c.in-Some.template.now) (sym c.in-Some.ensures.template)
    c.unfold.new.arena c.in_ok-start-in-App.ensures.grows c.in_ok-start-in-App.start body.contract c.args.asks.now c.unfold.new.asks c.derive.new.asks
    c.in_ok-start-in-App.ensures.rises c.in_ok-start-in-App.ensures.questions c.in_ok-start-in-App.ensures.arguments c.derive.new.table c.derive.result c.derive.ensures

pub derive_seq-returns-in_err-after_a : goal.derive_seq-returns-in_err-after_a
derive_seq-returns-in_err-after_a g t c =
    let d = c.args.self.now in
    let old = c.args.table.now.arena in
    let a = contract_at old c.args.a in
    let b = contract_at old c.args.b in
    part_failed d (seq_part d a b) c.derive.ensures c.from_residual.result c.from_residual.ensures.0

pub derive_seq-returns-then-not-may_end_at : goal.derive_seq-returns-then-not-may_end_at
derive_seq-returns-then-not-may_end_at g t c =
    let d = c.args.self.now in
    let old = c.args.table.now.arena in
    let a = contract_at old c.args.a in
    let b = contract_at old c.args.b in
    let made = c.in_ok-after_a.ensures in
    part_joined d (seq_part d a b) made c.seq.new.arena c.seq.ensures.grows c.seq.result
    (passed_found d old c.derive.new.table.arena c.seq.new.arena made.grows c.args.a c.args.b c.in_ok-after_a.after_a c.requires.second made.found
    (sym (rw c.nodes.ensures.nodes at c.may_end_at.ensures) ∙ c.if-not-may_end_at.true) c.seq.result c.seq.ensures.stands)

pub derive_seq-either_end-requires-clause-ends : goal.derive_seq-either_end-requires-clause-ends
derive_seq-either_end-requires-clause-ends g t c =
    let d = c.args.self.now in
    let old = c.args.table.now.arena in
    ap (nullable (marks_by d)) (contract_at-later old c.derive_both.new.table.arena c.in_ok-after.ensures.grows c.args.a c.requires.first)
    ∙ sym (rw c.nodes.ensures.nodes at c.may_end_at.ensures) ∙ c.if-not-may_end_at.false

pub derive_seq-returns-in_err-after : goal.derive_seq-returns-in_err-after
derive_seq-returns-in_err-after g t c =
    let d = c.args.self.now in
    let old = c.args.table.now.arena in
    let a = contract_at old c.args.a in
    let b = contract_at old c.args.b in
    part_failed d (ends_part d a b (sym (rw c.nodes.ensures.nodes at c.may_end_at.ensures) ∙ c.if-not-may_end_at.false))
    c.derive_both.ensures c.from_residual-in_err-after.result c.from_residual-in_err-after.ensures.0

pub derive_seq-returns : goal.derive_seq-returns
derive_seq-returns g t c =
    let d = c.args.self.now in
    let old = c.args.table.now.arena in
    let a = contract_at old c.args.a in
    let b = contract_at old c.args.b in
    let made = c.in_ok-after.ensures in
    part_joined d (ends_part d a b (sym (rw c.nodes.ensures.nodes at c.may_end_at.ensures) ∙ c.if-not-may_end_at.false)) made c.either_end.new.arena c.either_end.ensures.grows c.either_end.result
    (joined_found d Seq old c.derive_both.new.table.arena c.either_end.new.arena made.grows c.args.a c.args.b c.requires.first c.requires.second (Seq a b) refl
    c.either_end.result c.either_end.ensures.residual)

pub derive_both-returns-in_err-after_a : goal.derive_both-returns-in_err-after_a
derive_both-returns-in_err-after_a g t c =
    let d = c.args.self.now in
    let old = c.args.table.now.arena in
    let a = contract_at old c.args.a in
    let b = contract_at old c.args.b in
    part_failed d (plus_part d a b) c.derive.ensures c.from_residual.result c.from_residual.ensures.0

pub derive_both-derive-requires-2 : goal.derive_both-derive-requires-2
derive_both-derive-requires-2 g t c κs within =
    let d = c.args.self.now in
    let old = c.args.table.now.arena in
    let mid = c.derive.new.table.arena in
    let first = c.in_ok-after_a.ensures in
    let same = second_width d c.args.table.now c.derive.new.table c.args.a c.args.b c.in_ok-after_a.after_a c.requires.first c.requires.second first in
    let whole = width-plus (book_by d) (marks_by d) (contract_at old c.args.a) (contract_at old c.args.b) in
    let smaller : 4 * width (book_by d) (marks_by d) (contract_at mid c.args.b) + 3 < 4 * width (book_by d) (marks_by d) (Plus (contract_at old c.args.a) (contract_at old c.args.b)) =
    omega (arith, same, whole) in
    let inside : c.args.b < length mid = omega (arith, c.requires.second, length-extends old mid first.grows) in
    let ready = second_can d c.args.table.now c.derive.new.table c.args.a c.args.b c.in_ok-after_a.after_a c.requires.first c.requires.second first c.requires.ready in
    (search (rules, smaller), (within, (inside, ready)))

pub derive_both-returns-in_err-after_b : goal.derive_both-returns-in_err-after_b
derive_both-returns-in_err-after_b g t c =
    let d = c.args.self.now in
    second_failed d c.args.table.now c.derive.new.table c.args.a c.args.b c.in_ok-after_a.after_a c.requires.first c.requires.second c.in_ok-after_a.ensures c.derive-2.new.table c.derive-2.new.asks
    c.derive-2.ensures c.from_residual-in_err-after_b.result c.from_residual-in_err-after_b.ensures.0

pub derive_both-returns : goal.derive_both-returns
derive_both-returns g t c =
    let d = c.args.self.now in
    both_derived d c.args.table.now c.derive.new.table c.args.a c.args.b c.in_ok-after_a.after_a c.requires.first c.requires.second c.in_ok-after_a.ensures c.derive-2.new.table c.derive-2.new.asks
    c.in_ok-after_b.after_b c.in_ok-after_b.ensures
