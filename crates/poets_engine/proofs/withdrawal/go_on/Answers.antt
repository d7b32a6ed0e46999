use Rattle.std.proofs.Common.{◌≤◌, ◌+◌, sym, ◌∙◌, ap, subst, arith}
use Rattle.std.proofs.lemmas.List.{take_all}
use Rattle.std.specs.Arc.{arc_value}
use Rattle.poets_syntax.specs.Book.{book_of}
use Rattle.poets_meaning.specs.Studied.{marks_of}
use Rattle.poets_calculus.specs.Residual.{after}
use Rattle.poets_cons.specs.Table.{contract_of_rows}
use Rattle.poets_command.specs.Plain.{Reply}
use Rattle.poets_command.specs.Calls.{reply_of}
use Rattle.poets_engine.specs.Evaluations.{asked_in}
use Rattle.poets_engine.specs.code.Judgements.{KeptFits, judge, judgement_of}
use Rattle.poets_engine.specs.code.Renewals.{by_events}
use Rattle.poets_engine.proofs.Renewing.{next_judged, next_asked, refused_early, asked_within}
use Rattle.poets_engine.proofs.withdrawal.go_on.Goals as goal

pub returns-in_err-reply-clause-asks : goal.returns-in_err-reply-clause-asks
returns-in_err-reply-clause-asks g c =
    let s = c.args.studied.now in
    let here = subst (λ t. c.take_event.new.asks ≤ c.loop-event.asks + asked_in s (contract_of_rows t)) c.deref.ensures c.take_event.ensures.asks in
    let within = asked_within s (contract_of_rows (arc_value c.args.owed)) c.args.events.now c.loop-event.event-index c.event-item.result c.loop-event-test.true c.event-item.is
    (contract_of_rows (arc_value c.loop-event.owed)) c.loop-event.invariant.owed in
    let so_far = c.loop-event.invariant.asks in
    omega (arith, here, within, so_far)

pub returns-in-Refused-clause-choice : goal.returns-in-Refused-clause-choice
returns-in-Refused-clause-choice g c =
    let s = c.args.studied.now in
    let judged = ap (λ t. judge s Reply.Unmatched (after (book_of s.book) (marks_of s) c.event-item.result (contract_of_rows t))) (sym c.deref.ensures)
    ∙ sym c.in_ok-reply.ensures.choice ∙ ap judgement_of c.in-Refused.is in
    sym (refused_early s (contract_of_rows (arc_value c.args.owed)) c.args.events.now c.loop-event.event-index c.event-item.result c.loop-event-test.true c.event-item.is
    (contract_of_rows (arc_value c.loop-event.owed)) c.loop-event.invariant.owed (reply_of c.in-Refused.reply) judged)

pub returns-in-Refused-clause-asks : goal.returns-in-Refused-clause-asks
returns-in-Refused-clause-asks g c =
    let s = c.args.studied.now in
    let here = subst (λ t. c.take_event.new.asks ≤ c.loop-event.asks + asked_in s (contract_of_rows t)) c.deref.ensures c.take_event.ensures.asks in
    let within = asked_within s (contract_of_rows (arc_value c.args.owed)) c.args.events.now c.loop-event.event-index c.event-item.result c.loop-event-test.true c.event-item.is
    (contract_of_rows (arc_value c.loop-event.owed)) c.loop-event.invariant.owed in
    let so_far = c.loop-event.invariant.asks in
    omega (arith, here, within, so_far)

pub loop-event-preserved : goal.loop-event-preserved
loop-event-preserved g c =
    let s = c.args.studied.now in
    let first = contract_of_rows (arc_value c.args.owed) in
    let so_far = contract_of_rows (arc_value c.loop-event.owed) in
    let judged = ap (λ t. judge s Reply.Unmatched (after (book_of s.book) (marks_of s) c.event-item.result (contract_of_rows t))) (sym c.deref.ensures)
    ∙ sym c.in_ok-reply.ensures.choice ∙ ap judgement_of c.in-Owed.is in
    let here = subst (λ t. c.take_event.new.asks ≤ c.loop-event.asks + asked_in s (contract_of_rows t)) c.deref.ensures c.take_event.ensures.asks in
    let more = next_asked s first c.args.events.now c.loop-event.event-index c.event-item.result c.loop-event-test.true c.event-item.is so_far c.loop-event.invariant.owed in
    let asked = c.loop-event.invariant.asks in
    let rose = c.loop-event.invariant.rises in
    let rises = c.take_event.ensures.rises in
    record {
      owed = next_judged s first c.args.events.now c.loop-event.event-index c.event-item.result c.loop-event-test.true c.event-item.is so_far c.loop-event.invariant.owed ∙ judged;
      fits = subst (KeptFits (book_of s.book)) (ap judgement_of c.in-Owed.is) c.in_ok-reply.ensures.fits;
      asks = omega (arith, here, more, asked);
      rises = omega (arith, rose, rises);
    }

pub returns-clause-choice : goal.returns-clause-choice
returns-clause-choice g c =
    let over = c.loop-event-test.false in
    sym c.loop-event.invariant.owed
    ∙ ap (by_events c.args.studied.now (contract_of_rows (arc_value c.args.owed))) (take_all c.loop-event.event-index c.args.events.now (omega (arith, over)))
