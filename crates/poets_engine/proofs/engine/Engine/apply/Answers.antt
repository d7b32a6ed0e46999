use Rattle.std.proofs.Common.{◌≡◌, ◌++◌, ◌∷◌, [], length, sym, ◌∙◌, ap, subst}
use Rattle.std.specs.Arc.{arc_value}
use Rattle.poets_command.specs.Calls.{command_of}
use Rattle.poets_rules.specs.Rules.{book_of_rules, reports_of_rules}
use Rattle.poets_history.specs.Ledger.{ledger_of}
use Rattle.poets_engine.specs.declared.kept.Kept.{Kept}
use Rattle.poets_engine.specs.State.{commands_of, plain_calls, OwesNext}
use Rattle.poets_engine.specs.Rows.{IsStoreOf}
use Rattle.poets_engine.specs.Works.{OwesReply}
use Rattle.poets_engine.proofs.Folios.{body_makes, body_owes, body_refused}
use Rattle.poets_engine.proofs.Histories.{stands_more, commands_last, plain_last, length-plain_calls}
use Rattle.poets_engine.proofs.engine.Engine.apply.Goals as goal

pub step-requires-clause-kept : goal.step-requires-clause-kept
step-requires-clause-kept g c =
    let stands = c.self.invariant.0 in
    record { ledger = ledger_of stands.history; is = stands.ledger }

pub invariant_of-self-2 : goal.invariant_of-self-2
invariant_of-self-2 g c =
    let same = c.in_ok-kept.ensures ∙ sym c.deref.ensures in
    let items = c.in-Ok.ensures.ok ∙ ap (λ h. h ++ (c.args.clerk, c.in_ok-kept.kept) ∷ []) c.in_ok-reserve.ensures.items in
    let calls : plain_calls (commands_of c.push.new.self.items) ≡ plain_calls (commands_of c.self.inside.history.items) ++ (c.args.clerk, command_of c.deref.result.now) ∷ [] =
    ap plain_calls (commands_last c.self.inside.history.items c.push.new.self.items c.args.clerk c.in_ok-kept.kept c.deref.result.now items same)
    ∙ plain_last (commands_of c.self.inside.history.items) c.args.clerk c.deref.result.now in
    let made = body_makes c.self.inside.rules (command_of c.deref.result.now) c.self.inside.store c.step.new.store c.in_ok-body.body c.in_ok-body.ensures.ok in (
      subst (λ cs. IsStoreOf c.self.inside.rules cs c.step.new.store) (sym calls)
          (stands_more c.self.inside.rules (plain_calls (commands_of c.self.inside.history.items)) (command_of c.deref.result.now)
          made.0 c.self.inside.store c.step.new.store c.self.invariant.0 made.1 c.args.clerk),
      c.step.ensures.copies,
    )

pub returns-clause-owes : goal.returns-clause-owes
returns-clause-owes g c =
    let rules = c.self.inside.rules in
    let calls = plain_calls (commands_of c.self.inside.history.items) in
    let kept : Kept = record { place = c.len-place.result; body = c.in_ok-body.body } in
    subst (λ e. OwesNext e (arc_value c.args.command.now) kept) c.self.view_is (record {
      place = c.len-place.ensures ∙ ap length c.in_ok-reserve.ensures.items ∙ sym (length-plain_calls c.self.inside.history.items);
      reply = subst (λ x. OwesReply (book_of_rules rules) (reports_of_rules rules) calls (command_of x) c.in_ok-body.body) c.deref.ensures
          (body_owes rules (command_of c.deref.result.now) c.self.inside.store c.step.new.store calls c.in_ok-body.body c.self.invariant.0 c.in_ok-body.ensures.ok);
    })

pub returns-clause-refused : goal.returns-clause-refused
returns-clause-refused g c = λ refusal.
    body_refused c.self.inside.rules (command_of c.deref.result.now) c.self.inside.store c.step.new.store c.in_ok-body.body c.in_ok-body.ensures.ok refusal
    ∙ ap (λ e. e.store) c.self.view_is
