use Rattle.std.proofs.Common.{sym, ◌∙◌, subst, ap}
use Rattle.std.specs.Arc.{arc_value}
use Rattle.poets_syntax.specs.Applied.{CountsFit}
use Rattle.poets_syntax.specs.Contract.{contract_of}
use Rattle.poets_meaning.specs.Studied.{marks_of}
use Rattle.poets_calculus.specs.Normal.{normal}
use Rattle.poets_cons.specs.Table.{contract_of_rows}
use Rattle.poets_norm.proofs.Counts.{CountsFit-normal}
use Rattle.poets_command.specs.Calls.{reply_of}
use Rattle.poets_command.proofs.TypedCommands.{typed_registration}
use Rattle.poets_rules.specs.Rules.{book_of_rules, reports_of_rules}
use Rattle.poets_engine.specs.code.Judgements.{judgement_of}
use Rattle.poets_engine.proofs.Registering.{register_refused, register_kept}
use Rattle.poets_engine.proofs.registration.register.Goals as goal

pub judge-requires : goal.judge-requires
judge-requires g c =
    let rules = c.args.rules.now in
    let term = contract_of (arc_value c.args.term.now) in
    let fit = (typed_registration (book_of_rules rules) (reports_of_rules rules) c.args.name term c.requires.typed).1 in
    let form = c.in_ok-current.ensures.normal ∙ ap (λ t. normal (book_of_rules rules) (marks_of rules.studied) (contract_of t)) c.deref.ensures in
    subst (CountsFit (book_of_rules rules)) (sym form) (CountsFit-normal (book_of_rules rules) (marks_of rules.studied) term fit)

pub returns-in-Refused-clause-ok : goal.returns-in-Refused-clause-ok
returns-in-Refused-clause-ok g c =
    let rules = c.args.rules.now in
    let form = c.in_ok-current.ensures.normal ∙ ap (λ t. normal (book_of_rules rules) (marks_of rules.studied) (contract_of t)) c.deref.ensures in
    register_refused c.args.rules.now c.args.name (contract_of (arc_value c.args.term.now)) c.args.store.now c.requires
    (sym c.in_default.ensures) (contract_of_rows c.in_ok-current.current) (reply_of c.in-Refused.reply) form (sym (ap judgement_of c.in-Refused.is) ∙ c.in_ok-reply.ensures.choice)

pub returns-in_ok-number-in-Owed-clause-ok : goal.returns-in_ok-number-in-Owed-clause-ok
returns-in_ok-number-in-Owed-clause-ok g c =
    let rules = c.args.rules.now in
    let form = c.in_ok-current.ensures.normal ∙ ap (λ t. normal (book_of_rules rules) (marks_of rules.studied) (contract_of t)) c.deref.ensures in
    register_kept c.args.rules.now c.args.name (contract_of (arc_value c.args.term.now)) c.args.store.now c.requires
    (sym c.in_default.ensures) (arc_value c.in_ok-original-in-Owed.original) (arc_value c.in-Owed.current) (ap contract_of c.in_ok-original-in-Owed.ensures) c.add.new.self
    c.in_ok-number-in-Owed.ensures.ok (contract_of_rows c.in_ok-current.current) c.in_ok-number-in-Owed.number
    form (sym (ap judgement_of c.in-Owed.is) ∙ c.in_ok-reply.ensures.choice) c.in_ok-number-in-Owed.ensures.number
