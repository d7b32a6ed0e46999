use Rattle.std.proofs.Common.{◌≡◌, Some, None, sym, ◌∙◌, ap, subst}
use Rattle.std.specs.Prelude.{IfSome, option_map}
use Rattle.std.proofs.lemmas.Result.{IfOk-weaker}
use Rattle.poets_lex.specs.Table.{place_of}
use Rattle.poets_rules.specs.Rules.{book_of_rules, reports_of_rules}
use Rattle.poets_history.specs.Frame.{frame_of}
use Rattle.poets_history.specs.Ledger.{ledger_of}
use Rattle.poets_engine.specs.Accounts.{Accounts, IsFormedAccount}
use Rattle.poets_print.specs.Texts.{IsText}
use Rattle.poets_top.specs.Explaining.{Explains, absent_line}
use Rattle.poets_top.specs.code.Explained.{ExplainsAccount, ExplainsAfter}
use Rattle.poets_top.proofs.Telling.{explained, unknown_contract, unknown_name}
use Rattle.poets_top.proofs.explaining.explanation.Goals as goal

pub returns-in_default : goal.returns-in_default
returns-in_default c =
    let none : place_of c.args.name.now c.args.names.now ≡ None = sym c.find.ensures ∙ ap (option_map (λ n. n.id)) c.in_default.is in
    IfOk-weaker c.absent_line.result (IsText (absent_line c.args.name.now)) (ExplainsAfter c.args.engine.now c.args.names.now c.args.name.now)
    (λ text is. λ h noted.
    let f = frame_of (book_of_rules c.args.engine.now.rules) (reports_of_rules c.args.engine.now.rules) in
    subst (Explains f c.args.names.now (ledger_of h) c.args.name.now) (sym is) (unknown_name f c.args.names.now (ledger_of h) c.args.name.now none))
    c.absent_line.ensures

pub returns-in-None : goal.returns-in-None
returns-in-None c =
    let at : place_of c.args.name.now c.args.names.now ≡ Some c.in-Some.found.id = sym c.find.ensures ∙ ap (option_map (λ n. n.id)) c.in-Some.is in
    IfOk-weaker c.absent_line-in-None.result (IsText (absent_line c.args.name.now)) (ExplainsAfter c.args.engine.now c.args.names.now c.args.name.now)
    (λ text is. λ h noted.
    let none = subst (Accounts c.args.engine.now.rules.studied (ledger_of h) c.in-Some.found) c.in-None.is (c.in_ok-account.ensures.account h noted.legal noted.calls) in
    let f = frame_of (book_of_rules c.args.engine.now.rules) (reports_of_rules c.args.engine.now.rules) in
    subst (Explains f c.args.names.now (ledger_of h) c.args.name.now) (sym is)
    (unknown_contract f c.args.names.now (ledger_of h) c.args.name.now c.in-Some.found at none))
    c.absent_line-in-None.ensures

pub returns-in-Some-2 : goal.returns-in-Some-2
returns-in-Some-2 c =
    let at : place_of c.args.name.now c.args.names.now ≡ Some c.in-Some.found.id = sym c.find.ensures ∙ ap (option_map (λ n. n.id)) c.in-Some.is in
    let studied = c.args.engine.now.rules.studied in
    let formed = subst (λ found. IfSome found (IsFormedAccount studied)) c.in-Some-2.is c.in_ok-account.ensures.formed in
    IfOk-weaker c.account_text.result (ExplainsAccount c.studied.result.now c.args.names.now c.args.name.now c.in-Some-2.account)
    (ExplainsAfter c.args.engine.now c.args.names.now c.args.name.now)
    (λ text e. λ h noted.
    explained studied (reports_of_rules c.args.engine.now.rules) c.args.names.now (ledger_of h) c.args.name.now c.in-Some.found c.in-Some-2.account text at
    (subst (Accounts studied (ledger_of h) c.in-Some.found) c.in-Some-2.is (c.in_ok-account.ensures.account h noted.legal noted.calls)) formed
    (subst (λ s. ExplainsAccount s c.args.names.now c.args.name.now c.in-Some-2.account text) c.studied.ensures e))
    c.account_text.ensures
