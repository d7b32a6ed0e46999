use Rattle.std.proofs.Common.{subst}
use Rattle.std.specs.Prelude.{IfOk}
use Rattle.std.proofs.lemmas.Result.{IfOk-weaker}
use Rattle.poets_history.specs.Ledger.{ledger_of}
use Rattle.poets_engine.specs.Accounts.{AccountsAfterCalls, HasFormedAccount}
use Rattle.poets_engine.specs.State.{commands_of, plain_calls}
use Rattle.poets_engine.proofs.Accounted.{accounted_after}
use Rattle.poets_engine.proofs.engine.Engine.account.Goals as goal

pub account_named-requires : goal.account_named-requires
account_named-requires c =
    let stands = c.self.invariant.0 in
    record { ledger = ledger_of stands.history; is = stands.ledger }

pub returns-clause-account : goal.returns-clause-account
returns-clause-account c =
    let calls = plain_calls (commands_of c.self.inside.history.items) in
    subst (λ e. IfOk c.account_named.result (AccountsAfterCalls e c.args.name)) c.self.view_is (
    IfOk-weaker c.account_named.result _ _
    (λ found is. accounted_after c.self.inside.rules calls c.self.inside.store c.args.name found c.self.invariant.0 is) c.account_named.ensures
    )

pub returns-clause-formed : goal.returns-clause-formed
returns-clause-formed c =
    subst (λ e. IfOk c.account_named.result (HasFormedAccount e)) c.self.view_is (IfOk-weaker c.account_named.result _ _ (λ found is. is.formed) c.account_named.ensures)
