use Rattle.std.proofs.Common.{true, Err, subst, sym, ap}
use Rattle.poets_grammar.specs.Tokens.{toks}
use Rattle.poets_session.specs.Refusals.{IsUnread}
use Rattle.poets_session.specs.Causes.{IsCauseOf}
use Rattle.poets_session.specs.code.Splitting.{piece}
use Rattle.poets_session.specs.declared.fault.SessionCause.TheVariants as C
use Rattle.poets_session.proofs.Saying.{tells_unread}
use Rattle.poets_session.proofs.splitting.read_statement.Goals as goal

pub returns-then-not-ended-clause-unread : goal.returns-then-not-ended-clause-unread
returns-then-not-ended-clause-unread c =
    subst (λ b. IsCauseOf (IsUnread (piece (toks c.args.tokens.now) b) c.args.number) (C.Syntax c.args.number c.unended.result)) (sym c.if-not-ended.true) (c.unended.ensures c.args.number)

pub returns-in-Err-clause-unread : goal.returns-in-Err-clause-unread
returns-in-Err-clause-unread c =
    let ts = toks c.args.tokens.now in let n = c.args.number in
    let told = tells_unread ts n c.in-Err.fault (λ e. c.in-Err.ensures.deep (ap Err e)) (λ e. c.in-Err.ensures.none (ap Err e)) in
    subst (λ b. IsCauseOf (IsUnread (piece ts b) n) c.cause_of.result) (sym c.if-not-ended.false)
    (subst (IsCauseOf (IsUnread (piece ts true) n)) (sym c.cause_of.ensures) told)
