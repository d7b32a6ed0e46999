use Rattle.std.proofs.Common.{◌≡◌, IfErr, sym, subst}
use Rattle.std.proofs.lemmas.Result.{IfErr-weaker, err_from_is_err_and}
use Rattle.poets_lex.specs.Lexes.{Lexes, FirstFault}
use Rattle.poets_grammar.specs.Tokens.{AreNatural, toks}
use Rattle.poets_grammar.proofs.Lexed.{read_natural}
use Rattle.poets_session.specs.Pieces.{pieces_of}
use Rattle.poets_session.specs.Refusals.{IsStopped, IsUnreadable}
use Rattle.poets_session.specs.Causes.{IsCauseOf}
use Rattle.poets_session.proofs.Refusing.{lex_unreadable, stopped_unreadable}
use Rattle.poets_session.proofs.reading.read_statements.Goals as goal

pub returns-in_err-tokens-clause-unreadable : goal.returns-in_err-tokens-clause-unreadable
returns-in_err-tokens-clause-unreadable c =
    let fault = c.in_err-tokens.field-0.0 in let e = err_from_is_err_and c.from_residual.result c.from_residual.ensures.1 in
    rw (e.1, e.2) (lex_unreadable c.args.text.now c.tokens.new.names fault (subst (λ t. (fault ≡ _ → ⊥) → FirstFault t c.args.text.now fault) c.requires.empty c.in_err-tokens.ensures.fault))

pub statements-requires : goal.statements-requires
statements-requires c = subst AreNatural (sym c.as_slice.ensures) (read_natural c.in_ok-tokens.ensures.ok)

pub returns-clause-unreadable : goal.returns-clause-unreadable
returns-clause-unreadable c =
    let text = c.args.text.now in let names = c.tokens.new.names in let items = c.in_ok-tokens.tokens.items in
    let lexed = subst (λ t. Lexes t text 0 items names) c.requires.empty c.in_ok-tokens.ensures.ok in
    IfErr-weaker c.statements.result (IsCauseOf (IsStopped (pieces_of (toks items)))) (IsCauseOf (IsUnreadable text names)) (λ cause h. stopped_unreadable text names items cause lexed h)
    (subst (λ l. IfErr c.statements.result (IsCauseOf (IsStopped (pieces_of (toks l))))) c.as_slice.ensures c.statements.ensures.stopped)
