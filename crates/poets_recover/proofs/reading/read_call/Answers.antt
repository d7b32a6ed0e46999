use Rattle.std.proofs.Common.{List, sym, subst}
use Rattle.std.proofs.lemmas.Result.{IfOk-weaker, err_from_is_err_and}
use Rattle.poets_lex.specs.declared.token.Token.{Token}
use Rattle.poets_grammar.specs.Tokens.{AreNatural, toks}
use Rattle.poets_grammar.proofs.Lexed.{read_natural}
use Rattle.poets_recover.specs.code.Reading.{AreTokensOf, AreTokensOfNone, SaysCallOf}
use Rattle.poets_recover.proofs.Saying.{handed_on, none-uncut, none-tokens}
use Rattle.poets_recover.proofs.reading.read_call.Goals as goal

pub returns-in_err-tokens-clause-none : goal.returns-in_err-tokens-clause-none
returns-in_err-tokens-clause-none c = λ e.
    let told = err_from_is_err_and c.from_residual.result c.from_residual.ensures.1 in
    none-uncut c.args.names.now c.args.text.now c.in_err-tokens.field-0.0 (handed_on told.1 told.2 e) c.in_err-tokens.ensures.fault

pub call_of-requires : goal.call_of-requires
call_of-requires c = subst AreNatural (sym c.as_slice.ensures) (read_natural c.in_ok-tokens.ensures.ok)

pub returns-clause-said : goal.returns-clause-said
returns-clause-said c =
    let before = c.args.names.now in let text = c.args.text.now in let items = c.in_ok-tokens.tokens.items in let after = c.tokens.new.names in
    IfOk-weaker c.call_of.result (AreTokensOf (toks items)) (SaysCallOf before text after)
    (λ call say. record { tokens = items; lexed = c.in_ok-tokens.ensures.ok; say = say })
    (rw c.as_slice.ensures at c.call_of.ensures.said)

pub returns-clause-none : goal.returns-clause-none
returns-clause-none c = λ e.
    none-tokens c.args.names.now c.args.text.now c.in_ok-tokens.tokens.items c.tokens.new.names c.in_ok-tokens.ensures.ok
    (subst (λ (ts : List Token). AreTokensOfNone (toks ts)) c.as_slice.ensures (c.call_of.ensures.none e))
