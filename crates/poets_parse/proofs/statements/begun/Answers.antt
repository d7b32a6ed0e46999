use Rattle.std.proofs.Common.{Some, refl, sym, ap, ◌∙◌, rules}
use Rattle.std.proofs.lemmas.Bool.{false≢true}
use Rattle.poets_grammar.specs.Tokens.{toks}
use Rattle.poets_grammar.proofs.Statements.{no_sentence}
use Rattle.poets_parse.proofs.StatementFaults.{unfit_was, begun_unfit, begun_all}
use Rattle.poets_parse.proofs.statements.begun.Goals as goal

pub returns-then-is_too_deep-clause-whole : goal.returns-then-is_too_deep-clause-whole
returns-then-is_too_deep-clause-whole c = λ shallow. absurd (shallow (c.if-is_too_deep.ensures.0 (search rules)))

pub returns-then-is_too_deep-clause-exact : goal.returns-then-is_too_deep-clause-exact
returns-then-is_too_deep-clause-exact c = (λ shallow. absurd (shallow (c.if-is_too_deep.ensures.0 (search rules))), λ deep. refl)

pub returns-in-Some-Unfit-clause-whole : goal.returns-in-Some-Unfit-clause-whole
returns-in-Some-Unfit-clause-whole c = λ _ s i.
    let ts = toks c.args.tokens.now in let w = c.in-Some-Unfit in
    absurd (no_sentence ts w.left (unfit_was ts c.read_statement.result w.left c.read_statement.ensures (sym c.err.ensures.value ∙ w.is ∙ ap Some w.field-0-is)) s i)

pub returns-in-Some-Unfit-clause-exact : goal.returns-in-Some-Unfit-clause-exact
returns-in-Some-Unfit-clause-exact c =
    let tokens = c.args.tokens.now in let w = c.in-Some-Unfit in (
      λ shallow. begun_unfit tokens c.read_statement.result w.left _ c.read_statement.ensures (sym c.err.ensures.value ∙ w.is ∙ ap Some w.field-0-is) c.saturating_sub.ensures,
      λ deep. absurd (false≢true (c.if-is_too_deep.ensures.1 deep)),
    )

pub returns-in-None-clause-exact : goal.returns-in-None-clause-exact
returns-in-None-clause-exact c = (
  λ shallow. begun_all c.args.tokens.now c.read_statement.result _ c.read_statement.ensures (sym c.err.ensures.value ∙ c.in-None.is) refl,
  λ deep. absurd (false≢true (c.if-is_too_deep.ensures.1 deep)),
)
