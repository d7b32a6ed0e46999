use Rattle.std.proofs.Common.{Err, sym, ap, subst, ◌∙◌, arith}
use Rattle.std.proofs.lemmas.Result.{err_from_is_err_and}
use Rattle.poets_grammar.specs.Statements.{IsStatement}
use Rattle.poets_grammar.specs.Tokens.{toks}
use Rattle.poets_command.specs.Calls.{command_of}
use Rattle.poets_command.specs.Said.{Numbered}
use Rattle.poets_command.specs.Statements.{statement_of}
use Rattle.poets_recover.proofs.Saying.{handed_on, none-unnumbered, none-unread}
use Rattle.poets_recover.proofs.reading.call_of.Goals as goal

pub returns-in_err-statement-clause-none : goal.returns-in_err-statement-clause-none
returns-in_err-statement-clause-none c = λ e.
    let told = err_from_is_err_and c.from_residual.result c.from_residual.ensures.1 in let found = c.in_err-statement.ensures in
    none-unread (toks c.args.tokens.now) c.in_err-statement.field-0.0 (handed_on told.1 told.2 e) (λ f. found.none (ap Err f)) (λ f. found.deep (ap Err f))

pub returns-in_default-clause-none : goal.returns-in_default-clause-none
returns-in_default-clause-none c = λ e.
    none-unnumbered (toks c.args.tokens.now) (statement_of c.in_ok-statement.statement) c.in_ok-statement.ensures.found c.in_default.ensures.none

pub returns-clause-said : goal.returns-clause-said
returns-clause-said c = record {
  shallow = c.in_ok-statement.ensures.shallow;
  said =
      subst (IsStatement (toks c.args.tokens.now)) (c.in-Some.ensures.some ∙ ap (λ r. Numbered c.in-Some.clerk (command_of r)) (sym c.in-Ok.ensures.ok))
      c.in_ok-statement.ensures.found;
  from = omega arith;
  to = omega arith;
}
