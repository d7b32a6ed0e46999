use Rattle.std.proofs.Common.{rules}
use Rattle.std.proofs.lemmas.Bool.{false≢true}
use Rattle.poets_grammar.specs.Tokens.{toks}
use Rattle.poets_parse.proofs.StatementFaults.{read_is, none_is}
use Rattle.poets_parse.proofs.statements.statement_within.Goals as goal

pub returns-then-is_deeper-clause-deep : goal.returns-then-is_deeper-clause-deep
returns-then-is_deeper-clause-deep c = λ e. c.if-is_deeper.ensures.0 (search rules)

pub returns-clause-found : goal.returns-clause-found
returns-clause-found c = read_is (toks c.args.tokens.now) c.in_ok-read_statement.field-0 c.in_ok-read_statement.ensures

pub returns-in_err-read_statement-clause-none : goal.returns-in_err-read_statement-clause-none
returns-in_err-read_statement-clause-none c = λ e. (λ d. false≢true (c.if-is_deeper.ensures.1 d), none_is (toks c.args.tokens.now) c.in_err-read_statement.field-0.0 c.from_residual.result c.in_err-read_statement.ensures c.from_residual.ensures.1 e)
