use Rattle.std.proofs.Common.{ap, ◌∙◌}
use Rattle.std.proofs.lemmas.Result.{IfOk-weaker}
use Rattle.poets_grammar.specs.Tokens.{toks}
use Rattle.poets_syntax.specs.Contract.{contract_of}
use Rattle.poets_command.specs.Statements.{statement_of}
use Rattle.poets_import.specs.Phrases.{Owed, Say}
use Rattle.poets_import.specs.code.Spoken.{Registers}
use Rattle.poets_import.proofs.OneWay.{owed_registers, owed_said}
use Rattle.poets_import.proofs.phrases.contract.Goals as goal

pub returns-clause-said : goal.returns-clause-said
returns-clause-said c =
    let ts = toks c.args.tokens.now in
    let us = toks c.as_slice.result.now in
    let s = statement_of c.in_ok-statement.statement in
    IfOk-weaker c.contract_in.result (λ t. Registers (contract_of t) s) (λ t. Say ts (Owed (contract_of t)))
    (λ t registers. owed_said ts us s (contract_of t) (ap toks c.as_slice.ensures ∙ c.in_ok-registered.ensures.tokens) c.in_ok-statement.ensures.said registers)
    c.contract_in.ensures.some

pub returns-clause-none : goal.returns-clause-none
returns-clause-none c = λ e owed h.
    c.contract_in.ensures.none e owed
    (owed_registers (toks c.args.tokens.now) (toks c.as_slice.result.now) (statement_of c.in_ok-statement.statement) owed
    (ap toks c.as_slice.ensures ∙ c.in_ok-registered.ensures.tokens) c.in_ok-statement.ensures.said h)
