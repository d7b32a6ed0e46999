use Rattle.std.proofs.Common.{◌≡◌, ◌∙◌, ap}
use Rattle.std.proofs.lemmas.Result.{IfOk-weaker}
use Rattle.poets_syntax.specs.Contract.{contract_of}
use Rattle.poets_cons.specs.Table.{contract_at, contract_of_rows}
use Rattle.poets_cons.proofs.rows.of_term.Goals as goal

pub returns : goal.returns
returns c =
    let root = c.in_ok-root.root in
    let same : contract_at c.nodes.result.now root ≡ contract_of c.args.term.now =
    ap (λ nodes. contract_at nodes root) c.nodes.ensures.nodes ∙ c.in_ok-root.ensures.stands.contract in
    IfOk-weaker c.rows_at.result (λ r. contract_of_rows r ≡ contract_at c.nodes.result.now root) (λ r. contract_of_rows r ≡ contract_of c.args.term.now)
    (λ r e. e ∙ same) c.rows_at.ensures
