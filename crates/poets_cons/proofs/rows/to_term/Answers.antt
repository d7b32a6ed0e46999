use Rattle.std.proofs.Common.{◌≡◌, ◌∙◌, ap, []}
use Rattle.std.proofs.lemmas.Result.{IfOk-weaker}
use Rattle.poets_syntax.specs.Contract.{contract_of}
use Rattle.poets_syntax.specs.Replace.{replace}
use Rattle.poets_syntax.proofs.Copying.{replace-none}
use Rattle.poets_cons.specs.Table.{contract_at, contract_of_rows}
use Rattle.poets_cons.proofs.rows.to_term.Goals as goal

pub returns : goal.returns
returns c =
    let rows = c.args.rows.now in
    let place = c.root-root.result in
    let same : contract_at c.nodes.result.now place ≡ contract_of_rows rows =
    ap (λ nodes. contract_at nodes place) c.nodes.ensures.nodes ∙ c.root-root.ensures.contract in
    IfOk-weaker c.replaced_at.result (λ t. contract_of t ≡ replace [] (contract_at c.nodes.result.now place)) (λ t. contract_of t ≡ contract_of_rows rows)
    (λ t e. e ∙ replace-none (contract_at c.nodes.result.now place) ∙ same) c.replaced_at.ensures
