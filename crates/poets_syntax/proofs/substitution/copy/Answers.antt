use Rattle.std.proofs.Common.{◌≡◌, ◌∙◌, []}
use Rattle.std.proofs.lemmas.Result.{IfOk-weaker}
use Rattle.poets_syntax.specs.Contract.{contract_of}
use Rattle.poets_syntax.specs.Replace.{replace}
use Rattle.poets_syntax.proofs.Copying.{replace-none}
use Rattle.poets_syntax.proofs.substitution.copy.Goals as goal

pub returns : goal.returns
returns c =
    let before = contract_of c.args.term.now in
    IfOk-weaker c.subst.result (λ r. contract_of r ≡ replace [] before) (λ r. contract_of r ≡ before)
    (λ r e. e ∙ replace-none before) c.subst.ensures
