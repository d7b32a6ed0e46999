use Rattle.std.proofs.Common.{ℕ, List, subst}
use Rattle.poets_import.specs.code.Spoken.{IsCalled}
use Rattle.poets_import.proofs.Texts.{same_found}
use Rattle.poets_import.proofs.spoken.row_name.Goals as goal

pub returns-clause-none : goal.returns-clause-none
returns-clause-none c = λ e x after h.
    c.name_in.ensures.none e x after
    (subst (λ (t : List ℕ). IsCalled c.args.names.now t x after) (same_found c.in-Some.ensures h.1) h.2)
