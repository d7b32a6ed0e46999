-- A book without templates: the marks that say no are right, and no application has a template.
use Rattle.std.proofs.Common.{◌≡◌, Some}
use Rattle.poets_value.specs.declared.value.Name.{Name}
use Rattle.poets_expr.specs.Env.{Declared}
use Rattle.poets_syntax.specs.Contract.{Contract, Success, Failure, Transmit, Plus, Par, Seq, App}
use Rattle.poets_syntax.specs.Plain.{Template}
use Rattle.poets_syntax.specs.Book.{template_in}
use Rattle.poets_syntax.specs.WellFormed.{AreWellFormed}
use Rattle.poets_meaning.specs.Marks.{AreRight}
use Rattle.poets_meaning.specs.NoTemplates.{without_templates, no_marks}
use Rattle.poets_norm.specs.Laws.{CountsFit}

no_template : (declared : Declared) (f : Name) (t : Template) → template_in (without_templates declared).templates f ≡ Some t → ⊥
no_template declared f t q = cc

pub AreRight-without_templates : (declared : Declared) → AreRight (without_templates declared) no_marks
AreRight-without_templates declared = record {
  nullable = λ f. ((λ e. absurd cc), (λ b. absurd (no_template declared f b.0 b.1)));
  hopeful = λ f. ((λ e. absurd cc), (λ b. absurd (no_template declared f b.0 b.1)));
}

pub AreWellFormed-without_templates : (declared : Declared) → AreWellFormed (without_templates declared)
AreWellFormed-without_templates declared f t q = absurd (no_template declared f t q)

pub CountsFit-without_templates : (declared : Declared) (c : Contract) → CountsFit (without_templates declared) c
CountsFit-without_templates declared Success = tt
CountsFit-without_templates declared Failure = tt
CountsFit-without_templates declared (Transmit b p c) = CountsFit-without_templates declared c
CountsFit-without_templates declared (Plus a b) = (CountsFit-without_templates declared a, CountsFit-without_templates declared b)
CountsFit-without_templates declared (Par a b) = (CountsFit-without_templates declared a, CountsFit-without_templates declared b)
CountsFit-without_templates declared (Seq a b) = (CountsFit-without_templates declared a, CountsFit-without_templates declared b)
CountsFit-without_templates declared (App f args) = λ t q. absurd (no_template declared f t q)
