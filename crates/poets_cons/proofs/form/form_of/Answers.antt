use Rattle.std.proofs.Common.{◌∙◌, ◌+◌, ap, ap₂, sym}
use Rattle.poets_cons.specs.Table.{contract_at, contract_of_node}
use Rattle.poets_cons.specs.code.Forms.{cut, form_of, single_form, joined_form, both_forms}
use Rattle.poets_cons.proofs.Formed.{form_here, form_after, form_joined, form_beside}
use Rattle.poets_cons.proofs.form.form_of.Goals as goal

pub returns-in-Par : goal.returns-in-Par
returns-in-Par c = λ nodes all.
    c.beside.ensures
    ∙ ap₂ both_forms (form_here nodes c.args.forms.now all c.in-Par.a c.form_at-in-Par.result c.form_at-in-Par.ensures)
    (form_here nodes c.args.forms.now all c.in-Par.b c.form_at-in-Par-2.result c.form_at-in-Par-2.ensures)
    ∙ form_beside (contract_at nodes c.in-Par.a) (contract_at nodes c.in-Par.b) ∙ ap (λ n. form_of (contract_of_node nodes n)) (sym c.in-Par.is)

pub returns-in-Transmit : goal.returns-in-Transmit
returns-in-Transmit c = λ nodes all.
    c.after.ensures
    ∙ ap (λ f. single_form (cut (1 + f.weight)) f.parallel) (form_here nodes c.args.forms.now all c.in-Transmit.then c.form_at.result c.form_at.ensures)
    ∙ form_after (contract_at nodes c.in-Transmit.then) ∙ ap (λ n. form_of (contract_of_node nodes n)) (sym c.in-Transmit.is)

pub returns-in-Plus : goal.returns-in-Plus
returns-in-Plus c = λ nodes all.
    c.joined.ensures
    ∙ ap₂ joined_form (form_here nodes c.args.forms.now all c.in-Plus.a c.form_at-in-Plus.result c.form_at-in-Plus.ensures)
    (form_here nodes c.args.forms.now all c.in-Plus.b c.form_at-in-Plus-2.result c.form_at-in-Plus-2.ensures)
    ∙ form_joined (contract_at nodes c.in-Plus.a) (contract_at nodes c.in-Plus.b) ∙ ap (λ n. form_of (contract_of_node nodes n)) (sym c.in-Plus.is)

pub returns-in-Seq : goal.returns-in-Seq
returns-in-Seq c = λ nodes all.
    c.joined-in-Seq.ensures
    ∙ ap₂ joined_form (form_here nodes c.args.forms.now all c.in-Seq.a c.form_at-in-Seq.result c.form_at-in-Seq.ensures)
    (form_here nodes c.args.forms.now all c.in-Seq.b c.form_at-in-Seq-2.result c.form_at-in-Seq-2.ensures)
    ∙ form_joined (contract_at nodes c.in-Seq.a) (contract_at nodes c.in-Seq.b) ∙ ap (λ n. form_of (contract_of_node nodes n)) (sym c.in-Seq.is)
