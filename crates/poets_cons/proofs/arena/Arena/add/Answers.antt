use Rattle.std.proofs.Common.{◌≡◌, ◌∙◌, ap, sym, subst, length}
use Rattle.poets_cons.specs.Row.{row_of, AreBelow}
use Rattle.poets_cons.specs.code.Adding.{with_form}
use Rattle.poets_cons.specs.code.Forms.{AreForms, IsFormOf}
use Rattle.poets_cons.proofs.Alikeness.{as_many_forms, classes_later, forms_after}
use Rattle.poets_cons.proofs.arena.Arena.add.Goals as goal

pub form_of-form-requires : goal.form_of-form-requires
form_of-form-requires c =
    let i = rw c.self.view_is at c.self.invariant in
    let n = as_many_forms c.args.self.now c.self.inside.forms.items i.1 in
    let same : length c.as_slice.result.now ≡ length c.args.self.now = ap length (c.as_slice.ensures.value ∙ c.reserve.ensures.items) ∙ n in
    subst (λ k. AreBelow k (row_of c.args.node)) (sym same) c.requires

pub invariant_of-self-2 : goal.invariant_of-self-2
invariant_of-self-2 c =
    let old = c.self.inside.nodes.keys in
    let x = c.in_ok-place.ensures in
    let kept = c.reserve.ensures.items in
    let all : AreForms old c.reserve.new.self.items = kept ∙ c.self.invariant.1 in
    let made : IsFormOf c.reserve.new.self.items c.args.node c.form_of-form.result =
    subst (λ l. IsFormOf l c.args.node c.form_of-form.result) c.as_slice.ensures.value c.form_of-form.ensures in
    let forms = forms_after old c.args.node c.reserve.new.self.items c.form_of-form.result c.in_ok-place.is_new all made in
    let here : AreForms c.insert.new.nodes.keys (with_form c.in_ok-place.is_new c.form_of-form.result c.reserve.new.self.items) =
    subst (λ l. AreForms l (with_form c.in_ok-place.is_new c.form_of-form.result c.reserve.new.self.items)) (sym x.inserted.nodes) forms in (
      x.table,
      c.keep.ensures ∙ here,
      classes_later old c.insert.new.nodes.keys c.self.inside.classes x.grows c.self.invariant.2,
    )
