use Rattle.std.proofs.Common.{◌∙◌, arith, ap, sym, length, slice_get}
use Rattle.poets_cons.proofs.Alikeness.{as_many_forms}
use Rattle.poets_cons.proofs.Formed.{form_here}
use Rattle.poets_cons.proofs.arena.Arena.is_grouped.Goals as goal

pub form_at-requires : goal.form_at-requires
form_at-requires c =
    let i = rw c.self.view_is at c.self.invariant in
    let n = as_many_forms c.args.self.now c.self.inside.forms.items i.1 in
    let m = ap length c.as_slice.ensures.value in
    omega (arith, n, m, c.requires)

pub returns : goal.returns
returns c =
    let i = rw c.self.view_is at c.self.invariant in
    ap (λ f. f.grouped) (form_here c.args.self.now c.self.inside.forms.items i.1 c.args.place c.form_at.result
    (ap (λ l. slice_get l c.args.place) (sym c.as_slice.ensures.value) ∙ c.form_at.ensures))
