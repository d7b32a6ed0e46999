use Rattle.std.proofs.Common.{◌∙◌, arith, ap, sym, subst, refl, length, slice_get}
use Rattle.std.proofs.lemmas.Bool.{false≢true}
use Rattle.poets_calculus.proofs.Multisets.{Alike-refl}
use Rattle.poets_cons.specs.Table.{contract_at, AreAlikeAt}
use Rattle.poets_cons.proofs.Alikeness.{as_many_forms, not_alike}
use Rattle.poets_cons.proofs.arena.Arena.alike.Goals as goal

pub returns-then-a-b-clause-alike : goal.returns-then-a-b-clause-alike
returns-then-a-b-clause-alike c =
    (λ t. subst (λ j. AreAlikeAt c.args.self.now c.args.a j) c.if-a-b.true (Alike-refl (contract_at c.args.self.now c.args.a)), λ x. refl)

pub form_at-first-requires : goal.form_at-first-requires
form_at-first-requires c =
    let i = rw c.self.view_is at c.self.invariant in
    let n = as_many_forms c.args.self.now c.self.inside.forms.items i.1 in
    let m = ap length c.as_slice.ensures.value in
    omega (arith, n, m, c.requires.first)

pub form_at-second-requires : goal.form_at-second-requires
form_at-second-requires c =
    let i = rw c.self.view_is at c.self.invariant in
    let n = as_many_forms c.args.self.now c.self.inside.forms.items i.1 in
    let m = ap length c.as_slice-2.ensures.value in
    omega (arith, n, m, c.requires.second)

pub returns-clause-alike : goal.returns-clause-alike
returns-clause-alike c =
    let i = rw c.self.view_is at c.self.invariant in
    let none = sym c.may_be_alike.ensures ∙ c.if-may_be_alike.false in (
      λ t. absurd (false≢true t),
      λ x. absurd (not_alike c.args.self.now i.0 c.args.a c.args.b c.requires.first c.requires.second c.self.inside.forms.items i.1 c.form_at-first.result c.form_at-second.result
          (ap (λ l. slice_get l c.args.a) (sym c.as_slice.ensures.value) ∙ c.form_at-first.ensures)
          (ap (λ l. slice_get l c.args.b) (sym c.as_slice-2.ensures.value) ∙ c.form_at-second.ensures) c.if-a-b.false none x),
    )
