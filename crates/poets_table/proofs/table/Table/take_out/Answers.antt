use Rattle.std.proofs.Common.{◌≡◌, ◌-◌, map, sym, ◌∙◌, ap, subst, arith}
use Rattle.std.specs.Prelude.{remove}
use Rattle.std.specs.Arc.{arc_value}
use Rattle.poets_table.specs.Kept.{AreOfLog}
use Rattle.poets_table.specs.TableView.{IsCutOf, changed_at, row_view, taken_out, values_of}
use Rattle.poets_table.specs.code.Rows.{with_parts}
use Rattle.poets_table.proofs.Logs.{cut-alike, cut-less, less-of_log}
use Rattle.poets_table.proofs.table.Table.take_out.Goals as goal

pub remove-pair-requires : goal.remove-pair-requires
remove-pair-requires g c =
    let h = subst (λ t. IsCutOf t.rows t.log c.args.cut) (sym c.self.view_is) c.requires.cut in
    let less = cut-less (map row_view c.self.inside.rows.items) c.self.inside.log.items c.args.cut h c.self.invariant.2 in
    let within = less.within in
    let same = ap (λ v. v.log_place) c.cut.view_is in
    omega (arith, within, same)

pub invariant_of-self : goal.invariant_of-self
invariant_of-self g c =
    let cut = c.args.cut in
    let old = map row_view c.self.inside.rows.items in
    let new = map row_view c.replace_at.new.rows.items in
    let h = subst (λ t. IsCutOf t.rows t.log cut) (sym c.self.view_is) c.requires.cut in
    let v = c.cut.view_is in
    let changed = subst (λ n. new ≡ changed_at (with_parts c.cut.inside.rest c.args.current c.args.points) (n - 1) old) (ap (λ v. v.number) v) c.replace_at.ensures.same in
    let alike = cut-alike c.cut.inside.rest cut c.args.current c.args.points old (sym (ap (λ v. v.events) v)) (sym (ap (λ v. v.starts) v)) h.row in
    let log = c.remove-pair.ensures.items ∙ ap (remove c.self.inside.log.items) (ap (λ v. v.log_place) v) in (
      c.self.invariant.0 ∙ sym c.replace_at.ensures.names,
      λ h. absurd (omega (arith, h)),
      subst (λ log. AreOfLog new log) (sym log)
          (less-of_log cut (arc_value c.args.current) (values_of c.args.points) old new c.self.inside.log.items h (changed ∙ alike) c.self.invariant.2),
    )

pub returns-clause-rows : goal.returns-clause-rows
returns-clause-rows g c =
    let cut = c.args.cut in
    let old = map row_view c.self.inside.rows.items in
    let new = map row_view c.replace_at.new.rows.items in
    let h = subst (λ t. IsCutOf t.rows t.log cut) (sym c.self.view_is) c.requires.cut in
    let v = c.cut.view_is in
    let changed = subst (λ n. new ≡ changed_at (with_parts c.cut.inside.rest c.args.current c.args.points) (n - 1) old) (ap (λ v. v.number) v) c.replace_at.ensures.same in
    changed ∙ cut-alike c.cut.inside.rest cut c.args.current c.args.points old (sym (ap (λ v. v.events) v)) (sym (ap (λ v. v.starts) v)) h.row
    ∙ ap (λ t. taken_out cut c.args.current c.args.points t.rows) c.self.view_is
