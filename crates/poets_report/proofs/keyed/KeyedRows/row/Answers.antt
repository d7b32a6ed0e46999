use Rattle.std.proofs.Common.{sym, ◌∙◌, ap, Some, None}
use Rattle.std.specs.Option.{option_copied}
use Rattle.poets_report.proofs.KeyedRows.{joined, found_row}
use Rattle.poets_report.proofs.keyed.KeyedRows.row.Goals as goal

pub returns-in_default : goal.returns-in_default
returns-in_default c =
    found_row c.args.key.now None c.self.inside.cells.entries c.self.inside.undefined c.args.self.now.rows
    c.self.invariant (ap (λ s. s.rows) c.self.view_is) c.in_default.is

pub returns-in-Some-get : goal.returns-in-Some-get
returns-in-Some-get c =
    ap joined (sym (ap option_copied c.in-Some-get.is) ∙ c.get.ensures.value)
    ∙ found_row c.args.key.now (Some c.in-Some.value) c.self.inside.cells.entries c.self.inside.undefined c.args.self.now.rows
    c.self.invariant (ap (λ s. s.rows) c.self.view_is) c.in-Some.is

pub returns-in-None : goal.returns-in-None
returns-in-None c =
    ap joined (sym (ap option_copied c.in-None.is) ∙ c.get.ensures.value)
    ∙ found_row c.args.key.now (Some c.in-Some.value) c.self.inside.cells.entries c.self.inside.undefined c.args.self.now.rows
    c.self.invariant (ap (λ s. s.rows) c.self.view_is) c.in-Some.is
