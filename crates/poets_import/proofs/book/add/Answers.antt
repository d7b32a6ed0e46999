use Rattle.std.proofs.Common.{ap, map, sym, ◌∙◌}
use Rattle.std.proofs.lemmas.Result.{IfOk-weaker}
use Rattle.poets_value.specs.declared.value.Name.{Name}
use Rattle.poets_value.specs.declared.value.Ty.TheVariants as T
use Rattle.poets_command.specs.Declarations.{agents_and_kinds, report_in_statement, template_in_statement}
use Rattle.poets_command.specs.Statements.{statement_of}
use Rattle.poets_import.specs.code.Gathering.{Adds, Declares}
use Rattle.poets_import.proofs.Gatherings.{adds_names}
use Rattle.poets_import.proofs.book.add.Goals as goal

pub returns-in-Kinds : goal.returns-in-Kinds
returns-in-Kinds c =
    let s = statement_of c.args.statement in
    let old = c.args.declared.now in
    let decls = c.declare-in-Kinds.new.decls in
    let types = map (λ (x : Name). (x, T.Kind)) c.as_slice-in-Kinds.result.now in
    let is = ap statement_of c.in-Kinds.is in
    IfOk-weaker c.declare-in-Kinds.result (λ _. Declares types old.book.decls decls)
    (λ _. Adds s old (record { book = record { decls = decls; templates = old.book.templates }; reports = old.reports }))
    (λ _ names.
    adds_names s types old decls
    (ap agents_and_kinds is ∙ ap (map (λ (x : Name). (x, T.Kind))) (sym c.as_slice-in-Kinds.ensures))
    (ap template_in_statement is) (ap report_in_statement is) names)
    c.declare-in-Kinds.ensures
