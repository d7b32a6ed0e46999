use Rattle.std.proofs.Common.{◌++◌, List, sym, ap, ◌∙◌}
use Rattle.std.proofs.lemmas.List.{take_all}
use Rattle.poets_syntax.specs.Plain.{Template}
use Rattle.poets_report.specs.Plain.{Report}
use Rattle.poets_command.specs.Statements.{statement_of}
use Rattle.poets_command.specs.Declarations.{template_in_statement, report_in_statement}
use Rattle.poets_types.proofs.Declaring.{flat_map-more, declared_by-more, same_books}
use Rattle.poets_types.proofs.book.gather.Goals as goal

pub loop-statement-preserved : goal.loop-statement-preserved
loop-statement-preserved c =
    let i = c.loop-statement.statement-index in
    let s = c.statement-item.result in
    let statements = c.args.statements.now in
    record {
      declared = λ x.
          let more = declared_by-more statements i s x c.loop-statement-test.true c.statement-item.is in
          let kept = c.loop-statement.invariant.declared x in
          rw (more, ← kept) (c.in_ok-add.ensures.declared x);
      templates =
          c.in_ok-add.ensures.templates ∙ ap (λ (ts : List Template). ts ++ template_in_statement (statement_of s)) c.loop-statement.invariant.templates
          ∙ sym (flat_map-more template_in_statement statements i s c.loop-statement-test.true c.statement-item.is);
      reports =
          c.in_ok-add.ensures.reports ∙ ap (λ (qs : List Report). qs ++ report_in_statement (statement_of s)) c.loop-statement.invariant.reports
          ∙ sym (flat_map-more report_in_statement statements i s c.loop-statement-test.true c.statement-item.is);
    }

pub returns-clause-book : goal.returns-clause-book
returns-clause-book c =
    let all = take_all c.loop-statement.statement-index c.args.statements.now c.loop-statement-test.false in
    same_books _ _ (rw all at c.loop-statement.invariant.declared) (rw all at c.loop-statement.invariant.templates)
