-- What is exported, as plain data.
use Rattle.std.specs.Prelude.{◌≡◌, ◌↔◌, List, map, Contains, Some}
use Rattle.std.specs.List.Sorted.{IsStrictlyIncreasing}
use Rattle.poets_value.specs.declared.value.Name.{Name}
use Rattle.poets_value.specs.declared.value.Ty.{Ty}
use Rattle.poets_value.specs.Listed.{Listed}
use Rattle.poets_expr.specs.Env.{Declared}
use Rattle.poets_syntax.specs.declared.term.Book.{Book}
use Rattle.poets_syntax.specs.Book.{template_of}
use Rattle.poets_report.specs.declared.report.Report as code_report
use Rattle.poets_command.specs.declared.call.Entry as code_entry
use Rattle.poets_report.specs.Reports.{report_of}
use Rattle.poets_command.specs.Plain.{Template, Report, Entry}
use Rattle.poets_command.specs.Calls.{history_of}
use Rattle.poets_json.specs.declared.exported.Exported as code

-- these are the declared names, each once, by rising numbers and with its type
pub record AreDeclaredNames (declared : Declared) (all : List (Name × Ty)) : Type 0 where
  pub rise : IsStrictlyIncreasing (map (λ d. d.0.id) all)
  pub each : (x : Name) (ty : Ty) → (declared x ≡ Some ty) ↔ Contains all (x, ty)

-- the declared names with their types, in the order of their numbers, the templates, the reports,
-- and a history
pub record Exported : Type 0 where
  pub declared : List (Name × Ty)
  pub templates : List Template
  pub reports : List Report
  pub history : List Entry

-- a book, its reports and a history as plain data, without boxes
abbrev pub exported_with : Book → Listed code_report.Report → Listed code_entry.Entry → Exported
exported_with book reports history = record {
  declared = book.decls.names.entries;
  templates = map template_of book.templates.items;
  reports = map report_of reports.items;
  history = history_of history.items;
}

-- what is exported as plain data, without boxes
abbrev pub exported_of : code.Exported → Exported
exported_of x = exported_with x.book x.reports x.history
