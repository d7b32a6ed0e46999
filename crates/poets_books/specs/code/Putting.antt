-- Texts of values as the code has them.
use Rattle.std.specs.Prelude.{◌≡◌, ℕ, List, [], ◌∷◌, ◌++◌, map, codes, String}
use Rattle.std.specs.declared.alloc.Global.{Global}
use Rattle.poets_value.specs.declared.value.Name.{Name}
use Rattle.poets_syntax.specs.declared.term.Binders.{Binders}
use Rattle.poets_syntax.specs.declared.term.Param.{Param}
use Rattle.poets_syntax.specs.declared.term.Template.{Template}
use Rattle.poets_syntax.specs.Book.{template_of}
use Rattle.poets_report.specs.declared.report.Report.{Report}
use Rattle.poets_report.specs.Reports.{report_of}
use Rattle.poets_lex.specs.Table.{Table, texts_of}
use Rattle.poets_print.specs.Texts.{behind_commas, binders_text}
use Rattle.poets_print.specs.code.Putting.{names_text}
use Rattle.poets_books.specs.Statements.{parameter_text, template_text, report_text, fold_text}

-- what stands in a step ahead of its predicate
abbrev pub step_front : Table → Binders → List ℕ
step_front names binders = codes "transmit(" ++ binders_text names binders ++ codes " | "

-- parameters, each after `, `
abbrev pub more_parameters : Table → List Param → List ℕ
more_parameters names params = behind_commas (parameter_text names) params

-- the text of a report of the code
abbrev pub report_text_of : Table → Report → List ℕ
report_text_of names q = report_text names (report_of q)

-- what a report of the code is folded from, and how
abbrev pub fold_text_of : Table → Report → List ℕ
fold_text_of names q = fold_text names (report_of q)

-- the text of names behind a word, where there are any
abbrev pub listed_texts : Table → (word : List ℕ) → List Name → List (List ℕ)
listed_texts names word [] = []
listed_texts names word (x ∷ xs) = (word ++ names_text names (x ∷ xs)) ∷ []

-- the texts of templates of the code
abbrev pub template_texts : Table → List Template → List (List ℕ)
template_texts names templates = map (λ t. template_text names (template_of t)) templates

-- the texts of reports of the code
abbrev pub report_texts : Table → List Report → List (List ℕ)
report_texts names reports = map (report_text_of names) reports

-- texts were added behind others
abbrev pub Adds : List (String Global) → List (String Global) → List (List ℕ) → Type 0
Adds old new texts = texts_of new ≡ texts_of old ++ texts
