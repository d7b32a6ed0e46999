-- Books without templates.
use Rattle.std.specs.Prelude.{false, []}
use Rattle.poets_expr.specs.Env.{Declared}
use Rattle.poets_syntax.specs.Plain.{Book}
use Rattle.poets_meaning.specs.Marks.{Marks}

-- the declared names alone
abbrev pub without_templates : Declared → Book
without_templates declared = record { declared = declared; templates = [] }

-- marks that call no template nullable and none hopeful
abbrev pub no_marks : Marks
no_marks = record { nullable = λ _. false; hopeful = λ _. false }
