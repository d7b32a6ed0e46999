-- The laws of histories, as statements.
use Rattle.std.specs.Prelude.{List, All}
use Rattle.poets_syntax.specs.Plain.{Book}
use Rattle.poets_meaning.specs.declared.studied.Mark.{Mark}
use Rattle.poets_meaning.specs.Studied.{IsStudiedBook}
use Rattle.poets_report.specs.Plain.{Report}
use Rattle.poets_command.specs.Plain.{Entry}
use Rattle.poets_command.specs.Typing.{IsTypedCommand}
use Rattle.poets_history.specs.Histories.{IsLegal, ShowsCompletions}

-- a legal history of typed commands under a studied book shows what is still owed
abbrev pub LegalHistoriesShow : Type 0
LegalHistoriesShow = (book : Book) (marks : List Mark) (reports : List Report) (h : List Entry) →
    IsStudiedBook book marks → IsLegal book reports h → All (λ e. IsTypedCommand book reports e.command) h →
    ShowsCompletions book h
