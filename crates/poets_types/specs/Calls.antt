-- What a check of calls promises.
use Rattle.std.specs.Prelude.{◌≡◌, ℕ, List, Some, All, take, slice_get, IfSome}
use Rattle.std.specs.declared.alloc.Global.{Global}
use Rattle.std.specs.Arc.{arc_value}
use Rattle.std.specs.declared.sync.Arc.{Arc}
use Rattle.poets_syntax.specs.declared.term.Book.{Book}
use Rattle.poets_syntax.specs.Book.{book_of}
use Rattle.poets_syntax.specs.Demands.{FirstFault}
use Rattle.poets_report.specs.declared.report.Report.{Report}
use Rattle.poets_command.specs.declared.call.Command.{Command}
use Rattle.poets_command.specs.Plain as plain
use Rattle.poets_types.specs.declared.cause.CallFault.{CallFault}
use Rattle.poets_types.specs.Faults.{fault_of}
use Rattle.poets_types.specs.Verdicts.{CommandIsTyped, demands_on}

-- each call's command is typed in the book with the reports
abbrev pub AreTypedCalls : Book → List Report → List (ℕ × Arc Command Global) → Type 0
AreTypedCalls book reports = All (λ call. CommandIsTyped book reports (arc_value call.1))

-- the first call that is not typed is at the place, from 0, and this is its first fault
pub record IsFirstMistyped
    (book : Book) (reports : List Report) (calls : List (ℕ × Arc Command Global)) (place : ℕ) (fault : plain.TypeCause)
    : Type 0 where
  pub call : ℕ × Arc Command Global
  pub here : slice_get calls place ≡ Some call
  pub ahead : AreTypedCalls book reports (take place calls)
  pub first : FirstFault (book_of book).declared (demands_on book reports (arc_value call.1)) fault

-- the place and the cause are those of the first call that is not typed, or the cause is that
-- memory ran out
abbrev pub IsFirstCallFault : Book → List Report → List (ℕ × Arc Command Global) → CallFault → Type 0
IsFirstCallFault book reports calls f = IfSome (fault_of f.cause) (IsFirstMistyped book reports calls f.place)
