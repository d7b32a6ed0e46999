-- Folds that leave marks on their way. A mark is where a fold without a key can be taken up again.
use Rattle.std.specs.Prelude.{◌≡◌, ℕ, ◌+◌, ◌*◌, ◌≤◌, List, [], ◌∷◌, ◌++◌}
use Rattle.std.specs.Prelude.{Option, Some, None, length, take, slice_get, nat_lt, if◌then◌else◌}
use Rattle.poets_value.specs.declared.event.Event.{Event}
use Rattle.poets_value.specs.declared.value.Value.{Value}
use Rattle.poets_expr.specs.Env.{Declared}
use Rattle.poets_expr.specs.Expression.{Expression}
use Rattle.poets_report.specs.Plain.{Report, Answer, Single, Rows}
use Rattle.poets_report.specs.Reports.{folded}
use Rattle.poets_report.specs.Folds.{FoldView}
use Rattle.poets_live.specs.declared.course.TheConstants.{APART}

-- how many events there are from one mark to the next
abbrev pub apart : ℕ
apart = APART

-- a fold, its marks, how many events came after the last one, and for how many more marks there is
-- room
pub record CourseView : Type 0 where
  pub fold : FoldView
  pub marks : List (Option Value)
  pub since : ℕ
  pub room : ℕ

-- the mark with the number n, from 0, holds what is carried after the first (n + 1) * 256 events
abbrev pub HoldMarks : (List Event → Option Value) → List Event → (marks : List (Option Value)) → Type 0
HoldMarks carried events marks =
    (n : ℕ) (v : Option Value) → slice_get marks n ≡ Some v → v ≡ carried (take ((n + 1) * apart) events)

-- without a key there are marks all along the events, and with a key there is none
abbrev pub AreMarks_by : Option Expression → Declared → Report → (args : List (Option Value)) → List Event →
    (marks : List (Option Value)) → (since : ℕ) → Type 0
AreMarks_by None declared q args events marks since =
    HoldMarks (folded declared q args) events marks
    × (length events ≡ length marks * apart + since)
    × (since ≤ apart)
AreMarks_by (Some key) declared q args events marks since = marks ≡ []

-- the marks on the way over these events
abbrev pub AreMarks : Declared → Report → (args : List (Option Value)) → List Event →
    (marks : List (Option Value)) → (since : ℕ) → Type 0
AreMarks declared q args events marks since = AreMarks_by q.key declared q args events marks since

-- the marks past an event: a new one is left where the last one is far back
abbrev pub IsPassed : Answer → List (Option Value) → ℕ → List (Option Value) → ℕ → Type 0
IsPassed (Rows rows) marks since marks' since' = (marks' ≡ marks) × (since' ≡ since)
IsPassed (Single v) marks since marks' since' =
    (marks' ≡ (if nat_lt since apart then marks else marks ++ v ∷ []))
    × (since' ≡ (if nat_lt since apart then since + 1 else 1))
