-- Folds that go on from event to event. This file only ties the code to `IsAnswer`.
use Rattle.std.specs.Prelude.{◌≡◌, ℕ, List, map, [], ◌∷◌, ◌++◌, Option, Some, None, unwrap_or}
use Rattle.poets_value.specs.declared.event.Event.{Event}
use Rattle.poets_value.specs.declared.value.Value.{Value}
use Rattle.poets_expr.specs.Env.{Declared, Env}
use Rattle.poets_report.specs.Plain.{Report, KeyRow, Answer, Single, Rows}
use Rattle.poets_report.specs.Reports.{given, start}
use Rattle.poets_report.specs.Answers.{IsAnswer}
use Rattle.poets_report.specs.Keyed.{Sets, HasRoom}
use Rattle.poets_report.specs.declared.folds.Change.{Change}
use Rattle.poets_report.specs.declared.folds.Running.{Running}
use Rattle.poets_report.specs.declared.folds.Running.TheVariants as R

-- a fold as plain data
pub record FoldView : Type 0 where
  -- the parameters with the arguments
  pub env : Env
  -- what is carried to the first event, and to the first event of each key
  pub start : Option Value
  -- the answer over the events so far
  pub answer : Answer
  -- the keys for whose rows there is room
  pub keys : List Value

abbrev pub answer_in : Running → Answer
answer_in (R.Carried v) = Single v
answer_in (R.Keyed rows) = Rows rows.rows

abbrev pub keys_in : Running → List Value
keys_in (R.Carried v) = []
keys_in (R.Keyed rows) = rows.keys

-- a fold by its parts
abbrev pub fold_by : Env → Option Value → Running → FoldView
fold_by env start running = record { env = env; start = start; answer = answer_in running; keys = keys_in running }

-- the fold of a report under arguments stands for these events: it has the answer over them, and
-- goes on from it
pub record StandsFor
    (declared : Declared) (q : Report) (args : List (Option Value)) (events : List Event) (fold : FoldView)
    : Type 0 where
  pub under : fold.env ≡ given q args
  pub starts : fold.start ≡ start declared q args
  pub answers : IsAnswer declared q args events fold.answer

-- the most evaluations that an event takes: of the step, and of the key where there is one
abbrev pub asked_by_event : Answer → ℕ
asked_by_event (Single v) = 1
asked_by_event (Rows rows) = 2

-- what is carried to the next event, where the events are not folded by a key
abbrev pub carried_in : Answer → Option (Option Value)
carried_in (Single v) = Some v
carried_in (Rows rows) = None

-- the events of a log of contracts' numbers and events
abbrev pub events_of : List (ℕ × Event) → List Event
events_of log = map (λ p. p.1) log

-- whatever events the old fold stood for, the new one stands for these and then `more`
abbrev pub GoesOn : Declared → Report → List Event → FoldView → FoldView → Type 0
GoesOn declared q more old new = (args : List (Option Value)) (events : List Event) →
    StandsFor declared q args events old → StandsFor declared q args (events ++ more) new

-- a change put in place in an answer
abbrev pub Changes : Change → Answer → Answer → Type 0
Changes c (Single v) new = new ≡ Single (unwrap_or c.row v)
Changes c (Rows rows) new = (rows' : List KeyRow) × (new ≡ Rows rows') × Sets c.key c.row rows rows'

-- the change is what an event brings to a fold: put in place, it makes the answer over the events
-- so far and this one
abbrev pub Brings : Declared → Report → Event → FoldView → Change → Type 0
Brings declared q e fold c = (args : List (Option Value)) (events : List Event) (new : Answer) →
    StandsFor declared q args events fold → Changes c fold.answer new → IsAnswer declared q args (events ++ e ∷ []) new

-- there is room to put the change in place
abbrev pub HasRoomFor : Change → Answer → List Value → Type 0
HasRoomFor c (Single v) keys = Unit {0}
HasRoomFor c (Rows rows) keys = HasRoom c.key keys

-- the answer is of a report without a key
abbrev pub IsSingle : Answer → Type 0
IsSingle (Single v) = Unit {0}
IsSingle (Rows rows) = ⊥
