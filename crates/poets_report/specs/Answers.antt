-- What a report answers over a list of events.
use Rattle.std.specs.Prelude.{◌≡◌, ◌↔◌, List, [], ◌∷◌, Option, Some, None, map}
use Rattle.std.specs.List.{Contains}
use Rattle.poets_value.specs.declared.event.Event.{Event}
use Rattle.poets_value.specs.declared.value.Value.{Value}
use Rattle.poets_expr.specs.Env.{Declared}
use Rattle.poets_expr.specs.Expression.{Expression}
use Rattle.poets_report.specs.Keys.{Key, KeyPrecedes}
use Rattle.poets_report.specs.Plain.{Report, KeyRow, Single, Rows}
use Rattle.poets_report.specs.Reports.{folded, key_on, with_key}
use Rattle.poets_report.specs.Plain as plain
use Rattle.poets_report.specs.declared.report.Answer.{Answer}
use Rattle.poets_report.specs.declared.report.Answer.TheVariants as A

-- `Answer` as plain data, its rows as a list
abbrev pub answer_of : Answer → plain.Answer
answer_of (A.Single v) = Single v
answer_of (A.Rows rows) = Rows rows.items

-- the keys rise, so that no two rows have one key
abbrev pub Rising : List KeyRow → Type 0
Rising [] = Unit {0}
Rising (r ∷ []) = Unit {0}
Rising (r ∷ r' ∷ rows) = KeyPrecedes r.0 r'.0 × Rising (r' ∷ rows)

-- some event has the key, and the value is the fold over the events with the key
abbrev pub IsFoldOfKey :
    Declared → Report → List (Option Value) → (Event → Key) → List Event → Key → Option Value → Type 0
IsFoldOfKey declared q args key_of events k v =
    Contains (map key_of events) k × (v ≡ folded declared q args (with_key key_of k events))

-- the rows of a report by a key
pub record AreRows
    (declared : Declared) (q : Report) (args : List (Option Value)) (key : Expression) (events : List Event)
    (rows : List KeyRow) : Type 0 where
  pub rising : Rising rows
  -- there is a row for each key that some event has, with the fold over the events with that key,
  -- and there is no other
  pub each : (k : Key) (v : Option Value) →
      Contains rows (k, v) ↔ IsFoldOfKey declared q args (key_on declared q args key) events k v

-- the answer of a report with this key, or with none
abbrev pub IsAnswer_by : Option Expression → Declared → Report → List (Option Value) → List Event → plain.Answer →
    Type 0
IsAnswer_by None declared q args events (Single v) = v ≡ folded declared q args events
IsAnswer_by None declared q args events (Rows rows) = ⊥
IsAnswer_by (Some key) declared q args events (Single v) = ⊥
IsAnswer_by (Some key) declared q args events (Rows rows) = AreRows declared q args key events rows

-- the answer of a report under arguments over a list of events
abbrev pub IsAnswer : Declared → Report → List (Option Value) → List Event → plain.Answer → Type 0
IsAnswer declared q args events answer = IsAnswer_by q.key declared q args events answer

-- a report has one answer at most over a list of events
abbrev pub OneAnswer : Type 0
OneAnswer = (declared : Declared) (q : Report) (args : List (Option Value)) (s : List Event) (a b : plain.Answer) →
    IsAnswer declared q args s a → IsAnswer declared q args s b → a ≡ b

-- a report has an answer over each list of events
abbrev pub EveryAnswer : Type 0
EveryAnswer = (declared : Declared) (q : Report) (args : List (Option Value)) (s : List Event) →
    (a : plain.Answer) × IsAnswer declared q args s a
