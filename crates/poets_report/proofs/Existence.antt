-- A report has an answer over each list of events.
use Rattle.std.proofs.Common.{◌≡◌, Bool, true, false, List, [], ◌∷◌, ◌++◌, Option, Some, None, refl, sym, ◌∙◌, subst, append_assoc, append-nil}
use Rattle.std.specs.Prelude.{unwrap_or, if◌then◌else◌}
use Rattle.poets_value.specs.declared.event.Event.{Event}
use Rattle.poets_value.specs.declared.value.Value.{Value}
use Rattle.poets_expr.specs.Env.{Declared}
use Rattle.poets_expr.specs.Expression.{Expression}
use Rattle.poets_report.specs.Keys.{Key, KeyPrecedes, same_key}
use Rattle.poets_report.specs.Plain.{Report, KeyRow, Answer, Single, Rows}
use Rattle.poets_report.specs.Reports.{start, stage, key_on}
use Rattle.poets_report.specs.Answers.{Rising, IsAnswer_by, EveryAnswer}
use Rattle.poets_report.specs.Keyed.{Sets, row_at}
use Rattle.poets_report.specs.declared.folds.Change.{Change}
use Rattle.poets_report.proofs.KeyOrder.{key_same}
use Rattle.poets_report.proofs.RisingRows.{StartsAfter, by_order, before_is_other, rising_rest, rising_behind, behind, head_row}
use Rattle.poets_report.proofs.FoldsByKey.{rows_by_key}
use Rattle.poets_report.proofs.Steps.{answer_step}

-- rows with one row more stand behind a row that is before them and it
starts_behind : (r : KeyRow) (k : Key) (v : Option Value) (old new : List KeyRow) → Rising (r ∷ old) → KeyPrecedes r.0 k → Sets k (Some v) old new → StartsAfter r.0 new
starts_behind r k v old [] h p sets = tt
starts_behind r k v old (s ∷ new) h p sets = by (same_key s.0 k) refl
  where
    found : (if same_key s.0 k then Some v else row_at s.0 old) ≡ Some s.1
    found = sym (sets.each s.0) ∙ head_row s new

    by : (b : Bool) → same_key s.0 k ≡ b → KeyPrecedes r.0 s.0
    by true e = subst (λ j. KeyPrecedes r.0 j) (sym ((key_same s.0 k).0 e)) p
    by false e = behind r old s.0 s.1 h (rw e at found)

-- rows with the row of a key
pub set_one : (k : Key) (v : Option Value) (rows : List KeyRow) → Rising rows → (new : List KeyRow) × Sets k (Some v) rows new
set_one k v [] h = ((k, v) ∷ [], record { rising = tt; each = λ j. refl })
set_one k v (r ∷ rows) h =
    let rest = rising_rest r rows h in
    let below = set_one k v rows rest.1 in
    by_order k r.0
    (λ less. ((k, v) ∷ r ∷ rows, record { rising = (less, h); each = λ j. refl }))
    (λ same. (
      (k, v) ∷ rows,
      record {
        rising = rising_behind (k, v) rows (subst (λ j. StartsAfter j rows) (sym same) rest.0) rest.1;
        each = λ j. replaced j same (same_key j k) refl;
      },
    ))
    (λ greater. (
      r ∷ below.0,
      record {
        rising = rising_behind r below.0 (starts_behind r k v rows below.0 h greater below.1) below.1.rising;
        each = λ j. passed j below.0 greater below.1 (same_key j k) (same_key j r.0) refl refl;
      },
    ))
  where
    replaced : (j : Key) → k ≡ r.0 → (b : Bool) → same_key j k ≡ b →
        (if same_key j k then Some v else row_at j rows) ≡ (if same_key j k then Some v else (if same_key j r.0 then Some r.1 else row_at j rows))
    replaced j same true e = rw e refl
    replaced j same false e = let n : same_key j r.0 ≡ false = subst (λ i. same_key j i ≡ false) same e in rw (e, n) refl

    passed : (j : Key) (new : List KeyRow) → KeyPrecedes r.0 k → Sets k (Some v) rows new → (a b : Bool) → same_key j k ≡ a → same_key j r.0 ≡ b →
        (if same_key j r.0 then Some r.1 else row_at j new) ≡ (if same_key j k then Some v else (if same_key j r.0 then Some r.1 else row_at j rows))
    passed j new p sets true true e f =
        let same : r.0 ≡ k = sym ((key_same j r.0).0 f) ∙ (key_same j k).0 e in
        absurd (let no : true ≡ false = sym ((key_same r.0 k).1 same) ∙ before_is_other r.0 k p in cc)
    passed j new p sets true false e f = rw (e, f) (let s = sets.each j in rw e at s)
    passed j new p sets false true e f = rw (e, f) refl
    passed j new p sets false false e f = rw (e, f) (let s = sets.each j in rw e at s)

module _ (declared : Declared) (q : Report) (args : List (Option Value)) where
  -- one event more
  step : (by : Option Expression) (events : List Event) (e : Event) (a : Answer) → IsAnswer_by by declared q args events a →
      (b : Answer) × IsAnswer_by by declared q args (events ++ e ∷ []) b
  step None events e (Single v) h =
      let c : Change = record { key = None; row = Some (stage declared q args v e) } in
      let b = Single (stage declared q args v e) in
      (b, answer_step declared q args None events e (start declared q args) (Single v) b c refl h refl refl)
  step None events e (Rows rows) h = elim h [ ]
  step (Some key) events e (Single v) h = elim h [ ]
  step (Some key) events e (Rows rows) h =
      let k = key_on declared q args key e in
      let v = stage declared q args (unwrap_or (row_at k rows) (start declared q args)) e in
      let c : Change = record { key = k; row = Some v } in
      let s = set_one k v rows h.rising in
      (Rows s.0, answer_step declared q args (Some key) events e (start declared q args) (Rows rows) (Rows s.0) c refl h (refl, refl) (s.0, refl, s.1))

  -- no event
  none : (by : Option Expression) → (a : Answer) × IsAnswer_by by declared q args [] a
  none None = (Single (start declared q args), refl)
  none (Some key) = (Rows [], rows_by_key declared q args key [] [] tt (λ k. refl))

  go_on : (by : Option Expression) (events more : List Event) (a : Answer) → IsAnswer_by by declared q args events a →
      (b : Answer) × IsAnswer_by by declared q args (events ++ more) b
  go_on by events [] a h = (a, subst (λ s. IsAnswer_by by declared q args s a) (sym (append-nil events)) h)
  go_on by events (e ∷ more) a h =
      let s = step by events e a h in
      let r = go_on by (events ++ e ∷ []) more s.0 s.1 in
      (r.0, subst (λ s. IsAnswer_by by declared q args s r.0) (append_assoc events (e ∷ []) more) r.1)

pub every_answer : EveryAnswer
every_answer declared q args events =
    let n = none declared q args q.key in
    go_on declared q args q.key [] events n.0 n.1
