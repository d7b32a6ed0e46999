-- One event more on an answer.
use Rattle.std.proofs.Common.{◌≡◌, Bool, true, false, List, [], ◌∷◌, ◌++◌, Option, Some, None, refl, sym, ◌∙◌, ap, subst, append-nil}
use Rattle.std.specs.Prelude.{unwrap_or, if◌then◌else◌}
use Rattle.std.proofs.lemmas.List.Sums.{fold-append}
use Rattle.std.proofs.lemmas.List.Elements.{filter-append}
use Rattle.poets_value.specs.declared.event.Event.{Event}
use Rattle.poets_value.specs.declared.value.Value.{Value}
use Rattle.poets_expr.specs.Env.{Declared, Env}
use Rattle.poets_expr.specs.Expression.{Expression}
use Rattle.poets_report.specs.Keys.{Key, same_key}
use Rattle.poets_report.specs.Plain.{Report, KeyRow, Answer, Single, Rows}
use Rattle.poets_report.specs.Reports.{given, start, stage, folded, key_on, with_key}
use Rattle.poets_report.specs.Answers.{AreRows, IsAnswer, IsAnswer_by}
use Rattle.poets_report.specs.Keyed.{Cell, KeyedView, Sets, row_at}
use Rattle.poets_report.specs.declared.folds.Change.{Change}
use Rattle.poets_report.specs.declared.folds.Running.{Running}
use Rattle.poets_report.specs.declared.folds.Running.TheVariants as R
use Rattle.poets_report.specs.Folds.{FoldView, GoesOn, Brings, Changes, answer_in, fold_by}
use Rattle.poets_report.proofs.KeyOrder.{key_same}
use Rattle.poets_report.proofs.FoldsByKey.{if_any, by_key, rows_by_key}

-- the change of one event: without a key, what is carried past it; with a key, that in the row of the event's key,
-- to which the start is carried where there is none
abbrev pub IsStep : Option Expression → Declared → Report → List (Option Value) → Option Value → Answer → Event → Change → Type 0
IsStep None declared q args start (Single v) e c = c.row ≡ Some (stage declared q args v e)
IsStep (Some key) declared q args start (Rows rows) e c =
    (c.key ≡ key_on declared q args key e) × (c.row ≡ Some (stage declared q args (unwrap_or (row_at c.key rows) start) e))
IsStep _ declared q args start answer e c = Unit {0}

module _ (declared : Declared) (q : Report) (args : List (Option Value)) where
  folded-last : (events : List Event) (e : Event) → folded declared q args (events ++ e ∷ []) ≡ stage declared q args (folded declared q args events) e
  folded-last events e = fold-append (stage declared q args) (start declared q args) events (e ∷ [])

  -- what is carried to the next event with a key
  carried_by_key : (v : Option Value) (events : List Event) → v ≡ start declared q args →
      unwrap_or (if_any (folded declared q args) events) v ≡ folded declared q args events
  carried_by_key v [] e = e
  carried_by_key v (x ∷ events) e = refl

  fold_of_some : (events : List Event) (e : Event) → if_any (folded declared q args) (events ++ e ∷ []) ≡ Some (folded declared q args (events ++ e ∷ []))
  fold_of_some [] e = refl
  fold_of_some (x ∷ events) e = refl

  module _ (key : Expression) (events : List Event) (e : Event) where
    abbrev of : Event → Key
    of = key_on declared q args key

    with_key-last : (k : Key) → with_key of k (events ++ e ∷ []) ≡ with_key of k events ++ (if same_key k (of e) then e ∷ [] else [])
    with_key-last k = filter-append (λ x. same_key k (of x)) events (e ∷ []) ∙ ap (λ xs. with_key of k events ++ xs) (last (same_key k (of e)) refl)
      where
        last : (b : Bool) → same_key k (of e) ≡ b → with_key of k (e ∷ []) ≡ (if b then e ∷ [] else [])
        last true s = rw s refl
        last false s = rw s refl

    -- the rows with what the event brings
    rows_step : (v : Option Value) (cell : Cell) (old new : List KeyRow) → v ≡ start declared q args → AreRows declared q args key events old →
        cell ≡ Some (stage declared q args (unwrap_or (row_at (of e) old) v) e) → Sets (of e) cell old new →
        AreRows declared q args key (events ++ e ∷ []) new
    rows_step v cell old new s h c sets = rows_by_key declared q args key (events ++ e ∷ []) new sets.rising (λ k. sets.each k ∙ each k (same_key k (of e)) refl)
      where
        carried : unwrap_or (row_at (of e) old) v ≡ folded declared q args (with_key of (of e) events)
        carried = ap (λ r. unwrap_or r v) (by_key declared q args key events old h (of e)) ∙ carried_by_key v (with_key of (of e) events) s

        here : (k : Key) → k ≡ of e → same_key k (of e) ≡ true → cell ≡ if_any (folded declared q args) (with_key of k (events ++ e ∷ []))
        here k same y =
            let longer : with_key of k (events ++ e ∷ []) ≡ with_key of k events ++ e ∷ [] =
            subst (λ b. with_key of k (events ++ e ∷ []) ≡ with_key of k events ++ (if b then e ∷ [] else [])) y (with_key-last k) in
            let was : unwrap_or (row_at (of e) old) v ≡ folded declared q args (with_key of k events) = carried ∙ ap (λ j. folded declared q args (with_key of j events)) (sym same) in
            c ∙ ap (λ x. Some (stage declared q args x e)) was ∙ ap Some (sym (folded-last (with_key of k events) e))
            ∙ sym (fold_of_some (with_key of k events) e) ∙ ap (if_any (folded declared q args)) (sym longer)

        each : (k : Key) (b : Bool) → same_key k (of e) ≡ b → (if same_key k (of e) then cell else row_at k old) ≡ if_any (folded declared q args) (with_key of k (events ++ e ∷ []))
        each k true y = rw y (here k ((key_same k (of e)).0 y) y)
        each k false n =
            let same : with_key of k (events ++ e ∷ []) ≡ with_key of k events =
            subst (λ b. with_key of k (events ++ e ∷ []) ≡ with_key of k events ++ (if b then e ∷ [] else [])) n (with_key-last k) ∙ append-nil (with_key of k events) in
            rw n (by_key declared q args key events old h k ∙ ap (if_any (folded declared q args)) (sym same))

  pub answer_step : (by : Option Expression) (events : List Event) (e : Event) (v : Option Value) (old new : Answer) (c : Change) → v ≡ start declared q args →
      IsAnswer_by by declared q args events old → IsStep by declared q args v old e c → Changes c old new →
      IsAnswer_by by declared q args (events ++ e ∷ []) new
  answer_step None events e v (Single x) new c s h b k =
      let next : unwrap_or c.row x ≡ folded declared q args (events ++ e ∷ []) =
      ap (λ r. unwrap_or r x) b ∙ ap (λ y. stage declared q args y e) h ∙ sym (folded-last events e) in
      subst (λ f. IsAnswer_by None declared q args (events ++ e ∷ []) f) (sym k) next
  answer_step None events e v (Rows rows) new c s h b k = elim h [ ]
  answer_step (Some key) events e v (Single x) new c s h b k = elim h [ ]
  answer_step (Some key) events e v (Rows rows) new c s h b k =
      let at : unwrap_or (row_at c.key rows) v ≡ unwrap_or (row_at (key_on declared q args key e) rows) v = ap (λ j. unwrap_or (row_at j rows) v) b.0 in
      let sets : Sets (key_on declared q args key e) c.row rows k.0 = subst (λ j. Sets j c.row rows k.0) b.0 k.2 in
      subst (λ f. IsAnswer_by (Some key) declared q args (events ++ e ∷ []) f) (sym k.1)
      (rows_step key events e v c.row rows k.0 s h (b.1 ∙ ap (λ x. Some (stage declared q args x e)) at) sets)

-- what is put in the row of an event's key
pub keyed_brings : (declared : Declared) (q : Report) (e : Event) (env : Env) (v : Option Value) (running : Running) (rows : KeyedView) (c : Change) → running ≡ R.Keyed rows →
    ((args : List (Option Value)) (key : Expression) → env ≡ given q args → q.key ≡ Some key → c.key ≡ key_on declared q args key e) →
    ((args : List (Option Value)) → env ≡ given q args → c.row ≡ Some (stage declared q args (unwrap_or (row_at c.key rows.rows) v) e)) →
    Brings declared q e (fold_by env v running) c
keyed_brings declared q e env v running rows c same key_is row args events new h k =
    let seen : answer_in running ≡ Rows rows.rows = ap answer_in same in
    answer_step declared q args q.key events e v (Rows rows.rows) new c h.starts (subst (λ a. IsAnswer declared q args events a) seen h.answers)
    (step q.key refl) (subst (λ a. Changes c a new) seen k)
  where
    step : (by : Option Expression) → q.key ≡ by → IsStep by declared q args v (Rows rows.rows) e c
    step None s = tt
    step (Some key) s = (key_is args key h.under s, row args h.under)

-- a fold with what an event brings put in place goes on over the event
pub brought_goes_on : (declared : Declared) (q : Report) (e : Event) (old new : FoldView) (c : Change) →
    Brings declared q e old c → Changes c old.answer new.answer → new.env ≡ old.env → new.start ≡ old.start → GoesOn declared q (e ∷ []) old new
brought_goes_on declared q e old new c b k env start_same args events h = record {
  under = env ∙ h.under;
  starts = start_same ∙ h.starts;
  answers = b args events new.answer h k;
}
