-- What each step at the turnstile tells its seat, and how views are cut in two and joined.
use Rattle.std.specs.Prelude.{◌≡◌, ◌≢◌, ℕ, ◌+◌, ◌<◌, ◌≤◌, List, [], ◌∷◌, ◌++◌, length, Option, Some}
use Rattle.std.specs.Prelude.{None}
use mathlib.Core.List.{IsPrefix}
use Rattle.atomic_table.specs.Table.{Me, Step}
use Rattle.poets_machine.specs.Histories.{calls_by}
use Rattle.poets_turn.specs.declared.view.View.{View}
use Rattle.poets_turn.specs.declared.view.Setting.{Setting}
use Rattle.poets_turn.specs.declared.view.Stage.TheVariants.{Idle, Waiting, Serving}
use Rattle.poets_turn.specs.Settings.{setting_of, OnlyClerks}
use Rattle.poets_turn.specs.code.Turnstile.{longer}

module _ {C F : Type 0} where
  -- the first clerk, which numbers the others
  abbrev pub first_view : F → ℕ → View C F
  first_view f clerks =
      record {
        number = 1;
        stage = Idle;
        front = [];
        heard = [];
        calls = [];
        count = 1;
        ended = [];
        setting = Some (setting_of f clerks);
      }

  -- it made one number more
  abbrev pub one_more : View C F → View C F
  one_more v = record v { count = v.count + 1 }

  -- the clerk of that number
  abbrev pub next_clerk : View C F → View C F
  next_clerk v =
      record {
        number = v.count + 1;
        stage = Idle;
        front = [];
        heard = [];
        calls = [];
        count = 0;
        ended = [];
        setting = v.setting;
      }

  -- a note of what a clerk saw
  abbrev pub note_view : View C F → View C F
  note_view v =
      record {
        number = 0;
        stage = Idle;
        front = v.front;
        heard = [];
        calls = [];
        count = 0;
        ended = [];
        setting = v.setting;
      }

  -- the seat v heard the note w
  abbrev pub with_note : View C F → View C F → View C F
  with_note v w = record v { heard = w.front }

  -- the seat v took in the clerk w
  abbrev pub with_clerk : View C F → View C F → View C F
  with_clerk v w =
      record v { heard = w.front; count = v.count + w.count; ended = v.ended ++ (w.number, w.calls) ∷ w.ended }

  -- the view of a seat that was joined to another
  abbrev pub empty_view : View C F
  empty_view =
      record { number = 0; stage = Idle; front = []; heard = []; calls = []; count = 0; ended = []; setting = None }

module _ {M C F : Type 0} (history : M → List (ℕ × C)) (frame : M → F) where
  -- the machine as a seat with the view v finds it when its ticket is served
  pub record Served (v : View C F) (ticket : ℕ) (machine : M) : Type 0 where
    pub setting : (s : Setting F) → v.setting ≡ Some s →
        (frame machine ≡ s.frame) × OnlyClerks s.clerks (history machine) × (v.number ≤ s.clerks)
    pub front : IsPrefix v.front (history machine)
    pub calls : 0 < v.number → (calls_by v.number (history machine) ≡ v.calls) × (calls_by v.number v.front ≡ v.calls)
    pub short : length (history machine) ≤ ticket

  -- the seat with the view v holds the machine, whose slot has this
  abbrev pub IsServing : View C F → ℕ → M → Option M → Me (Option M) (View C F) → Type 0
  IsServing v ticket machine slot m = m ≡ (record v { stage = Serving ticket (history machine) }, (0, slot) ∷ [])

  -- where the ticket of the seat was found, it holds the machine
  abbrev pub AfterLook : Step (Option M) → Me (Option M) (View C F) → ℕ → Me (Option M) (View C F) → Type 0
  AfterLook step m found m' =
      (t : ℕ) → m.0.stage ≡ Waiting t →
      (found ≡ t → (machine : M) × IsServing m.0 t machine (Some machine) m' × Served m.0 t machine)
      × (found ≢ t → m' ≡ m)

module _ {M C F : Type 0} where
  -- the ticket is drawn, where the word was as expected
  abbrev pub AfterDraw : Step (Option M) → Me (Option M) (View C F) → ℕ → Me (Option M) (View C F) → Type 0
  AfterDraw step m found m' =
      (found ≡ step.first → m' ≡ (record m.0 { stage = Waiting found }, m.1)) × (found ≢ step.first → m' ≡ m)

  -- the turn is handed on, and the machine, with one call more, which is the seat's
  abbrev pub AfterEntry : (M → List (ℕ × C)) → Step (Option M) → Me (Option M) (View C F) → ℕ →
      Me (Option M) (View C F) → Type 0
  AfterEntry history step m stored m' =
      (t : ℕ) (log : List (ℕ × C)) (machine : M) (call : C) → m.0.stage ≡ Serving t log → m.1 ≡ (0, Some machine) ∷ [] →
      history machine ≡ log ++ (m.0.number, call) ∷ []
      → m' ≡ (record m.0 { stage = Idle; front = history machine; calls = m.0.calls ++ call ∷ [] }, [])

  -- the turn is handed on, and the machine as it was
  abbrev pub AfterPass : Step (Option M) → Me (Option M) (View C F) → ℕ → Me (Option M) (View C F) → Type 0
  AfterPass step m stored m' = m' ≡ (record m.0 { stage = Idle }, [])

  -- the front is the longer of what was seen and what was heard
  abbrev pub AfterSettling : Step (Option M) → Me (Option M) (View C F) → ℕ → Me (Option M) (View C F) → Type 0
  AfterSettling step m found m' =
      (m' ≡ (record m.0 { front = longer m.0.front m.0.heard; heard = [] }, m.1))
      × IsPrefix m.0.front (longer m.0.front m.0.heard) × IsPrefix m.0.heard (longer m.0.front m.0.heard)
