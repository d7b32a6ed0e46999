-- The history that clerks make with their scripts, and the replies to its calls.
use Rattle.std.specs.Prelude.{◌≡◌, ℕ, ◌+◌, ◌<◌, List, length, take, All, Contains, Option, Some}
use Rattle.std.specs.Prelude.{slice_get}
use mathlib.Core.List.{IsPrefix}
use Rattle.poets_machine.specs.Histories.{calls_by}
use Rattle.poets_turn.specs.Settings.{OnlyClerks}

-- the calls of each clerk in the history are its script, in order, and there are no calls of other
-- clerks
pub record HasScripts {C : Type 0} (scripts : List (List C)) (history : List (ℕ × C)) : Type 0 where
  pub own : (place : ℕ) (script : List C) → slice_get scripts place ≡ Some script →
      calls_by (place + 1) history ≡ script
  pub clerks : OnlyClerks (length scripts) history

-- the calls of each clerk in the history are a prefix of its script, and there are no calls of
-- other clerks
pub record HasScriptParts {C : Type 0} (scripts : List (List C)) (history : List (ℕ × C)) : Type 0 where
  pub own : (place : ℕ) (script : List C) → slice_get scripts place ≡ Some script →
      IsPrefix (calls_by (place + 1) history) script
  pub clerks : OnlyClerks (length scripts) history

-- each call has a reply, which is right after the calls before it
pub record AreReplies {C R : Type 0} (answers : List (ℕ × C) → ℕ → C → R → Type 0) (history : List (ℕ × C))
    (replies : List R) : Type 0 where
  pub as_many : length replies ≡ length history
  pub right : (place clerk : ℕ) (call : C) (reply : R)
      → slice_get history place ≡ Some (clerk, call) → slice_get replies place ≡ Some reply →
      answers (take place history) clerk call reply

module _ {R : Type 0} where
  -- the places of the answers are those below their number
  pub record FillPlaces (answers : List (ℕ × R)) : Type 0 where
    pub inside : All (λ a. a.0 < length answers) answers
    pub each : (place : ℕ) → place < length answers → (reply : R) × Contains answers (place, reply)

  -- the replies of the answers, in the order of their places
  pub record AreInOrder (answers : List (ℕ × R)) (replies : List R) : Type 0 where
    pub as_many : length replies ≡ length answers
    pub at : (place : ℕ) (reply : R) → slice_get replies place ≡ Some reply → Contains answers (place, reply)

  -- the slots, so many, have replies of the answers at their places, and at no others
  pub record HoldReplies (count : ℕ) (answers : List (ℕ × R)) (slots : List (Option R)) : Type 0 where
    pub count_is : length slots ≡ count
    pub from : (place : ℕ) (reply : R) → slice_get slots place ≡ Some (Some reply) → Contains answers (place, reply)
    pub each : (place : ℕ) (reply : R) → Contains answers (place, reply) →
        (other : R) × (slice_get slots place ≡ Some (Some other))
