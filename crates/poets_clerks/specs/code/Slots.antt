-- All answers together, and slots for their replies.
use Rattle.std.specs.Prelude.{ℕ, List, length, map, Option}
use Rattle.std.specs.List.{flat_map}
use Rattle.poets_value.specs.Listed.{Listed}
use Rattle.poets_clerks.specs.Histories.{HoldReplies}
use Rattle.poets_clerks.specs.Scripts.{answers_of, pairs_of}
use Rattle.poets_clerks.specs.declared.answers.DoneOf.{DoneOf}

-- the answers of all lists, those of the first first
abbrev pub answers_of_all : {R : Type 0} → List (Listed (DoneOf R)) → List (ℕ × R)
answers_of_all answers = flat_map (λ done. done) (map answers_of answers)

-- the slots, one for each answer, have replies of the answers at their places, and at no others
abbrev pub HoldRepliesOf : {R : Type 0} → List (DoneOf R) → Listed (Option R) → Type 0
HoldRepliesOf answers slots = HoldReplies (length answers) (pairs_of answers) slots.items
