-- What becomes of a contract once an event is out.
use Rattle.std.specs.Prelude.{◌≡◌, ℕ, ◌+◌, List, [], ◌∷◌, ◌++◌, drop, fold, get_or, take}
use Rattle.std.specs.declared.alloc.Global.{Global}
use Rattle.std.specs.declared.sync.Arc.{Arc}
use Rattle.std.specs.Arc.{arc_value}
use Rattle.poets_value.specs.Listed.{Listed}
use Rattle.poets_value.specs.declared.event.Event.{Event}
use Rattle.poets_syntax.specs.Applied.{CountsFit}
use Rattle.poets_syntax.specs.Book.{book_of}
use Rattle.poets_syntax.specs.Contract.{Contract}
use Rattle.poets_meaning.specs.Studied.{StudiedBook, marks_of}
use Rattle.poets_calculus.specs.Residual.{after}
use Rattle.poets_cons.specs.declared.node.Node.{Node}
use Rattle.poets_cons.specs.Table.{contract_of_rows}
use Rattle.poets_table.specs.Pieces.{joined}
use Rattle.poets_table.specs.TableView.{values_of}
use Rattle.poets_command.specs.Plain.{Reply}
use Rattle.poets_command.specs.Calls.{reply_of}
use Rattle.poets_engine.specs.declared.withdrawal.Renewal.{Renewal}
use Rattle.poets_engine.specs.declared.withdrawal.Renewal.TheVariants as R
use Rattle.poets_engine.specs.Evaluations.{asked_in}
use Rattle.poets_engine.specs.code.Judgements.{Judgement, Refused, Owed, judge}

-- what is owed after some more events
abbrev pub residual_from : StudiedBook → Contract → List Event → Contract
residual_from s c events = fold (λ d e. after (book_of s.book) (marks_of s) e d) c events

-- what becomes of a contract by one event more, where it was kept so far
abbrev pub by_event : StudiedBook → Judgement → Event → Judgement
by_event s (Refused reply) e = Refused reply
by_event s (Owed c) e = judge s Reply.Unmatched (after (book_of s.book) (marks_of s) e c)

-- what becomes of a contract by events, one after the other
abbrev pub by_events : StudiedBook → Contract → List Event → Judgement
by_events s c events = fold (by_event s) (Owed c) events

-- the most evaluations that the residuals by these events take
abbrev pub asked_along : StudiedBook → Contract → List Event → ℕ
asked_along s c [] = 0
asked_along s c (e ∷ events) = asked_in s c + asked_along s (after (book_of s.book) (marks_of s) e c) events

-- the points are what is owed ahead of each of these pieces, where c is owed ahead of the first
abbrev pub ArePoints : StudiedBook → Contract → List (List Event) → List (List Node) → Type 0
ArePoints s c [] [] = Unit {0}
ArePoints s c (piece ∷ pieces) (point ∷ points) =
    (contract_of_rows point ≡ c) × ArePoints s (residual_from s c piece) pieces points
ArePoints s c _ _ = ⊥

-- the first points as they were, and then those of these pieces
pub record HaveFirst (s : StudiedBook) (c : Contract) (pieces : List (List Event)) (first : List (List Node))
    (points : List (List Node)) : Type 0 where
  pub later : List (List Node)
  pub joined : points ≡ first ++ later
  pub are : ArePoints s c pieces later

-- what is owed ahead of the piece with the number
abbrev pub owed_at : Listed (Arc (List Node) Global) → (number : ℕ) → Contract
owed_at points n = contract_of_rows (get_or (values_of points) n [])

-- the numbers of arguments fit in what is owed ahead of the piece with the number
abbrev pub FitsAt : StudiedBook → Listed (Arc (List Node) Global) → (number : ℕ) → Type 0
FitsAt s points n = CountsFit (book_of s.book) (owed_at points n)

-- what is owed was made anew from the piece with the number on, and ahead of that piece it is as it
-- was
abbrev pub IsRenewed :
    StudiedBook → Listed (Arc (List Node) Global) → (pieces : List (List Event)) → (number : ℕ) → Renewal → Type 0
IsRenewed s points pieces n (R.Refused reply) =
    by_events s (owed_at points n) (joined (drop n pieces)) ≡ Refused (reply_of reply)
IsRenewed s points pieces n (R.Owed current made) =
    (by_events s (owed_at points n) (joined (drop n pieces)) ≡ Owed (contract_of_rows (arc_value current)))
    × CountsFit (book_of s.book) (contract_of_rows (arc_value current))
    × HaveFirst s (owed_at points n) (drop n pieces) (take n (values_of points)) (values_of made)
