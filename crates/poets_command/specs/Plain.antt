-- Commands, replies and entries as plain data.
use Rattle.std.specs.Prelude.{ℕ, ℤ, Bool, List, Option}
use Rattle.poets_value.specs.declared.value.Name.{Name}
use Rattle.poets_value.specs.declared.event.Event.{Event}
use Rattle.poets_value.specs.declared.value.Value.{Value}
use Rattle.poets_expr.specs.Expression.{Expression}
use Rattle.poets_syntax.specs.Contract.{Contract}
pub use Rattle.poets_report.specs.Plain.{Template, Book, TypeCause, Report, Answer}

-- a command
pub data Command : Type 0 where
  Register : Name → Contract → Command
  Transmit : Name → Event → Command
  Void : Name → (place : ℕ) → Command
  End : Name → Command
  Show : Name → Command
  Tally : Name → List Expression → Command
  Portfolio : Name → List Expression → List Name → Command
  Watch : Name → List Expression → Command
  Read : ℕ → Command

-- a reply
pub data Reply : Type 0 where
  Registered : ℕ → Reply
  NameTaken : ℕ → Reply
  Hopeless : Reply
  TooLarge : Reply
  Recorded : (count : ℕ) → (may_end : Bool) → Reply
  Voided : (count : ℕ) → (may_end : Bool) → Reply
  NoEvent : ℕ → Reply
  NoContract : Name → Reply
  Ended : Reply
  Late : ℤ → Reply
  Unmatched : Reply
  EndedNow : Reply
  AlreadyEnded : Reply
  NotPerformed : Reply
  Shown : (residual : Contract) → (count : ℕ) → (may_end : Bool) → (ended : Bool) → Reply
  Answered : Answer → Reply
  Folio : (rows : List (Name × Answer)) → (total : Option (Option Value)) → Reply
  Watching : ℕ → Reply
  NoWatch : ℕ → Reply

-- an entry of a history
pub record Entry : Type 0 where
  pub clerk : ℕ
  pub command : Command
  pub reply : Reply

-- the number of a statement, from 1, and its fault of types; none where all pass
abbrev pub TypeFault : Type 0
TypeFault = Option (ℕ × TypeCause)
