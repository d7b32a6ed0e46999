-- What two clerks at a turnstile saw and did.
use Rattle.std.specs.Prelude.{◌≡◌, ℕ, List, [], ◌∷◌, ◌++◌}
use Rattle.std.specs.declared.alloc.Global.{Global}
use Rattle.std.specs.declared.sync.Arc.{Arc}
use Rattle.std.specs.Arc.{arc_value}
use mathlib.Core.List.{IsPrefix}
use Rattle.poets_command.specs.declared.call.Command.{Command}
use Rattle.poets_command.specs.declared.call.Reply.{Reply}
use Rattle.poets_rules.specs.declared.rules.Rules.{Rules}
use Rattle.poets_engine.specs.State.{State, plain_calls}
use Rattle.poets_engine.specs.declared.kept.Kept.{Kept}
use Rattle.poets_turn.specs.Clerks.{IsClerkIn, IsFresh, calls, front, number}
use Rattle.poets_turn.specs.Settings.{OnlyClerks}
use Rattle.poets_turn.specs.declared.types.ClerkOf.{ClerkOf}
use Rattle.poets_turn.specs.declared.types.Turn.{Turn}
use Rattle.poets_host.specs.Pairs.{AreRightReplies, IsReplyUnder, pair_of}

-- the frame of an engine as a machine
abbrev pub rules_of : State → Rules
rules_of e = e.rules

abbrev pub Desk : Type 0
Desk = ClerkOf State Command Rules

-- two clerks that saw nothing and made no call, with the numbers 1 and 2
pub record IsPair (turn : Turn State Command Reply Kept Rules) (v w : Desk) : Type 0 where
  pub one : IsFresh rules_of turn v
  pub two : IsFresh rules_of turn w
  pub first : number v ≡ 1
  pub second : number w ≡ 2

-- the clerk v made the call, and became w
pub record Called (command : Arc Command Global) (v w : Desk) : Type 0 where
  pub before : List (ℕ × Command)
  pub longer : IsPrefix (front v) before
  pub last : front w ≡ before ++ (number v, arc_value command) ∷ []
  pub calls : calls w ≡ calls v ++ arc_value command ∷ []

-- the clerk v made the call, got the reply, and became w
abbrev pub Asked : Rules → Arc Command Global → (v w : Desk) → Reply → Type 0
Asked rules command v w reply =
    (made : Called command v w) × IsReplyUnder rules (plain_calls made.before) command reply

-- a history of the calls of these two clerks alone
pub record IsHistoryOf (v w : Desk) (history : List (ℕ × Command)) : Type 0 where
  pub one : IsClerkIn history 1 (front v) (calls v)
  pub two : IsClerkIn history 2 (front w) (calls w)
  pub only : OnlyClerks 2 history

abbrev pub Closes : (one two : Desk) → State → Type 0
Closes one two e = IsHistoryOf one two e.calls

-- both calls were made, the second after the first, and these are the replies
abbrev pub MadeBoth : Rules → (first second : Arc Command Global) → (one two : Desk) → Reply × Reply → Type 0
MadeBoth rules first second one two replies =
    (history : List (ℕ × Command)) → IsHistoryOf one two history →
    (history ≡ pair_of first second) × AreRightReplies rules first second replies

-- no call was made, or the first one, or the first and then the second
abbrev pub MadePart : (first second : Arc Command Global) → (one two : Desk) → Type 0
MadePart first second one two =
    (history : List (ℕ × Command)) → IsHistoryOf one two history → IsPrefix history (pair_of first second)
