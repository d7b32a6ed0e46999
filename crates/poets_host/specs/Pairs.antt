-- Two clerks with a call each.
use Rattle.std.specs.Prelude.{ℕ, List, [], ◌∷◌}
use Rattle.std.specs.declared.alloc.Global.{Global}
use Rattle.std.specs.declared.sync.Arc.{Arc}
use Rattle.std.specs.Arc.{arc_value}
use Rattle.poets_command.specs.Calls.{Call, command_of, reply_of}
use Rattle.poets_command.specs.declared.call.Command.{Command}
use Rattle.poets_command.specs.declared.call.Reply.{Reply}
use Rattle.poets_rules.specs.Rules.{book_of_rules, reports_of_rules}
use Rattle.poets_rules.specs.declared.rules.Rules.{Rules}
use Rattle.poets_history.specs.Histories.{AnswersIn}

-- the call of clerk 1, and then that of clerk 2
abbrev pub pair_of : (first second : Arc Command Global) → List (ℕ × Command)
pair_of first second = (1, arc_value first) ∷ (2, arc_value second) ∷ []

-- the reply to a command after calls
abbrev pub IsReplyUnder : Rules → List Call → Arc Command Global → Reply → Type 0
IsReplyUnder rules calls command reply =
    AnswersIn (book_of_rules rules) (reports_of_rules rules) calls (command_of (arc_value command)) (reply_of reply)

-- the first reply is right after no call, and the second after the first call
abbrev pub AreRightReplies : Rules → (first second : Arc Command Global) → Reply × Reply → Type 0
AreRightReplies rules first second replies =
    IsReplyUnder rules [] first replies.0
    × IsReplyUnder rules ((1, command_of (arc_value first)) ∷ []) second replies.1
