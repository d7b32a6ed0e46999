-- The printed texts of commands, replies and lines of a history.
use Rattle.std.specs.Prelude.{ℕ, ◌+◌, Bool, true, false, List, [], ◌∷◌, ◌++◌, Option, Some, None}
use Rattle.std.specs.Prelude.{codes}
use Rattle.std.specs.Fmt.{decimal, signed_decimal}
use Rattle.poets_value.specs.declared.value.Name.{Name}
use Rattle.poets_value.specs.declared.value.Resource.{Resource}
use Rattle.poets_value.specs.declared.value.Value.{Value}
use Rattle.poets_value.specs.declared.event.Event.{Event}
use Rattle.poets_value.specs.Civil.{day_text}
use Rattle.poets_report.specs.Plain.{Answer, Single, Rows, KeyRow}
use Rattle.poets_lex.specs.Table.{Table}
use Rattle.poets_command.specs.Plain.{Command, Reply, Entry}
use Rattle.poets_print.specs.Texts.{name_text, value_text, contract_text, call_text, listed}

-- `7 Oil`
abbrev pub amount_text : Table → Resource → List ℕ
amount_text names r = signed_decimal r.amount ++ codes " " ++ name_text names r.kind

-- `ann bob 7 Oil @2006-05-03`
abbrev pub event_text : Table → Event → List ℕ
event_text names e =
    name_text names e.sender ++ codes " " ++ name_text names e.receiver ++ codes " " ++ amount_text names e.what
    ++ codes " @" ++ day_text e.day

-- the text of a command
abbrev pub command_text : Table → Command → List ℕ
command_text names (Command.Register x c) =
    codes "register " ++ name_text names x ++ codes " = " ++ contract_text names c
command_text names (Command.Transmit x e) = codes "transmit " ++ name_text names x ++ codes " " ++ event_text names e
command_text names (Command.Void x k) = codes "void " ++ name_text names x ++ codes " " ++ decimal k
command_text names (Command.End x) = codes "end " ++ name_text names x
command_text names (Command.Show x) = codes "show " ++ name_text names x
command_text names (Command.Tally q args) = codes "tally " ++ call_text names q args
command_text names (Command.Portfolio q args over) =
    codes "portfolio " ++ call_text names q args ++ codes " over " ++ listed (name_text names) over
command_text names (Command.Watch q args) = codes "watch " ++ call_text names q args
command_text names (Command.Read n) = codes "read " ++ decimal n

-- `yes` or `no`
abbrev pub yes_text : Bool → List ℕ
yes_text true = codes "yes"
yes_text false = codes "no"

-- an undefined value prints as `undefined`
abbrev pub optional_text : Table → Option Value → List ℕ
optional_text names None = codes "undefined"
optional_text names (Some v) = value_text names v

-- `Oil: 5`
abbrev pub row_text : Table → KeyRow → List ℕ
row_text names row = optional_text names row.0 ++ codes ": " ++ optional_text names row.1

-- `{Oil: 5, USD: 7}`
abbrev pub rows_text : Table → List KeyRow → List ℕ
rows_text names rows = codes "{" ++ listed (row_text names) rows ++ codes "}"

-- a single value, or rows
abbrev pub answer_text : Table → Answer → List ℕ
answer_text names (Single v) = optional_text names v
answer_text names (Rows rows) = rows_text names rows

abbrev pub answered_text : Table → Answer → List ℕ
answered_text names (Single v) = codes "value " ++ optional_text names v
answered_text names (Rows rows) = codes "rows " ++ rows_text names rows

-- `a 5`
abbrev pub part_text : Table → Name × Answer → List ℕ
part_text names part = name_text names part.0 ++ codes " " ++ answer_text names part.1

-- `a 5, b 7`
abbrev pub parts_text : Table → List (Name × Answer) → List ℕ
parts_text names parts = listed (part_text names) parts

-- the total at the end, where there is one
abbrev pub total_text : Table → Option (Option Value) → List ℕ
total_text names None = []
total_text names (Some v) = codes ", total " ++ optional_text names v

-- the text of a reply
abbrev pub reply_text : Table → Reply → List ℕ
reply_text names (Reply.Registered n) = codes "registered " ++ decimal n
reply_text names (Reply.NameTaken n) = codes "name taken by " ++ decimal n
reply_text names Reply.Hopeless = codes "hopeless"
reply_text names Reply.TooLarge = codes "too large"
reply_text names (Reply.Recorded n may_end) = codes "recorded " ++ decimal n ++ codes ", may end " ++ yes_text may_end
reply_text names (Reply.Voided n may_end) =
    codes "voided, events " ++ decimal n ++ codes ", may end " ++ yes_text may_end
reply_text names (Reply.NoEvent k) = codes "no event " ++ decimal k
reply_text names (Reply.NoContract x) = codes "no contract " ++ name_text names x
reply_text names Reply.Ended = codes "ended"
reply_text names (Reply.Late d) = codes "late " ++ day_text d
reply_text names Reply.Unmatched = codes "unmatched"
reply_text names Reply.EndedNow = codes "ended now"
reply_text names Reply.AlreadyEnded = codes "already ended"
reply_text names Reply.NotPerformed = codes "not performed"
reply_text names (Reply.Shown c n may_end ended) =
    codes "events " ++ decimal n ++ codes ", may end " ++ yes_text may_end ++ codes ", ended " ++ yes_text ended
    ++ codes ", residual " ++ contract_text names c
reply_text names (Reply.Answered a) = answered_text names a
reply_text names (Reply.Folio rows total) = codes "portfolio " ++ parts_text names rows ++ total_text names total
reply_text names (Reply.Watching n) = codes "watching " ++ decimal n
reply_text names (Reply.NoWatch n) = codes "no watch " ++ decimal n

-- the entry's number, the clerk's number, the command and the reply, and LF (10)
abbrev pub line_text : Table → ℕ → Entry → List ℕ
line_text names number entry =
    decimal number ++ codes " " ++ decimal entry.clerk ++ codes ": " ++ command_text names entry.command
    ++ codes " => " ++ reply_text names entry.reply ++ 10 ∷ []

-- the lines of entries, numbered from this number on
abbrev pub lines_from : Table → ℕ → List Entry → List ℕ
lines_from names number [] = []
lines_from names number (entry ∷ entries) = line_text names number entry ++ lines_from names (number + 1) entries

-- the text of a history: its lines, numbered from 1
abbrev pub history_text : Table → List Entry → List ℕ
history_text names entries = lines_from names 1 entries
