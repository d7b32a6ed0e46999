-- The JSON document of a book, its reports and a history. Members are in the byte order of their
-- names.
use Rattle.std.specs.Prelude.{ℕ, Bool, List, map, Option, Some, None, codes}
use Rattle.serde_json.specs.Data.{Data, null, boolean, number, unsigned, string, array, object}
use Rattle.serde_json.specs.Data.{no_items, item, Members, no_members, member, put}
use Rattle.serde_json.specs.View.{items_of}
use Rattle.serde_json.specs.Written.{compact_text}
use Rattle.poets_value.specs.declared.value.Name.{Name}
use Rattle.poets_value.specs.declared.value.Value.{Value}
use Rattle.poets_value.specs.Civil.{day_text}
use Rattle.poets_report.specs.Plain.{Answer, Single, Rows, KeyRow}
use Rattle.poets_lex.specs.Table.{Table}
use Rattle.poets_command.specs.Plain.{Reply, Entry}
use Rattle.poets_print.specs.Texts.{name_text, value_text, contract_text}
use Rattle.poets_print.specs.Lines.{command_text}
use Rattle.poets_books.specs.Books.{book_texts}
use Rattle.poets_books.specs.Replies.{kind_text}
use Rattle.poets_json.specs.Plain.{Exported}

-- ---- values and answers

-- a value is the text of its literal, and null where it is undefined
abbrev pub value_data : Table → Option Value → Data
value_data names None = null
value_data names (Some v) = string (value_text names v)

-- a list with the data of each item
abbrev pub list_data : {A : Type 0} → (A → Data) → List A → Data
list_data data_of xs = array (items_of (map data_of xs))

-- `[K, V]`
abbrev pub row_data : Table → KeyRow → Data
row_data names row = array (item (value_data names row.0) (item (value_data names row.1) no_items))

-- `{"value": V}`, or `{"rows": R}`, where R has a pair for each row
abbrev pub answer_data : Table → Answer → Data
answer_data names (Single v) = object (member (codes "value") (value_data names v) no_members)
answer_data names (Rows rows) = object (member (codes "rows") (list_data (row_data names) rows) no_members)

-- the part of a contract in a portfolio: `[NAME, A]`
abbrev pub part_data : Table → Name × Answer → Data
part_data names part = array (item (string (name_text names part.0)) (item (answer_data names part.1) no_items))

-- ---- replies

abbrev pub count_data : ℕ → Data
count_data n = number (unsigned n)

-- the object with the member `kind`, and with these other members
abbrev pub of_kind : (kind : List ℕ) → (others : Members) → Data
of_kind kind others = object (put (codes "kind") (string kind) others)

-- a member alone
abbrev pub only : (name : List ℕ) → Data → Members
only name d = member name d no_members

-- `"count": N, "may_end": B`
abbrev pub counted_members : (count : ℕ) → (may_end : Bool) → Members
counted_members count may_end =
    member (codes "count") (count_data count) (only (codes "may_end") (boolean may_end))

-- `"count": N, "ended": B, "may_end": B, "residual": C`
abbrev pub shown_members : (residual : List ℕ) → (count : ℕ) → (may_end ended : Bool) → Members
shown_members residual count may_end ended =
    member (codes "count") (count_data count) (member (codes "ended") (boolean ended)
    (member (codes "may_end") (boolean may_end) (only (codes "residual") (string residual))))

-- the total of a portfolio is a member, where there is one
abbrev pub total_members : Table → Option (Option Value) → Members
total_members names None = no_members
total_members names (Some total) = only (codes "total") (value_data names total)

-- `"rows": R`, and the total after it
abbrev pub folio_members : (rows : Data) → (total : Members) → Members
folio_members rows total = member (codes "rows") rows total

-- what is in a reply besides its kind
abbrev pub reply_members : Table → Reply → Members
reply_members names (Reply.Registered n) = only (codes "id") (count_data n)
reply_members names (Reply.NameTaken n) = only (codes "id") (count_data n)
reply_members names (Reply.Recorded n may_end) = counted_members n may_end
reply_members names (Reply.Voided n may_end) = counted_members n may_end
reply_members names (Reply.NoEvent k) = only (codes "number") (count_data k)
reply_members names (Reply.NoContract x) = only (codes "name") (string (name_text names x))
reply_members names (Reply.Late d) = only (codes "day") (string (day_text d))
reply_members names (Reply.Shown c n may_end ended) = shown_members (contract_text names c) n may_end ended
reply_members names (Reply.Answered a) = only (codes "answer") (answer_data names a)
reply_members names (Reply.Folio rows total) =
    folio_members (list_data (part_data names) rows) (total_members names total)
reply_members names (Reply.Watching n) = only (codes "number") (count_data n)
reply_members names (Reply.NoWatch n) = only (codes "number") (count_data n)
reply_members names _ = no_members

-- a reply: its kind, and what else is in it
abbrev pub reply_data : Table → Reply → Data
reply_data names reply = of_kind (kind_text reply) (reply_members names reply)

-- ---- the document

-- `{"clerk": N, "command": C, "reply": R}`
abbrev pub entry_with : (clerk : ℕ) → (command : List ℕ) → (reply : Data) → Data
entry_with clerk command reply =
    object (member (codes "clerk") (count_data clerk) (member (codes "command") (string command)
    (only (codes "reply") reply)))

-- an entry of the history: the clerk's number, the text of the command, and the reply
abbrev pub entry_data : Table → Entry → Data
entry_data names e = entry_with e.clerk (command_text names e.command) (reply_data names e.reply)

-- the JSON value of a book, its reports and a history: the texts of the book's statements, the
-- format, and the entries
abbrev pub document : Table → Exported → Data
document names x =
    object (member (codes "book") (list_data string (book_texts names x.declared x.templates x.reports))
    (member (codes "format") (string (codes "poets 1"))
    (member (codes "history") (list_data (entry_data names) x.history) no_members)))

-- the bytes of the document: its compact text
abbrev pub document_bytes : Table → Exported → List ℕ
document_bytes names x = compact_text (document names x)
