-- What a reader finds.
use Rattle.std.specs.Prelude.{◌≡◌, ℕ, List, map, All, Option, Some, None, Result, Ok, Err}
use Rattle.poets_value.specs.declared.value.Value.{Value}
use Rattle.poets_report.specs.Plain.{Answer, KeyRow}
use Rattle.poets_value.specs.declared.value.Name.{Name}
use Rattle.poets_value.specs.Civil.{IsDayNumber}
use Rattle.poets_expr.specs.Env.{Declared}
use Rattle.poets_lex.specs.Table.{Table}
use Rattle.poets_literals.specs.Declared.{IsPlaced}
use Rattle.poets_command.specs.Plain as plain
use Rattle.poets_command.specs.Calls.{folio_row_of}
use Rattle.poets_command.specs.declared.call.Folio as code
use Rattle.poets_books.specs.Replies.{kind_text}
use Rattle.poets_json.specs.Document.{reply_data}
use Rattle.poets_syntax.specs.Contract.{Contract}
use Rattle.serde_json.specs.Data.{Data}
use Rattle.poets_import.specs.Reading.{HasReplied, HasTotal, HasValues, IsIfDefined}
use Rattle.poets_parse.specs.declared.fault.Unread.{Unread}
use Rattle.poets_parse.specs.declared.fault.Unread.TheVariants as U

-- what was found has this value, or memory was not enough
abbrev pub Finds : {A B D : Type 0} → (A → B) → (B → D) → D → Result A Unread → Type 0
Finds view_of data_of d (Ok x) = d ≡ data_of (view_of x)
Finds view_of data_of d (Err fault) = fault ≡ U.Memory

-- where the value is that of one that is so, one with this value is found
abbrev pub FindsOnly : {A B D : Type 0} → (A → B) → (B → Type 0) → (B → D) → D → Result A Unread → Type 0
FindsOnly {A} {B} view_of IsSo data_of d result = (y : B) → IsSo y → d ≡ data_of y → Finds view_of data_of d result

-- this was found, and has this value
abbrev pub Has : {B D : Type 0} → (B → D) → D → Option B → Type 0
Has data_of d None = ⊥
Has data_of d (Some x) = d ≡ data_of x

-- so of what may be there
abbrev pub FindsSome : {B D : Type 0} → (B → Type 0) → (B → D) → D → Option B → Type 0
FindsSome {B} IsSo data_of d result = (y : B) → IsSo y → d ≡ data_of y → Has data_of d result

-- where the values are those of some that are so, some with these values are found
abbrev pub FindsAll :
    {A B : Type 0} → (A → List B) → (B → Type 0) → (B → Data) → List Data → Result A Unread → Type 0
FindsAll view_of IsSo data_of ds result = FindsOnly view_of (All IsSo) (map data_of) ds result

-- the values of a row are as declared
abbrev pub IsRow : Table → Declared → KeyRow → Type 0
IsRow names declared row = IsIfDefined names declared row.0 × IsIfDefined names declared row.1

-- a part of a portfolio: the name is that of its text, and the values are as declared
abbrev pub IsPart : Table → Declared → Name × Answer → Type 0
IsPart names declared part = IsPlaced names part.0 × HasValues names declared part.1

-- the parts of a portfolio, and its total
abbrev pub Folio : Type 0
Folio = List (Name × Answer) × Option (Option Value)

abbrev pub IsFolio : Table → Declared → Folio → Type 0
IsFolio names declared folio = All (IsPart names declared) folio.0 × HasTotal names declared folio.1

-- a portfolio as plain data
abbrev pub folio_of : code.Folio → Folio
folio_of f = (map folio_row_of f.rows.items, f.total)

-- the value of a portfolio
abbrev pub folio_as_data : Table → Folio → Data
folio_as_data names folio = reply_data names (plain.Folio folio.0 folio.1)

-- the names that a reply tells are those of their texts, and the rest is as it has to be
abbrev pub IsTold : Table → Declared → plain.Reply → Type 0
IsTold names declared (plain.NoContract x) = IsPlaced names x
IsTold names declared (plain.Folio rows total) = IsFolio names declared (rows, total)
IsTold names declared reply = HasReplied names declared reply

-- the reply has neither names nor values nor a day
abbrev pub IsPlain : plain.Reply → Type 0
IsPlain (plain.NoContract x) = ⊥
IsPlain (plain.Late day) = ⊥
IsPlain (plain.Shown c n may_end ended) = ⊥
IsPlain (plain.Answered a) = ⊥
IsPlain (plain.Folio rows total) = ⊥
IsPlain _ = Unit {0}

-- what a reply shows that is still owed
abbrev pub owed_of : plain.Reply → Option Contract
owed_of (plain.Shown c n may_end ended) = Some c
owed_of _ = None

-- where the reply shows what is still owed, it is this
abbrev pub ShowsOwed : Option Contract → plain.Reply → Type 0
ShowsOwed owed (plain.Shown c n may_end ended) = owed ≡ Some c
ShowsOwed owed _ = Unit {0}

-- so is the reply, and this is what it shows that is still owed
abbrev pub IsToldWith : Table → Declared → Option Contract → plain.Reply → Type 0
IsToldWith names declared owed r = IsTold names declared r × (owed_of r ≡ owed)

-- the reply has no values; a name in it is that of its text, its day is one of the language, and
-- this is what it shows
abbrev pub IsBare : Table → Option Contract → plain.Reply → Type 0
IsBare names owed (plain.NoContract x) = IsPlaced names x
IsBare names owed (plain.Late day) = IsDayNumber day
IsBare names owed (plain.Shown c n may_end ended) = owed ≡ Some c
IsBare names owed (plain.Answered a) = ⊥
IsBare names owed (plain.Folio rows total) = ⊥
IsBare names owed _ = Unit {0}

-- where a reply without values has these words and this value, one with this value is found
abbrev pub FindsBare : Table → Option Contract → (kind : List ℕ) → Data → Option plain.Reply → Type 0
FindsBare names owed kind d found =
    (r : plain.Reply) → IsBare names owed r → kind ≡ kind_text r → d ≡ reply_data names r →
    Has (reply_data names) d found
