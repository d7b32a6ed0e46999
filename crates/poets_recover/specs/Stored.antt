-- Calls as the texts of a journal hold them, and the first text that is no call.
use Rattle.std.specs.Prelude.{◌≡◌, ℕ, ◌+◌, ◌≤◌, ◌<◌, List, [], ◌∷◌, ◌++◌, length, map, sum_by}
use Rattle.poets_value.specs.Limits.{most_clerks}
use Rattle.poets_value.specs.Listed.{Listed}
use Rattle.poets_lex.specs.declared.token.Token.{Token}
use Rattle.poets_lex.specs.Lexes.{Lexes}
use Rattle.poets_lex.specs.Table.{Table}
use Rattle.poets_grammar.specs.Statements.{IsStatement}
use Rattle.poets_grammar.specs.Tokens.{toks}
use Rattle.poets_grammar.specs.TooDeep.{IsTooDeepStored}
use Rattle.poets_syntax.specs.Plain.{Book}
use Rattle.poets_report.specs.Plain.{Report}
use Rattle.poets_command.specs.Calls.{Call}
use Rattle.poets_command.specs.Plain.{Command}
use Rattle.poets_command.specs.Said.{Numbered}
use Rattle.poets_command.specs.Typing.{IsTypedCommand}
use Rattle.poets_recover.specs.declared.fault.RecoverFault.{RecoverFault}
use Rattle.poets_recover.specs.declared.fault.RecoverFault.TheVariants as F
use Rattle.poets_recover.specs.declared.limits.TheConstants.{MOST_STORED}

-- ---- calls

-- the text is this call: a clerk's number from 1 to 64, a colon, and a command that is typed in the
-- book and its reports; its new names get the next numbers of a table
pub record IsStoredCall
    (book : Book) (reports : List Report) (before : Table) (text : List ℕ) (clerk : ℕ) (command : Command)
    (after : Table) : Type 0 where
  pub tokens : List Token
  pub lexed : Lexes before text 0 tokens after
  pub shallow : ¬ (IsTooDeepStored (toks tokens))
  pub said : IsStatement (toks tokens) (Numbered clerk command)
  pub from : 1 ≤ clerk
  pub to : clerk ≤ most_clerks
  pub typed : IsTypedCommand book reports command

-- the texts are these calls, one after the other, where `Is` says which call a text is; each begins
-- with the table that the one before it left
pub data AreCalls (Is : Table → List ℕ → ℕ → Command → Table → Type 0)
    : Table → List (List ℕ) → List Call → Table → Type 0 where
  NoTexts : {names : Table} → AreCalls Is names [] [] names
  Text :
      {before between after : Table} {text : List ℕ} {texts : List (List ℕ)} {clerk : ℕ} {command : Command}
      {calls : List Call} →
      Is before text clerk command between → AreCalls Is between texts calls after →
      AreCalls Is before (text ∷ texts) ((clerk, command) ∷ calls) after

-- the texts are these calls of the book and its reports, one after the other
abbrev pub AreStoredCalls : Book → List Report → Table → List (List ℕ) → List Call → Table → Type 0
AreStoredCalls book reports = AreCalls (IsStoredCall book reports)

-- ---- texts

-- the bytes of the texts
abbrev pub bytes_in : List (Listed ℕ) → List (List ℕ)
bytes_in texts = map (λ text. text.items) texts

-- how many bytes the texts have together
abbrev pub length_of_all : List (List ℕ) → ℕ
length_of_all texts = sum_by length texts

-- the most bytes that the texts of a journal have together
abbrev pub most_stored : ℕ
most_stored = MOST_STORED

-- ---- refusals

-- after texts with so many bytes, and with this table of names, the text brings the bytes past the
-- most, or it is no call
pub data IsRefused (book : Book) (reports : List Report) (bytes : ℕ) (names : Table) (text : List ℕ) : Type 0 where
  TooMuch : most_stored < bytes + length text → IsRefused book reports bytes names text
  NoCall :
      ((clerk : ℕ) (command : Command) (after : Table) → ¬ (IsStoredCall book reports names text clerk command after)) →
      IsRefused book reports bytes names text

-- the text with the number, from 1, is refused, and those before it are calls
pub record IsRefusedText
    (book : Book) (reports : List Report) (names : Table) (texts : List (List ℕ)) (number : ℕ) : Type 0 where
  pub before : List (List ℕ)
  pub text : List ℕ
  pub after : List (List ℕ)
  pub cut : texts ≡ before ++ text ∷ after
  pub counted : number ≡ length before + 1
  pub calls : List Call
  pub between : Table
  pub stored : AreStoredCalls book reports names before calls between
  pub within : length_of_all before ≤ most_stored
  pub refused : IsRefused book reports (length_of_all before) between text

-- the fault is the number of the first text that is refused, or memory ran out
abbrev pub TellsRefused : Book → List Report → Table → List (List ℕ) → RecoverFault → Type 0
TellsRefused book reports names texts (F.Text number) = IsRefusedText book reports names texts number
TellsRefused book reports names texts F.Memory = Unit {0}
