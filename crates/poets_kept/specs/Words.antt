-- The words that ask for a journal on a disk.
use Rattle.std.specs.Prelude.{◌≡◌, ◌⊎◌, List, [], ◌∷◌, codes, map, String, string_bytes}
use Rattle.std.specs.declared.alloc.Global.{Global}
use Rattle.poets_kept.specs.declared.words.JournalTask.{JournalTask}
use Rattle.poets_kept.specs.declared.words.JournalTask.TheVariants as T
use Rattle.poets_session.specs.declared.form.Form.{Form}
use Rattle.poets_session.specs.declared.form.Form.TheVariants as F

-- the one word `keep`: run a session of clerks, and keep its calls in a journal on the disk
abbrev pub AskToKeep : List (String Global) → Type 0
AskToKeep words = map string_bytes words ≡ codes "keep" ∷ []

-- the one word `recover`: make the calls that the disk's journal holds
abbrev pub AskToRecover : List (String Global) → Type 0
AskToRecover words = map string_bytes words ≡ codes "recover" ∷ []

-- the one word `resume`: make the calls of a session of clerks after those of the disk's journal,
-- and keep them there
abbrev pub AskToResume : List (String Global) → Type 0
AskToResume words = map string_bytes words ≡ codes "resume" ∷ []

-- the words ask for a journal
abbrev pub AskForJournal : List (String Global) → Type 0
AskForJournal words = AskToKeep words ⊎ AskToRecover words ⊎ AskToResume words

-- the words ask for the task
abbrev pub AsksFor : List (String Global) → JournalTask → Type 0
AsksFor words T.Keep = AskToKeep words
AsksFor words T.Recover = AskToRecover words
AsksFor words T.Resume = AskToResume words

-- the form of the sessions that a task takes
abbrev pub form_of : JournalTask → Form
form_of T.Keep = F.Clerks
form_of T.Recover = F.Book
form_of T.Resume = F.Clerks
