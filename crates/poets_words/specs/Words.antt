-- What the words of the command line ask for.
use Rattle.std.specs.Prelude.{◌≡◌, ℕ, ◌≤◌, List, [], ◌∷◌, codes, map, String, string_bytes}
use Rattle.std.specs.Fmt.{decimal}
use Rattle.std.specs.declared.alloc.Global.{Global}
use Rattle.poets_value.specs.Limits.{most_sales}
use Rattle.poets_lex.specs.Table.{IsName}
use Rattle.poets_words.specs.declared.mode.Mode.{Mode}
use Rattle.poets_words.specs.declared.mode.Mode.TheVariants as M
use Rattle.poets_words.specs.declared.mode.Task.{Task}
use Rattle.poets_words.specs.declared.mode.Task.TheVariants as T

-- the bytes of each word
abbrev pub texts_of : List (String Global) → List (List ℕ)
texts_of words = map string_bytes words

-- the words for a task
abbrev pub words_of_task : Task → List (List ℕ)
words_of_task T.Check = codes "check" ∷ []
words_of_task T.Run = codes "run" ∷ []
words_of_task T.Replay = codes "replay" ∷ []
words_of_task (T.Explain name) = codes "explain" ∷ name ∷ []
words_of_task T.Export = codes "export" ∷ []

-- the words for what the program may be asked to do
abbrev pub words_of : Mode → List (List ℕ)
words_of (M.Read task) = words_of_task task
words_of (M.Demo sales) = codes "demo" ∷ decimal sales ∷ []

-- the word after `explain` is a name of the language
abbrev pub IsTask : Task → Type 0
IsTask T.Check = Unit {0}
IsTask T.Run = Unit {0}
IsTask T.Replay = Unit {0}
IsTask (T.Explain name) = IsName name
IsTask T.Export = Unit {0}

-- the task is well-formed (`IsTask`), and a demonstration has 1 to 1,000 sales of each clerk
abbrev pub IsMode : Mode → Type 0
IsMode (M.Read task) = IsTask task
IsMode (M.Demo sales) = (1 ≤ sales) × (sales ≤ most_sales)

-- the words are those of the mode, which is well-formed (`IsMode`)
abbrev pub AskFor : List (List ℕ) → Mode → Type 0
AskFor words mode = (words ≡ words_of mode) × IsMode mode

-- the words ask for something that the program does
abbrev pub IsCommandForm : List (List ℕ) → Type 0
IsCommandForm words = (mode : Mode) × AskFor words mode
