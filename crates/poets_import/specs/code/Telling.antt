-- Replies by their words.
use Rattle.std.specs.Prelude.{ℕ, ℤ, Bool, List, [], ◌∷◌, Option, Some, None, codes, if◌then◌else◌}
use Rattle.std.specs.Prelude.{option_map, option_and_then}
use Rattle.std.specs.Option.{option_or}
use Rattle.std.specs.Str.{bytes_eq}
use Rattle.serde_json.specs.Data.{Data, string}
use Rattle.poets_value.specs.declared.value.Name.{Name}
use Rattle.poets_value.specs.Civil.{day_text}
use Rattle.poets_syntax.specs.Contract.{Contract}
use Rattle.poets_report.specs.Plain.{Answer}
use Rattle.poets_lex.specs.Table.{Table}
use Rattle.poets_command.specs.Plain.{Reply}
use Rattle.poets_books.specs.Replies.{kind_text}
use Rattle.poets_json.specs.Document.{of_kind, only, reply_data}
use Rattle.poets_import.specs.code.Members.{number_at, truth_at}

-- what is found by the first of these words that is the text
abbrev pub by_words : {A : Type 0} → List (List ℕ × A) → List ℕ → Option A
by_words [] text = None
by_words (w ∷ ws) text = if bytes_eq text w.0 then Some w.1 else by_words ws text

-- the reply that its words alone tell
abbrev pub word_reply : List ℕ → Option Reply
word_reply kind = by_words
    ((codes "hopeless", Reply.Hopeless) ∷ (codes "too large", Reply.TooLarge) ∷ (codes "ended", Reply.Ended)
    ∷ (codes "unmatched", Reply.Unmatched) ∷ (codes "ended now", Reply.EndedNow)
    ∷ (codes "already ended", Reply.AlreadyEnded) ∷ (codes "not performed", Reply.NotPerformed) ∷ []) kind

-- the reply that tells one number
abbrev pub numbered_reply : List ℕ → Data → Option Reply
numbered_reply kind d = option_and_then (λ found. found)
    (by_words
    ((codes "registered", option_map Reply.Registered (number_at (codes "id") d))
    ∷ (codes "name taken", option_map Reply.NameTaken (number_at (codes "id") d))
    ∷ (codes "no event", option_map Reply.NoEvent (number_at (codes "number") d))
    ∷ (codes "watching", option_map Reply.Watching (number_at (codes "number") d))
    ∷ (codes "no watch", option_map Reply.NoWatch (number_at (codes "number") d)) ∷ []) kind)

-- the reply that tells how many events there are
abbrev pub counted_by : List ℕ → ℕ → Bool → Option Reply
counted_by kind count may_end = by_words
    ((codes "recorded", Reply.Recorded count may_end) ∷ (codes "voided", Reply.Voided count may_end) ∷ []) kind

abbrev pub counted_reply : List ℕ → Data → Option Reply
counted_reply kind d =
    option_and_then (λ count. option_and_then (counted_by kind count) (truth_at (codes "may_end") d))
    (number_at (codes "count") d)

-- the reply that has neither names nor values nor a day
abbrev pub plain_reply : List ℕ → Data → Option Reply
plain_reply kind d = option_or (word_reply kind) (option_or (numbered_reply kind d) (counted_reply kind d))

-- the reply that shows this, which is still owed
abbrev pub shown_reply : Option Contract → Data → Option Reply
shown_reply owed d =
    option_and_then (λ c. option_and_then (λ count. option_and_then (λ may_end.
    option_map (λ ended. Reply.Shown c count may_end ended) (truth_at (codes "ended") d))
    (truth_at (codes "may_end") d)) (number_at (codes "count") d)) owed

-- the reply shows what is still owed
abbrev pub IsShown : Reply → Type 0
IsShown (Reply.Shown c n may_end ended) = Unit {0}
IsShown _ = ⊥

-- values of replies with a name, a day, and an answer
abbrev pub name_told : Table → Name → Data
name_told names x = reply_data names (Reply.NoContract x)

abbrev pub day_told : ℤ → Data
day_told day = of_kind (kind_text (Reply.Late day)) (only (codes "day") (string (day_text day)))

abbrev pub answer_told : Table → Answer → Data
answer_told names a = reply_data names (Reply.Answered a)
