-- The words that say what a reply is.
use Rattle.std.specs.Prelude.{ℕ, List, ◌++◌, ◌≡◌, codes}
use Rattle.poets_lex.specs.Table.{Table}
use Rattle.poets_command.specs.Plain.{Reply}
use Rattle.poets_print.specs.Lines.{reply_text}

-- what the reply is, in a word or two
abbrev pub kind_text : Reply → List ℕ
kind_text (Reply.Registered n) = codes "registered"
kind_text (Reply.NameTaken n) = codes "name taken"
kind_text Reply.Hopeless = codes "hopeless"
kind_text Reply.TooLarge = codes "too large"
kind_text (Reply.Recorded n may_end) = codes "recorded"
kind_text (Reply.Voided n may_end) = codes "voided"
kind_text (Reply.NoEvent k) = codes "no event"
kind_text (Reply.NoContract x) = codes "no contract"
kind_text Reply.Ended = codes "ended"
kind_text (Reply.Late d) = codes "late"
kind_text Reply.Unmatched = codes "unmatched"
kind_text Reply.EndedNow = codes "ended now"
kind_text Reply.AlreadyEnded = codes "already ended"
kind_text Reply.NotPerformed = codes "not performed"
kind_text (Reply.Shown c n may_end ended) = codes "shown"
kind_text (Reply.Answered a) = codes "answered"
kind_text (Reply.Folio rows total) = codes "portfolio"
kind_text (Reply.Watching n) = codes "watching"
kind_text (Reply.NoWatch n) = codes "no watch"

-- the reply is printed with these words; what was shown is printed by its parts alone, and an
-- answer as `value` or `rows`
abbrev pub IsPrintedWithKind : Reply → Type 0
IsPrintedWithKind (Reply.Shown c n may_end ended) = ⊥
IsPrintedWithKind (Reply.Answered a) = ⊥
IsPrintedWithKind _ = Unit {0}

-- the printed text of a reply begins with the words that say what it is, where it is printed with
-- them
abbrev pub RepliesBeginWithKinds : Type 0
RepliesBeginWithKinds =
    (names : Table) (reply : Reply) → IsPrintedWithKind reply →
    (rest : List ℕ) × (reply_text names reply ≡ kind_text reply ++ rest)
