-- From ways of a residual to ways of the contract.
use Rattle.std.specs.Prelude.{◌≡◌, ℕ, List, [], ◌∷◌, length}
use Rattle.poets_value.specs.declared.event.Event.{Event}
use Rattle.poets_syntax.specs.Contract.{Contract, Par, Seq}
use Rattle.poets_syntax.specs.Book.{book_of}
use Rattle.poets_syntax.specs.Plain.{Book}
use Rattle.poets_meaning.specs.Studied.{StudiedBook, marks_of}
use Rattle.poets_meaning.specs.Marks.{Marks}
use Rattle.poets_calculus.specs.Normal.{normal, par, seq}
use Rattle.poets_calculus.specs.Residual.{after}
use Rattle.poets_way.specs.Way.{Way}
use Rattle.poets_way.specs.Ways.{Ways}
use Rattle.poets_route.specs.code.Choices.{IsAlternative}
use Rattle.poets_route.specs.code.Undone.{IsFormed}

-- the event and then so many perform the contract in the second way, where these perform an
-- alternative of its residual in the first
abbrev pub Backs : Book → Marks → Event → ℕ → (c alternative : Contract) → (from to : Way) → Type 0
Backs book marks e n c a v w = (s : List Event) → length s ≡ n →
    IsAlternative (after book marks e c) a → Ways book [] a s v → Ways book [] c (e ∷ s) w

-- the same of the whole residual
abbrev pub BacksWhole : Book → Marks → Event → ℕ → (c whole : Contract) → (from to : Way) → Type 0
BacksWhole book marks e n c r v w = (s : List Event) → length s ≡ n →
    r ≡ after book marks e c → Ways book [] r s v → Ways book [] c (e ∷ s) w

-- the same of two contracts side by side, where the first one took the event, and where the second
-- one did
abbrev pub ByFirst : Book → Marks → Event → ℕ → (a b alternative : Contract) → (from to : Way) → Type 0
ByFirst book marks e n a b c v w = (s : List Event) → length s ≡ n →
    IsAlternative (par (after book marks e a) b) c → Ways book [] c s v → Ways book [] (Par a b) (e ∷ s) w

abbrev pub BySecond : Book → Marks → Event → ℕ → (a b alternative : Contract) → (from to : Way) → Type 0
BySecond book marks e n a b c v w = (s : List Event) → length s ≡ n →
    IsAlternative (par a (after book marks e b)) c → Ways book [] c s v → Ways book [] (Par a b) (e ∷ s) w

-- the same of a sequence, where the first part took the event
abbrev pub Begins : Book → Marks → Event → ℕ → (a b alternative : Contract) → (from to : Way) → Type 0
Begins book marks e n a b c v w = (s : List Event) → length s ≡ n →
    IsAlternative (seq (after book marks e a) b) c → Ways book [] c s v → Ways book [] (Seq a b) (e ∷ s) w

-- the same of a body, by its normal form
abbrev pub BacksBody : Book → Marks → Event → ℕ → (body alternative : Contract) → (from to : Way) → Type 0
BacksBody book marks e n c a v w = (s : List Event) → length s ≡ n →
    IsAlternative (after book marks e (normal book marks c)) a → Ways book [] a s v → Ways book [] c (e ∷ s) w

-- such a contract (`IsFormed`) in normal form
pub record IsReady (book : Book) (marks : Marks) (c : Contract) : Type 0 where
  pub normal : normal book marks c ≡ c
  pub formed : IsFormed book marks c

-- the same in a studied book
abbrev pub IsReadyIn : StudiedBook → Contract → Type 0
IsReadyIn s c = IsReady (book_of s.book) (marks_of s) c

abbrev pub BacksIn : StudiedBook → Event → ℕ → (c alternative : Contract) → (from to : Way) → Type 0
BacksIn s e n c a v w = Backs (book_of s.book) (marks_of s) e n c a v w

abbrev pub BacksBodyIn : StudiedBook → Event → ℕ → (body alternative : Contract) → (from to : Way) → Type 0
BacksBodyIn s e n c a v w = BacksBody (book_of s.book) (marks_of s) e n c a v w

abbrev pub BacksWholeIn : StudiedBook → Event → ℕ → (c whole : Contract) → (from to : Way) → Type 0
BacksWholeIn s e n c r v w = BacksWhole (book_of s.book) (marks_of s) e n c r v w

abbrev pub ByFirstIn : StudiedBook → Event → ℕ → (a b alternative : Contract) → (from to : Way) → Type 0
ByFirstIn s e n a b c v w = ByFirst (book_of s.book) (marks_of s) e n a b c v w

abbrev pub BySecondIn : StudiedBook → Event → ℕ → (a b alternative : Contract) → (from to : Way) → Type 0
BySecondIn s e n a b c v w = BySecond (book_of s.book) (marks_of s) e n a b c v w

abbrev pub BeginsIn : StudiedBook → Event → ℕ → (a b alternative : Contract) → (from to : Way) → Type 0
BeginsIn s e n a b c v w = Begins (book_of s.book) (marks_of s) e n a b c v w
