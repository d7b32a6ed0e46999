-- What contracts say of a turnstile, its clerks and its notes.
use Rattle.std.specs.Prelude.{◌≡◌, ◌⊎◌, ℕ, ◌+◌, ◌<◌, ◌≤◌, ◌^◌, List, [], ◌∷◌, ◌++◌, length, map}
use Rattle.std.specs.Prelude.{slice_index_or, Option}
use Rattle.std.specs.Prelude.{Some, Contains, All, Result, MatchResult}
use Rattle.std.specs.declared.alloc.Global.{Global}
use Rattle.std.specs.declared.sync.Arc.{Arc}
use Rattle.std.specs.Arc.{arc_value}
use mathlib.Core.List.{IsPrefix}
use Rattle.atomic_table.specs.declared.shared.Seat.{Seat}
use Rattle.poets_machine.specs.Histories.{calls_by}
use Rattle.poets_turn.specs.declared.types.Turn.{Turn}
use Rattle.poets_turn.specs.declared.types.ClerkOf.{ClerkOf}
use Rattle.poets_turn.specs.declared.types.NoteOf.{NoteOf}
use Rattle.poets_turn.specs.declared.view.View.{View}
use Rattle.poets_turn.specs.Settings.{setting_of, OnlyClerks}

module _ {M C R K F : Type 0} where
  -- how many clerks there are
  abbrev pub clerk_count : Turn M C R K F → ℕ
  clerk_count turn = turn.table.shared.key.clerks

  -- the machine's frame, which no call changes
  abbrev pub turn_frame : (M → F) → Turn M C R K F → F
  turn_frame frame turn = frame turn.table.shared.key.machine.value

  -- the seat is one of the turnstile's
  pub record IsAt (frame : M → F) (turn : Turn M C R K F) (it : Seat (Option M) (View C F)) : Type 0 where
    pub table : it.table_id ≡ turn.table.shared.table_id
    pub setting : it.me.0.setting ≡ Some (setting_of (turn_frame frame turn) (clerk_count turn))

  -- the seat of a clerk that saw nothing and made no call
  pub record IsFreshAt (frame : M → F) (turn : Turn M C R K F) (it : Seat (Option M) (View C F)) : Type 0 where
    pub of : IsAt frame turn it
    pub front : it.me.0.front ≡ []
    pub calls : it.me.0.calls ≡ []

module _ {M C F : Type 0} where
  -- the clerk's number, from 1
  abbrev pub number : ClerkOf M C F → ℕ
  number clerk = clerk.number

  -- what the clerk saw of the history, which is a prefix of it
  abbrev pub front : ClerkOf M C F → List (ℕ × C)
  front clerk = clerk.seat.me.0.front

  -- the clerk's own calls, in order
  abbrev pub calls : ClerkOf M C F → List C
  calls clerk = clerk.seat.me.0.calls

  -- what the writer of the note had seen of the history
  abbrev pub note_front : NoteOf M C F → List (ℕ × C)
  note_front note = note.seat.me.0.front

  -- the clerk is one of the turnstile's
  abbrev pub IsClerkOf : {R K : Type 0} → (M → F) → Turn M C R K F → ClerkOf M C F → Type 0
  IsClerkOf frame turn clerk = IsAt frame turn clerk.seat

  -- a clerk that saw nothing and made no call
  abbrev pub IsFresh : {R K : Type 0} → (M → F) → Turn M C R K F → ClerkOf M C F → Type 0
  IsFresh frame turn clerk = IsFreshAt frame turn clerk.seat

  -- the note is of one of the turnstile's clerks
  abbrev pub IsNoteOf : {R K : Type 0} → (M → F) → Turn M C R K F → NoteOf M C F → Type 0
  IsNoteOf frame turn note = IsAt frame turn note.seat

  -- they are so many clerks, which saw nothing and made no call
  abbrev pub AreFresh : {R K : Type 0} → (M → F) → Turn M C R K F → ℕ → List (ClerkOf M C F) → Type 0
  AreFresh frame turn count clerks = (length clerks ≡ count) × All (λ c. IsFresh frame turn c) clerks

  -- the turnstile was made for the machine and so many clerks
  abbrev pub IsMadeFor : {R K : Type 0} → (M → F) → M → ℕ → Turn M C R K F → Type 0
  IsMadeFor frame machine count turn = (turn_frame frame turn ≡ frame machine) × (clerk_count turn ≡ count)

  -- the clerk saw no more of the history, and made no call
  abbrev pub SawNoMore : (clerk clerk' : ClerkOf M C F) → Type 0
  SawNoMore clerk clerk' = (front clerk' ≡ front clerk) × (calls clerk' ≡ calls clerk)

  -- the clerk saw all that it had seen before, and all that the writer of the note had seen
  abbrev pub HasHeard : NoteOf M C F → (clerk clerk' : ClerkOf M C F) → Type 0
  HasHeard note clerk clerk' = IsPrefix (front clerk) (front clerk') × IsPrefix (note_front note) (front clerk')

  -- the clerks have the numbers 1, 2 and so on
  abbrev pub AreNumbered : List (ClerkOf M C F) → Type 0
  AreNumbered clerks = (k : ℕ) (d : ClerkOf M C F) → k < length clerks → number (slice_index_or clerks k d) ≡ k + 1

  -- each number up to the count is that of one of the clerks
  abbrev pub AreAll : ℕ → List (ClerkOf M C F) → Type 0
  AreAll count clerks = (k : ℕ) → 0 < k → k ≤ count → Contains (map (λ c. number c) clerks) k

-- the clerk of a number, of so many, made the call, of which this was kept: it saw and had made
-- this before, and that after
pub record IsCall {C K : Type 0} (owes : List (ℕ × C) → ℕ → C → K → Type 0) (count number : ℕ) (call : C) (kept : K)
    (saw saw' : List (ℕ × C)) (made made' : List C) : Type 0 where
  -- the entries before the call, which begin with what the clerk had seen
  pub before : List (ℕ × C)
  pub longer : IsPrefix saw before
  -- the call is the last entry that the clerk saw, under its number
  pub last : saw' ≡ before ++ (number, call) ∷ []
  -- what was kept is owed there
  pub owed : owes before number call kept
  -- the call is one more of the clerk's own
  pub calls : made' ≡ made ++ call ∷ []
  -- what it saw has just its own calls under its number
  pub own : calls_by number saw' ≡ made'
  -- each entry that it saw is under the number of a clerk
  pub clerks : OnlyClerks count saw'
  -- and the entries can be counted in 64 bits
  pub short : length saw' < 2 ^ 64

module _ {M C R K F T : Type 0} where
  -- the clerk made the call, and this was kept of it
  abbrev pub HasCalled : (F → List (ℕ × C) → ℕ → C → T → Type 0) → (M → F) → Turn M C R K F → C → T →
      (clerk clerk' : ClerkOf M C F) → Type 0
  HasCalled owes frame turn call kept clerk clerk' =
      IsCall (owes (turn_frame frame turn)) (clerk_count turn) (number clerk) call kept (front clerk) (front clerk')
      (calls clerk) (calls clerk')

  -- the clerk's call is over: it made the call, and this was kept of it; or nothing was kept, and
  -- it saw no more and made no call
  abbrev pub CallEnded :
      {E : Type 0} → (F → List (ℕ × C) → ℕ → C → T → Type 0) → (M → F) → Turn M C R K F → Arc C Global → Result T E →
      (clerk clerk' : ClerkOf M C F) → Type 0
  CallEnded owes frame turn call made clerk clerk' = MatchResult made
      (λ kept. HasCalled owes frame turn (arc_value call) kept clerk clerk')
      (λ _. SawNoMore clerk clerk')

-- the history begins with all that the clerk of the number saw, and of this clerk it has just its
-- own calls, each once, in order
pub record IsClerkIn {C : Type 0} (history : List (ℕ × C)) (number : ℕ) (saw : List (ℕ × C)) (made : List C) :
    Type 0 where
  pub front : IsPrefix saw history
  pub calls : calls_by number history ≡ made

-- the history begins with all that each of the clerks saw, and of each it has just its own calls,
-- each once, in order
abbrev pub AreClerksIn : {M C F : Type 0} → List (ℕ × C) → List (ClerkOf M C F) → Type 0
AreClerksIn history clerks = All (λ c. IsClerkIn history (number c) (front c) (calls c)) clerks

-- the seat of the view is the clerk's or took it in, and knows all that the clerk saw, and its
-- calls
pub record KnowsClerk {C F : Type 0} (v : View C F) (number : ℕ) (saw : List (ℕ × C)) (made : List C) : Type 0 where
  pub front : IsPrefix saw v.front
  pub calls : ((v.number ≡ number) × (v.calls ≡ made)) ⊎ Contains v.ended (number, made)
