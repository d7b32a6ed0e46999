-- What the private functions ask of a seat, and what they leave of it.
use Rattle.std.specs.Prelude.{◌≡◌, ℕ, ◌+◌, ◌<◌, ◌≤◌, ◌^◌, List, [], ◌∷◌, ◌++◌, Option, Some, None}
use Rattle.std.specs.Prelude.{Result, MatchResult}
use Rattle.std.specs.Prelude.{All}
use Rattle.std.specs.declared.alloc.Global.{Global}
use Rattle.std.specs.declared.sync.Arc.{Arc}
use Rattle.std.specs.Arc.{arc_value}
use Rattle.atomic_table.specs.Table.{Me}
use Rattle.atomic_table.specs.declared.shared.Seat.{Seat}
use Rattle.poets_value.specs.Listed.{Listed}
use Rattle.poets_turn.specs.Clerks.{IsCall, IsFresh, KnowsClerk, calls, clerk_count, front, number}
use Rattle.poets_turn.specs.Clerks.{turn_frame}
use Rattle.poets_turn.specs.declared.types.Turn.{Turn}
use Rattle.poets_turn.specs.declared.types.ClerkOf.{ClerkOf}
use Rattle.poets_turn.specs.declared.view.View.{View}
use Rattle.poets_turn.specs.declared.view.Stage.TheVariants.{Idle, Waiting, Serving}
use Rattle.poets_turn.specs.code.Steps.{IsServing, Served, first_view}

module _ {M C F : Type 0} where
  -- the seat is a clerk's that has no ticket and holds no machine
  abbrev pub MayDraw : Me (Option M) (View C F) → Type 0
  MayDraw me = (me.0.stage ≡ Idle) × (me.1 ≡ []) × (0 < me.0.number)

  -- the seat is that of the clerk with the number, which has no ticket, holds no machine, and saw
  -- all that it heard of
  abbrev pub MayCall : ℕ → Me (Option M) (View C F) → Type 0
  MayCall number me = (me.0.stage ≡ Idle) × (me.1 ≡ []) × (0 < number) × (me.0.number ≡ number) × (me.0.heard ≡ [])

  -- the seat is still that of the clerk with the number, which again has no ticket, holds no
  -- machine, and saw all that it heard of
  abbrev pub IsBack : ℕ → Me (Option M) (View C F) → Type 0
  IsBack number me = (me.0.number ≡ number) × (me.0.stage ≡ Idle) × (me.1 ≡ []) × (me.0.heard ≡ [])

  -- the seat with the view v drew the ticket
  abbrev pub IsWaiting : View C F → ℕ → Me (Option M) (View C F) → Type 0
  IsWaiting v ticket me = me ≡ (record v { stage = Waiting ticket }, [])

module _ {M C F : Type 0} (history : M → List (ℕ × C)) where
  -- the machine is out of its slot as the seat with the ticket found it, and there is a next ticket
  -- to hand on to
  abbrev pub MayPass : Me (Option M) (View C F) → ℕ → M → Type 0
  MayPass me ticket machine =
      (me.0.stage ≡ Serving ticket (history machine)) × (me.1 ≡ (0, None) ∷ []) × (ticket + 1 < 2 ^ 64)

  -- the machine took one call since the seat with the ticket found it, which is the seat's
  abbrev pub HasOneCallMore : View C F → ℕ → Arc C Global → M → Type 0
  HasOneCallMore v ticket call machine =
      (before : List (ℕ × C)) × (v.stage ≡ Serving ticket before)
      × (history machine ≡ before ++ (v.number, arc_value call) ∷ [])

-- the seat with the view v holds the machine, which is as it should be when the ticket is served
abbrev pub HoldsMachine : {M C F : Type 0} → (M → List (ℕ × C)) → (M → F) → View C F → ℕ → Me (Option M) (View C F) →
    Type 0
HoldsMachine {M} history frame v ticket me =
    (machine : M) × IsServing history frame v ticket machine (Some machine) me × Served history frame v ticket machine

module _ {C F : Type 0} where
  -- the seat handed on, saw the history, and made one call more
  abbrev pub with_call : View C F → List (ℕ × C) → Arc C Global → View C F
  with_call v history call = record v { stage = Idle; front = history; calls = v.calls ++ arc_value call ∷ [] }

  -- the seat is a clerk's that has no ticket, and saw all that it heard of
  abbrev pub MayTakeIn : View C F → Type 0
  MayTakeIn v = (v.stage ≡ Idle) × (0 < v.number) × (v.heard ≡ [])

  -- each clerk that the first seat knows is known to the second
  abbrev pub KnowsAllOf : View C F → View C F → Type 0
  KnowsAllOf v w =
      (number : ℕ) (saw : List (ℕ × C)) (made : List C) → KnowsClerk v number saw made → KnowsClerk w number saw made

-- the seat knows each of the clerks
abbrev pub KnowsClerks : {M C F : Type 0} → View C F → List (ClerkOf M C F) → Type 0
KnowsClerks v clerks = All (λ c. KnowsClerk v (number c) (front c) (calls c)) clerks

module _ {M C R K F : Type 0} where
  -- the turn of a seat is over: the clerk of the number made the call, of which this was kept; or
  -- nothing was kept, and it saw no more and made no call
  abbrev pub TurnEnded :
      {T E : Type 0} → (F → List (ℕ × C) → ℕ → C → T → Type 0) → (M → F) → Turn M C R K F → ℕ → Arc C Global →
      Result T E →
      (old new : Seat (Option M) (View C F)) → Type 0
  TurnEnded owes frame turn number call made old new = MatchResult made
      (λ kept. IsCall (owes (turn_frame frame turn)) (clerk_count turn) number (arc_value call) kept
      old.me.0.front new.me.0.front old.me.0.calls new.me.0.calls)
      (λ _. (new.me.0.front ≡ old.me.0.front) × (new.me.0.calls ≡ old.me.0.calls))

  -- the turnstile's first seat, of a machine with the frame and so many clerks
  abbrev pub IsFirstSeat : F → ℕ → Turn M C R K F → Seat (Option M) (View C F) → Type 0
  IsFirstSeat frame clerks turn seat =
      (seat.table_id ≡ turn.table.shared.table_id) × (seat.me ≡ (first_view frame clerks, []))

  -- the clerk with the number made so many numbers, and saw nothing and made no call
  abbrev pub MadeNumbers : (M → F) → Turn M C R K F → ℕ → ℕ → ClerkOf M C F → Type 0
  MadeNumbers frame turn number made clerk =
      (clerk.number ≡ number) × (clerk.seat.me.0.count ≡ made) × IsFresh frame turn clerk

  -- the clerk makes numbers, and this is the next, which is that of a clerk of the turnstile
  abbrev pub IsNextNumber : Turn M C R K F → ClerkOf M C F → ℕ → Type 0
  IsNextNumber turn first number =
      (0 < first.seat.me.0.count) × (number ≡ first.seat.me.0.count + 1) × (number ≤ clerk_count turn)

  -- the list is empty and has room for so many clerks, which are those of the turnstile
  abbrev pub HasRoomForClerks : Turn M C R K F → Listed (ClerkOf M C F) → ℕ → Type 0
  HasRoomForClerks turn list clerks = (list.items ≡ []) × (clerks ≤ list.room) × (clerks ≡ clerk_count turn)
