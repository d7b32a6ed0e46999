-- What was written, for whatever asks for it.
use Rattle.std.proofs.Common.{◌≡◌, ◌≢◌, ℕ, List, [], sym, subst, ◌⊎◌, inl, inr}
use Rattle.std.specs.Io.KnownBytes.{Appends}
use Rattle.poets_io.specs.Streams.{AppendsPart}
use Rattle.poets_lex.specs.Table.{Table}
use Rattle.poets_command.specs.Plain.{Entry}
use Rattle.poets_print.specs.Lines.{history_text}
use Rattle.poets_writing.specs.Writing.{Stream, HasFailed, IsWritten}

module _ (Is : ℕ → List Entry → List ℕ → Type 0) (sink sink' : Stream) where
  -- the line of an outcome was written, or a front of it up to a fault
  pub IsWritten-outcome : (wanted status : ℕ) (h g : List Entry) (line : List ℕ) → h ≡ g → Is wanted g line →
      ((status ≡ wanted) × Appends sink.bytes sink'.bytes line × (sink'.faults ≡ sink.faults)) ⊎ ((status ≡ 5) × AppendsPart sink.bytes sink'.bytes line × HasFailed sink sink') →
      IsWritten Is sink sink' status h
  IsWritten-outcome wanted status h g line same a (inl w) =
      subst (λ s. IsWritten Is sink sink' s h) (sym w.0) (subst (IsWritten Is sink sink' wanted) (sym same) (IsWritten.Whole a w.1 w.2))
  IsWritten-outcome wanted status h g line same a (inr w) =
      subst (λ s. IsWritten Is sink sink' s h) (sym w.0) (subst (IsWritten Is sink sink' 5) (sym same) (IsWritten.Failed a w.1 w.2))

  -- so was a line that is none of a history
  pub IsWritten-line : (wanted status : ℕ) (h : List Entry) (line : List ℕ) → h ≡ [] → Is wanted [] line →
      ((status ≡ wanted) × Appends sink.bytes sink'.bytes line × (sink'.faults ≡ sink.faults)) ⊎ ((status ≡ 5) × AppendsPart sink.bytes sink'.bytes line × HasFailed sink sink') →
      IsWritten Is sink sink' status h
  IsWritten-line wanted status h line empty a w = IsWritten-outcome wanted status h [] line empty a w

  -- the lines of a history were written, or a part of them up to a fault or until memory ran out
  pub is_written : (names : Table) (status : ℕ) (h g : List Entry) → h ≡ g → Is 0 g (history_text names g) →
      ((status ≡ 0) × Appends sink.bytes sink'.bytes (history_text names g) × (sink'.faults ≡ sink.faults))
      ⊎ ((status ≡ 5) × AppendsPart sink.bytes sink'.bytes (history_text names g) × HasFailed sink sink')
      ⊎ ((status ≡ 3) × (g ≢ []) × AppendsPart sink.bytes sink'.bytes (history_text names g) × (sink'.faults ≡ sink.faults)) →
      IsWritten Is sink sink' status h
  is_written names status h g same a (inl w) = IsWritten-outcome 0 status h g (history_text names g) same a (inl w)
  is_written names status h g same a (inr (inl w)) = IsWritten-outcome 0 status h g (history_text names g) same a (inr w)
  is_written names status h g same a (inr (inr w)) =
      subst (λ s. IsWritten Is sink sink' s h) (sym w.0) (subst (IsWritten Is sink sink' 3) (sym same) (IsWritten.MemoryBetween names a w.1 w.2 w.3))

  -- nothing was written for want of memory
  pub IsWritten-nothing : (status : ℕ) (h : List Entry) → sink' ≡ sink → status ≡ 3 → h ≡ [] → IsWritten Is sink sink' status h
  IsWritten-nothing status h same three empty =
      subst (λ s. IsWritten Is sink sink' s h) (sym three) (subst (IsWritten Is sink sink' 3) (sym empty) (IsWritten.MemoryBefore same))

-- what is one answer is the other
pub IsWritten-weaker : (A B : ℕ → List Entry → List ℕ → Type 0) (sink sink' : Stream) {status : ℕ} {h : List Entry} →
    ((s : ℕ) (g : List Entry) (text : List ℕ) → A s g text → B s g text) → IsWritten A sink sink' status h → IsWritten B sink sink' status h
IsWritten-weaker A B sink sink' f (IsWritten.Whole {status = s} {h = g} {text = t} a w k) = IsWritten.Whole (f s g t a) w k
IsWritten-weaker A B sink sink' f (IsWritten.Failed {status = s} {h = g} {text = t} a w r) = IsWritten.Failed (f s g t a) w r
IsWritten-weaker A B sink sink' f (IsWritten.MemoryBetween {h = g} names a some w k) = IsWritten.MemoryBetween names (f 0 g (history_text names g) a) some w k
IsWritten-weaker A B sink sink' f (IsWritten.MemoryBefore e) = IsWritten.MemoryBefore e
