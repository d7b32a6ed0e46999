-- Where the gate is behind which the next record goes.
use Rattle.std.specs.Prelude.{◌≡◌, ◌≢◌, ℕ, ◌+◌, ◌<◌, List, ◌∷◌, ◌++◌, length, IfSome}
use Rattle.poets_disk.specs.Disks.{Seen, IsSure, longest_file}
use Rattle.poets_journal.specs.Texts.{AreRecords, IsFrame}

-- the file is records of these texts, then a gate that is not open, at that place, and then the
-- rest
pub record HasGate (file : List ℕ) (texts : List (List ℕ)) (front : List ℕ) (gate : ℕ) (rest : List ℕ) : Type 0 where
  pub is : file ≡ front ++ gate ∷ rest
  pub records : (other : List ℕ) → AreRecords (front ++ other) texts other
  pub closed : gate ≢ 1

-- the file's gate is at that place
pub record HasGateAt (at : ℕ) (file : List ℕ) : Type 0 where
  pub texts : List (List ℕ)
  pub front : List ℕ
  pub gate : ℕ
  pub rest : List ℕ
  pub has : HasGate file texts front gate rest
  pub place : at ≡ length front

-- a record can be put behind the gate at that place
pub record IsReady (disk : Seen) (at : ℕ) : Type 0 where
  pub within : at < longest_file
  pub file : IfSome disk.bytes (HasGateAt at)
  pub sure : IsSure disk

-- the text's record stands behind the gate, followed by a closed one
pub record HasStaged (at : ℕ) (text file : List ℕ) : Type 0 where
  pub texts : List (List ℕ)
  pub front : List ℕ
  pub gate : ℕ
  pub frame : List ℕ
  pub rest : List ℕ
  pub has : HasGate file texts front gate (frame ++ rest)
  pub place : at ≡ length front
  pub framed : IsFrame text frame

-- the gate at that place can be opened
pub record IsStaged (disk : Seen) (at : ℕ) (text : List ℕ) : Type 0 where
  pub file : IfSome disk.bytes (HasStaged at text)
  pub sure : IsSure disk
