-- What contracts see of the sources and sinks in memory.
use Rattle.std.specs.Prelude.{ℕ, ◌+◌, ◌<◌, ◌⊎◌, List, ◌++◌, length, drop, min, Option, Contains}
use Rattle.poets_value.specs.Limits.{longest_text}
use Rattle.poets_io.specs.Causes.{counted}

-- calls, of which some fail by plan
pub record CallPlan : Type 0 where
  -- the numbers of the calls that fail, counted from 1
  pub fails : List ℕ
  -- how many calls were made
  pub calls : ℕ
  -- how many faults there were
  pub faults : ℕ

-- the plan before the first call
abbrev pub new_plan : List ℕ → CallPlan
new_plan fails = record { fails = fails; calls = 0; faults = 0 }

-- the next call is one of those that fail
abbrev pub NextFails : CallPlan → Type 0
NextFails plan = Contains plan.fails (plan.calls + 1)

-- the plan after a call without a fault
abbrev pub after_call : CallPlan → CallPlan
after_call plan = record plan { calls = counted plan.calls }

-- the plan after a call with a fault
abbrev pub after_fault : CallPlan → CallPlan
after_fault plan = record plan { calls = counted plan.calls; faults = counted plan.faults }

-- a text that is read by steps
pub record TextLeft : Type 0 where
  -- the bytes that are left
  pub left : List ℕ
  -- the most bytes that a read gives
  pub step : ℕ
  pub plan : CallPlan

-- a text that is written
pub record TextHeld : Type 0 where
  -- the bytes that were taken
  pub held : List ℕ
  pub plan : CallPlan

-- how many bytes a read into this buffer gives
abbrev pub read_size : TextLeft → List ℕ → ℕ
read_size s buf = min s.step (min (length buf) (length s.left))

-- the text after a read of so many bytes
abbrev pub after_read : ℕ → TextLeft → TextLeft
after_read n s = record s { left = drop n s.left; plan = after_call s.plan }

-- the text after a read that failed
abbrev pub after_failed_read : TextLeft → TextLeft
after_failed_read s = record s { plan = after_fault s.plan }

-- a write of the piece fails: by plan, or because the text would be too long
abbrev pub WriteFails : TextHeld → List ℕ → Type 0
WriteFails s piece = NextFails s.plan ⊎ (longest_text < length s.held + length piece)

-- the text after a write of the piece
abbrev pub after_write : List ℕ → TextHeld → TextHeld
after_write piece s = record s { held = s.held ++ piece; plan = after_call s.plan }

-- the text after a write that failed
abbrev pub after_failed_write : TextHeld → TextHeld
after_failed_write s = record s { plan = after_fault s.plan }

-- what is known of a reader or a writer of std, and its faults so far
pub record Outside : Type 0 where
  pub known : Option (List ℕ)
  pub faults : ℕ
