-- What a run promises that keeps calls, or makes those that are kept.
use Rattle.std.specs.Prelude.{ℕ}
use Rattle.poets_command.specs.Calls.{history_of}
use Rattle.poets_disk.specs.Disks.{Seen}
use Rattle.poets_writing.specs.Writing.{Change}
use Rattle.poets_keeping.specs.declared.outcome.KeptOutcome.{KeptOutcome}
use Rattle.poets_keeping.specs.Keeping.{EndsKeeping}
use Rattle.poets_keeping.specs.Recovering.{EndsRecovering}

module _ {D : Type 0} (seen : D → Seen) (faults : D → ℕ) where
  -- the run ends as one that was asked to keep
  abbrev pub EndsAsKept : (source sink : Change) → (disk : D) → KeptOutcome D → Type 0
  EndsAsKept source sink disk result =
      EndsKeeping seen faults source.before source.after sink.before sink.after disk result.disk
      result.status (history_of result.history.items) result.stored

  -- the run ends as one that was asked to recover
  abbrev pub EndsAsRecovered : (source sink : Change) → (disk : D) → KeptOutcome D → Type 0
  EndsAsRecovered source sink disk result =
      EndsRecovering seen faults source.before source.after sink.before sink.after disk result.disk
      result.status (history_of result.history.items) result.stored
