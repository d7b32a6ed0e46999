-- What a run that resumes a journal promises.
use Rattle.std.specs.Prelude.{ℕ}
use Rattle.poets_command.specs.Calls.{history_of}
use Rattle.poets_disk.specs.Disks.{Seen}
use Rattle.poets_writing.specs.Writing.{Change}
use Rattle.poets_keeping.specs.declared.outcome.KeptOutcome.{KeptOutcome}
use Rattle.poets_resuming.specs.Resuming.{EndsResuming}

module _ {D : Type 0} (seen : D → Seen) (faults : D → ℕ) where
  -- the run ends as one that was asked to resume
  abbrev pub EndsAsResumed : (source sink : Change) → (disk : D) → KeptOutcome D → Type 0
  EndsAsResumed source sink disk result =
      EndsResuming seen faults source.before source.after sink.before sink.after disk result.disk
      result.status (history_of result.history.items) result.stored
