-- The rules of the exit statuses say what the parts of an ending say.
use Rattle.std.proofs.Common.{◌≡◌, ℕ, ◌+◌, List, [], refl, sym, ap, subst, inl, inr, arith}
use Rattle.poets_io.specs.Streams.{AppendsPart, LosesFront}
use Rattle.poets_command.specs.Plain.{Entry}
use Rattle.poets_session.specs.Sessions.{Text}
use Rattle.poets_words.specs.Words.{AskFor, IsCommandForm}
use Rattle.poets_words.specs.declared.mode.Mode.{Mode}
use Rattle.poets_words.specs.declared.mode.Mode.TheVariants as M
use Rattle.poets_words.specs.declared.mode.Task.{Task}
use Rattle.poets_words.proofs.Forms.{asked_once}
use Rattle.poets_writing.specs.Writing.{Change, HasFailed, IsWritten}
use Rattle.poets_opening.specs.Limits.{block, longest, too_long_text}
use Rattle.poets_opening.specs.Unread.{Gave}
use Rattle.poets_top.specs.Demonstrating.{IsDemonstration}
use Rattle.poets_top.specs.Laws.{RunsEndByStatus, NoFormsEndByStatus}
use Rattle.poets_top.specs.RunEnds.{WasMade, WasRefused, WasTooLong, IsRunText, WasWritten, RanOut, RunEnds}
use Rattle.poets_top.specs.Runs.{IsAnswerTo, IsResult, IsEnding, Ends, IsStatusOrMemory}

module _ (words : List (List ℕ)) (source sink : Change) where
  -- ---- from the parts to the rules

  module _ (task : Task) (asked : AskFor words (M.Read task)) (faultless : source.after.faults ≡ source.before.faults) where
    abbrev Result : (status : ℕ) → List Entry → List ℕ → Type 0
    Result = IsResult task source.before source.after

    answer_made : {read : Text} {status : ℕ} {h : List Entry} {text : List ℕ} → status ≡ 0 → Gave source.before source.after read →
        IsAnswerTo read task status h text → WasMade words source h text
    answer_made zero gave (IsAnswerTo.Made {names = names} {statements = statements} session made) =
        WasMade.OfSession task names statements asked gave session made
    answer_made zero gave (IsAnswerTo.Refused refused) = absurd (omega (arith, zero))

    result_made : {status : ℕ} {h : List Entry} {text : List ℕ} → status ≡ 0 → Result status h text → WasMade words source h text
    result_made zero (IsResult.Read all short answer) =
        answer_made zero (record { all = all; short = short; faultless = faultless }) answer
    result_made zero (IsResult.TooLong front) = absurd (omega (arith, zero))

    answer_text : {read : Text} {status : ℕ} {h : List Entry} {text : List ℕ} → Gave source.before source.after read →
        IsAnswerTo read task status h text → IsRunText words source h text
    answer_text gave (IsAnswerTo.Made {names = names} {statements = statements} session made) =
        IsRunText.Made (WasMade.OfSession task names statements asked gave session made)
    answer_text gave (IsAnswerTo.Refused {names = names} refused) = IsRunText.Refused (WasRefused.OfText task names asked gave refused)

    too_long : LosesFront (longest + 1) (longest + block) source.before.bytes source.after.bytes → WasTooLong words source
    too_long front = record { task = task; asked = asked; front = front; faultless = faultless }

    result_text : {status : ℕ} {h : List Entry} {text : List ℕ} → Result status h text → IsRunText words source h text
    result_text (IsResult.Read all short answer) = answer_text (record { all = all; short = short; faultless = faultless }) answer
    result_text (IsResult.TooLong front) = IsRunText.TooLong (too_long front)

    answer_ends : {read : Text} {status : ℕ} {h : List Entry} {text : List ℕ} → Gave source.before source.after read →
        IsAnswerTo read task status h text → WasWritten sink text → RunEnds words source sink status h
    answer_ends gave (IsAnswerTo.Made {names = names} {statements = statements} session made) written =
        RunEnds.Done (WasMade.OfSession task names statements asked gave session made) written
    answer_ends gave (IsAnswerTo.Refused {names = names} refused) written = RunEnds.NoSession (WasRefused.OfText task names asked gave refused) written

    result_ends : {status : ℕ} {h : List Entry} {text : List ℕ} → Result status h text → WasWritten sink text → RunEnds words source sink status h
    result_ends (IsResult.Read all short answer) written = answer_ends (record { all = all; short = short; faultless = faultless }) answer written
    result_ends (IsResult.TooLong front) written = RunEnds.TooLong (too_long front) written

    task_written : {status : ℕ} {h : List Entry} → IsWritten Result sink.before sink.after status h → RunEnds words source sink status h
    task_written (IsWritten.Whole result appends quiet) = result_ends result (record { whole = appends; faultless = quiet })
    task_written (IsWritten.Failed result part failed) = RunEnds.WriteFailed (result_text result) part failed
    task_written (IsWritten.MemoryBetween names result some part quiet) =
        RunEnds.NoMemory (RanOut.Between names (result_made refl result) some part quiet)
    task_written (IsWritten.MemoryBefore same) = RunEnds.NoMemory (RanOut.Unwritten task asked faultless same)

  module _ (sales : ℕ) (asked : AskFor words (M.Demo sales)) (unread : source.after ≡ source.before) where
    demo_made : {status : ℕ} {h : List Entry} {text : List ℕ} → IsDemonstration sales status h text → WasMade words source h text
    demo_made (IsDemonstration.Demonstrated is) = WasMade.OfDemo sales asked unread is

    demo_ends : {status : ℕ} {h : List Entry} {text : List ℕ} → IsDemonstration sales status h text → WasWritten sink text → RunEnds words source sink status h
    demo_ends (IsDemonstration.Demonstrated is) written = RunEnds.Done (WasMade.OfDemo sales asked unread is) written

    demo_written : {status : ℕ} {h : List Entry} → IsWritten (IsDemonstration sales) sink.before sink.after status h → RunEnds words source sink status h
    demo_written (IsWritten.Whole is appends quiet) = demo_ends is (record { whole = appends; faultless = quiet })
    demo_written (IsWritten.Failed is part failed) = RunEnds.WriteFailed (IsRunText.Made (demo_made is)) part failed
    demo_written (IsWritten.MemoryBetween names is some part quiet) =
        RunEnds.NoMemory (RanOut.Between names (demo_made is) some part quiet)
    demo_written (IsWritten.MemoryBefore same) = RunEnds.NoMemory (RanOut.Unread unread same)

  by_rule : {mode : Mode} {status : ℕ} {h : List Entry} → AskFor words mode →
      Ends source.before source.after sink.before sink.after status h mode → RunEnds words source sink status h
  by_rule asked (Ends.OfTask {task = task} (IsEnding.Answered faultless written)) = task_written task asked faultless written
  by_rule asked (Ends.OfTask {task = task} (IsEnding.ReadFailed failed front same)) = RunEnds.ReadFailed task asked failed front same
  by_rule asked (Ends.OfDemo {sales = sales} unread written) = demo_written sales asked unread written

  -- ---- from the rules to the parts

  abbrev Ended : (status : ℕ) → List Entry → Mode → Type 0
  Ended status h mode = Ends source.before source.after sink.before sink.after status h mode

  module _ (mode : Mode) (asked : AskFor words mode) where
    same_mode : (other : Mode) {status : ℕ} {h : List Entry} → AskFor words other → Ended status h other → Ended status h mode
    same_mode other {status} {h} there e = subst (Ended status h) (asked_once words other mode there asked) e

    -- how what was made is written
    made_by : {h : List Entry} {text : List ℕ} (status : ℕ) → WasMade words source h text →
        ((Is : (status : ℕ) → List Entry → List ℕ → Type 0) → Is 0 h text → IsWritten Is sink.before sink.after status h) → Ended status h mode
    made_by status (WasMade.OfSession task names statements there gave session made) write =
        same_mode (M.Read task) there (Ends.OfTask (IsEnding.Answered gave.faultless (write (IsResult task source.before source.after)
        (IsResult.Read gave.all gave.short (IsAnswerTo.Made session made)))))
    made_by status (WasMade.OfDemo sales there unread is) write =
        same_mode (M.Demo sales) there (Ends.OfDemo unread (write (IsDemonstration sales) (IsDemonstration.Demonstrated is)))

    refused_by : {line : List ℕ} (status : ℕ) → WasRefused words source line →
        ((Is : (status : ℕ) → List Entry → List ℕ → Type 0) → Is 1 [] line → IsWritten Is sink.before sink.after status []) → Ended status [] mode
    refused_by status (WasRefused.OfText task names there gave refused) write =
        same_mode (M.Read task) there (Ends.OfTask (IsEnding.Answered gave.faultless (write (IsResult task source.before source.after)
        (IsResult.Read gave.all gave.short (IsAnswerTo.Refused refused)))))

    too_long_by : (status : ℕ) (long : WasTooLong words source) →
        (IsResult long.task source.before source.after 6 [] too_long_text → IsWritten (IsResult long.task source.before source.after) sink.before sink.after status []) → Ended status [] mode
    too_long_by status long write = same_mode (M.Read long.task) long.asked (Ends.OfTask (IsEnding.Answered long.faultless (write (IsResult.TooLong long.front))))

    unwritten_by : (other : Mode) → AskFor words other → source.after ≡ source.before → sink.after ≡ sink.before → Ended 3 [] mode
    unwritten_by (M.Read task) there unread same =
        same_mode (M.Read task) there (Ends.OfTask (IsEnding.Answered (ap (λ s. s.faults) unread) (IsWritten.MemoryBefore same)))
    unwritten_by (M.Demo sales) there unread same = same_mode (M.Demo sales) there (Ends.OfDemo unread (IsWritten.MemoryBefore same))

    ran_out : {h : List Entry} → RanOut words source sink h → Ended 3 h mode
    ran_out (RanOut.Unread unread same) = unwritten_by mode asked unread same
    ran_out (RanOut.Unwritten task there faultless same) =
        same_mode (M.Read task) there (Ends.OfTask (IsEnding.Answered faultless (IsWritten.MemoryBefore same)))
    ran_out (RanOut.Between names made some part quiet) =
        made_by 3 made (λ Is is. IsWritten.MemoryBetween names is some part quiet)

    failed_by : {h : List Entry} {text : List ℕ} → IsRunText words source h text →
        AppendsPart sink.before.bytes sink.after.bytes text → HasFailed sink.before sink.after → Ended 5 h mode
    failed_by (IsRunText.Made made) part failed = made_by 5 made (λ Is is. IsWritten.Failed is part failed)
    failed_by (IsRunText.Refused refused) part failed = refused_by 5 refused (λ Is is. IsWritten.Failed is part failed)
    failed_by (IsRunText.TooLong long) part failed = too_long_by 5 long (λ is. IsWritten.Failed is part failed)

    by_parts : {status : ℕ} {h : List Entry} → RunEnds words source sink status h → Ended status h mode
    by_parts (RunEnds.Done made written) = made_by 0 made (λ Is is. IsWritten.Whole is written.whole written.faultless)
    by_parts (RunEnds.NoSession refused written) = refused_by 1 refused (λ Is is. IsWritten.Whole is written.whole written.faultless)
    by_parts (RunEnds.NoForm none unread same) = absurd (none (mode, asked))
    by_parts (RunEnds.NoMemory out) = ran_out out
    by_parts (RunEnds.ReadFailed task there failed front same) = same_mode (M.Read task) there (Ends.OfTask (IsEnding.ReadFailed failed front same))
    by_parts (RunEnds.WriteFailed text part failed) = failed_by text part failed
    by_parts (RunEnds.TooLong long written) = too_long_by 6 long (λ is. IsWritten.Whole is written.whole written.faultless)

pub runs_end_by_status : RunsEndByStatus
runs_end_by_status words mode source sink status h asked =
    (by_parts words source sink mode asked, by_rule words source sink asked)

-- ---- of words that are no command form

module _ (words : List (List ℕ)) (source sink : Change) (none : IsCommandForm words → ⊥) where
  -- nothing was read or written, and there is no history
  abbrev Nothing : List Entry → Type 0
  Nothing h = (source.after ≡ source.before) × (sink.after ≡ sink.before) × (h ≡ [])

  unmade : {h : List Entry} {text : List ℕ} → WasMade words source h text → ⊥
  unmade (WasMade.OfSession task names statements asked gave session made) = none (M.Read task, asked)
  unmade (WasMade.OfDemo sales asked unread is) = none (M.Demo sales, asked)

  unrefused : {line : List ℕ} → WasRefused words source line → ⊥
  unrefused (WasRefused.OfText task names asked gave refused) = none (M.Read task, asked)

  unwritten : {h : List Entry} {text : List ℕ} → IsRunText words source h text → ⊥
  unwritten (IsRunText.Made made) = unmade made
  unwritten (IsRunText.Refused refused) = unrefused refused
  unwritten (IsRunText.TooLong long) = none (M.Read long.task, long.asked)

  nothing_of : {h : List Entry} → RanOut words source sink h → Nothing h
  nothing_of (RanOut.Unread unread same) = (unread, same, refl)
  nothing_of (RanOut.Unwritten task asked faultless same) = absurd (none (M.Read task, asked))
  nothing_of (RanOut.Between names made some part quiet) = absurd (unmade made)

  nothing_by : {status : ℕ} {h : List Entry} → RunEnds words source sink status h →
      IsStatusOrMemory 2 status × (source.after ≡ source.before) × (sink.after ≡ sink.before) × (h ≡ [])
  nothing_by (RunEnds.Done made written) = absurd (unmade made)
  nothing_by (RunEnds.NoSession refused written) = absurd (unrefused refused)
  nothing_by (RunEnds.NoForm unasked unread same) = (inl refl, unread, same, refl)
  nothing_by (RunEnds.NoMemory out) = let n = nothing_of out in (inr refl, n.0, n.1, n.2)
  nothing_by (RunEnds.ReadFailed task asked failed front same) = absurd (none (M.Read task, asked))
  nothing_by (RunEnds.WriteFailed text part failed) = absurd (unwritten text)
  nothing_by (RunEnds.TooLong long written) = absurd (none (M.Read long.task, long.asked))

  by_nothing : (status : ℕ) (h : List Entry) → IsStatusOrMemory 2 status → Nothing h → RunEnds words source sink status h
  by_nothing status h (inl two) (unread, same, empty) =
      subst (λ n. RunEnds words source sink n h) (sym two) (subst (RunEnds words source sink 2) (sym empty) (RunEnds.NoForm none unread same))
  by_nothing status h (inr three) (unread, same, empty) =
      subst (λ n. RunEnds words source sink n h) (sym three) (subst (RunEnds words source sink 3) (sym empty) (RunEnds.NoMemory (RanOut.Unread unread same)))

pub no_forms_end_by_status : NoFormsEndByStatus
no_forms_end_by_status words source sink status h none =
    (nothing_by words source sink none, λ n. by_nothing words source sink none status h n.0 (n.1, n.2, n.3))
