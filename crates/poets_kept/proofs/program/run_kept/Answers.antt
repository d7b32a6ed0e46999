use Rattle.std.proofs.Common.{sym, ◌∙◌, ap, subst, inl, inr, arith, map}
use Rattle.std.specs.Prelude.{string_bytes}
use Rattle.poets_command.specs.Calls.{history_of}
use Rattle.poets_top.specs.Demonstrating.{HasDemonstrated}
use Rattle.poets_top.specs.Explaining.{HasExplained}
use Rattle.poets_top.specs.Exporting.{HasExported}
use Rattle.poets_top.specs.Replaying.{HasReplayed}
use Rattle.poets_top.specs.Running.{HasRun}
use Rattle.poets_top.specs.Runs.{IsStatusOrMemory}
use Rattle.poets_words.specs.declared.mode.Mode.TheVariants as M
use Rattle.poets_words.specs.declared.mode.Task.TheVariants as T
use Rattle.poets_keeping.proofs.Untouched.{time_stands}
use Rattle.poets_kept.proofs.Deserved.{keeping_deserved, recovering_deserved, resuming_deserved}
use Rattle.poets_kept.proofs.Statuses.{has_kept, has_recovered, has_resumed, keep_or_recover, keep_or_resume, keeping_not_two, no_journal_form, recover_or_resume, recovering_not_two, resuming_not_two}
use Rattle.poets_kept.proofs.Unkept.{ends_told}
use Rattle.poets_kept.proofs.program.run_kept.Goals as goal

pub returns-in-Some-Keep-clause-usage : goal.returns-in-Some-Keep-clause-usage
returns-in-Some-Keep-clause-usage g c = λ two. absurd (keeping_not_two _ _ _ _ _ _ _ _ c.keep.ensures.ends two)

pub returns-in-Some-Keep-clause-no_form : goal.returns-in-Some-Keep-clause-no_form
returns-in-Some-Keep-clause-no_form g c = λ none. absurd (none.1 (inl (rw c.in-Some-Keep.field-0-is at c.in-Some-Keep.ensures.some)))

pub returns-in-Some-Keep-clause-ends : goal.returns-in-Some-Keep-clause-ends
returns-in-Some-Keep-clause-ends g c = λ mode asks. absurd (no_journal_form (map string_bytes c.args.words.now) (mode) asks (inl (rw c.in-Some-Keep.field-0-is at c.in-Some-Keep.ensures.some)))

pub returns-in-Some-Keep-clause-has_run : goal.returns-in-Some-Keep-clause-has_run
returns-in-Some-Keep-clause-has_run g c = λ asks. absurd (no_journal_form (map string_bytes c.args.words.now) (M.Read T.Run) asks (inl (rw c.in-Some-Keep.field-0-is at c.in-Some-Keep.ensures.some)))

pub returns-in-Some-Keep-clause-has_replayed : goal.returns-in-Some-Keep-clause-has_replayed
returns-in-Some-Keep-clause-has_replayed g c = λ asks. absurd (no_journal_form (map string_bytes c.args.words.now) (M.Read T.Replay) asks (inl (rw c.in-Some-Keep.field-0-is at c.in-Some-Keep.ensures.some)))

pub returns-in-Some-Keep-clause-has_explained : goal.returns-in-Some-Keep-clause-has_explained
returns-in-Some-Keep-clause-has_explained g c = λ name asks. absurd (no_journal_form (map string_bytes c.args.words.now) (M.Read (T.Explain name)) asks (inl (rw c.in-Some-Keep.field-0-is at c.in-Some-Keep.ensures.some)))

pub returns-in-Some-Keep-clause-has_exported : goal.returns-in-Some-Keep-clause-has_exported
returns-in-Some-Keep-clause-has_exported g c = λ asks. absurd (no_journal_form (map string_bytes c.args.words.now) (M.Read T.Export) asks (inl (rw c.in-Some-Keep.field-0-is at c.in-Some-Keep.ensures.some)))

pub returns-in-Some-Keep-clause-has_demonstrated : goal.returns-in-Some-Keep-clause-has_demonstrated
returns-in-Some-Keep-clause-has_demonstrated g c = λ sales asks. absurd (no_journal_form (map string_bytes c.args.words.now) (M.Demo sales) asks (inl (rw c.in-Some-Keep.field-0-is at c.in-Some-Keep.ensures.some)))

pub returns-in-Some-Keep-clause-status : goal.returns-in-Some-Keep-clause-status
returns-in-Some-Keep-clause-status g c = λ mode wanted asks. absurd (no_journal_form (map string_bytes c.args.words.now) (mode) asks (inl (rw c.in-Some-Keep.field-0-is at c.in-Some-Keep.ensures.some)))

pub returns-in-Some-Keep-clause-untouched : goal.returns-in-Some-Keep-clause-untouched
returns-in-Some-Keep-clause-untouched g c = λ none. absurd (none (inl (rw c.in-Some-Keep.field-0-is at c.in-Some-Keep.ensures.some)))

pub returns-in-Some-Keep-clause-has_kept : goal.returns-in-Some-Keep-clause-has_kept
returns-in-Some-Keep-clause-has_kept g c = λ asks done. has_kept _ _ _ _ _ _ _ _ done c.keep.ensures.ends

pub returns-in-Some-Keep-clause-keep_status : goal.returns-in-Some-Keep-clause-keep_status
returns-in-Some-Keep-clause-keep_status g c = λ asks text file wanted told held deserved faultless whole.
    keeping_deserved _ _ c.texts_of_a_file.ensures.one c.texts_of_a_file.ensures.none text file _ _ _ _ _ _ told held faultless.source faultless.sink whole wanted deserved c.keep.ensures.ends

pub returns-in-Some-Keep-clause-recovers : goal.returns-in-Some-Keep-clause-recovers
returns-in-Some-Keep-clause-recovers g c = λ asks. absurd (keep_or_recover _ (rw c.in-Some-Keep.field-0-is at c.in-Some-Keep.ensures.some) asks)

pub returns-in-Some-Keep-clause-has_recovered : goal.returns-in-Some-Keep-clause-has_recovered
returns-in-Some-Keep-clause-has_recovered g c = λ asks. absurd (keep_or_recover _ (rw c.in-Some-Keep.field-0-is at c.in-Some-Keep.ensures.some) asks)

pub returns-in-Some-Keep-clause-recover_status : goal.returns-in-Some-Keep-clause-recover_status
returns-in-Some-Keep-clause-recover_status g c = λ asks. absurd (keep_or_recover _ (rw c.in-Some-Keep.field-0-is at c.in-Some-Keep.ensures.some) asks)

pub returns-in-Some-Keep-clause-resumes : goal.returns-in-Some-Keep-clause-resumes
returns-in-Some-Keep-clause-resumes g c = λ asks. absurd (keep_or_resume _ (rw c.in-Some-Keep.field-0-is at c.in-Some-Keep.ensures.some) asks)

pub returns-in-Some-Keep-clause-has_resumed : goal.returns-in-Some-Keep-clause-has_resumed
returns-in-Some-Keep-clause-has_resumed g c = λ asks. absurd (keep_or_resume _ (rw c.in-Some-Keep.field-0-is at c.in-Some-Keep.ensures.some) asks)

pub returns-in-Some-Keep-clause-resume_status : goal.returns-in-Some-Keep-clause-resume_status
returns-in-Some-Keep-clause-resume_status g c = λ asks. absurd (keep_or_resume _ (rw c.in-Some-Keep.field-0-is at c.in-Some-Keep.ensures.some) asks)

pub returns-in-Some-Recover-clause-usage : goal.returns-in-Some-Recover-clause-usage
returns-in-Some-Recover-clause-usage g c = λ two. absurd (recovering_not_two _ _ _ _ _ _ _ _ c.recover_journal.ensures.ends two)

pub returns-in-Some-Recover-clause-no_form : goal.returns-in-Some-Recover-clause-no_form
returns-in-Some-Recover-clause-no_form g c = λ none. absurd (none.1 (inr (inl (rw c.in-Some-Recover.field-0-is at c.in-Some-Recover.ensures.some))))

pub returns-in-Some-Recover-clause-ends : goal.returns-in-Some-Recover-clause-ends
returns-in-Some-Recover-clause-ends g c = λ mode asks. absurd (no_journal_form (map string_bytes c.args.words.now) (mode) asks (inr (inl (rw c.in-Some-Recover.field-0-is at c.in-Some-Recover.ensures.some))))

pub returns-in-Some-Recover-clause-has_run : goal.returns-in-Some-Recover-clause-has_run
returns-in-Some-Recover-clause-has_run g c = λ asks. absurd (no_journal_form (map string_bytes c.args.words.now) (M.Read T.Run) asks (inr (inl (rw c.in-Some-Recover.field-0-is at c.in-Some-Recover.ensures.some))))

pub returns-in-Some-Recover-clause-has_replayed : goal.returns-in-Some-Recover-clause-has_replayed
returns-in-Some-Recover-clause-has_replayed g c = λ asks. absurd (no_journal_form (map string_bytes c.args.words.now) (M.Read T.Replay) asks (inr (inl (rw c.in-Some-Recover.field-0-is at c.in-Some-Recover.ensures.some))))

pub returns-in-Some-Recover-clause-has_explained : goal.returns-in-Some-Recover-clause-has_explained
returns-in-Some-Recover-clause-has_explained g c = λ name asks. absurd (no_journal_form (map string_bytes c.args.words.now) (M.Read (T.Explain name)) asks (inr (inl (rw c.in-Some-Recover.field-0-is at c.in-Some-Recover.ensures.some))))

pub returns-in-Some-Recover-clause-has_exported : goal.returns-in-Some-Recover-clause-has_exported
returns-in-Some-Recover-clause-has_exported g c = λ asks. absurd (no_journal_form (map string_bytes c.args.words.now) (M.Read T.Export) asks (inr (inl (rw c.in-Some-Recover.field-0-is at c.in-Some-Recover.ensures.some))))

pub returns-in-Some-Recover-clause-has_demonstrated : goal.returns-in-Some-Recover-clause-has_demonstrated
returns-in-Some-Recover-clause-has_demonstrated g c = λ sales asks. absurd (no_journal_form (map string_bytes c.args.words.now) (M.Demo sales) asks (inr (inl (rw c.in-Some-Recover.field-0-is at c.in-Some-Recover.ensures.some))))

pub returns-in-Some-Recover-clause-status : goal.returns-in-Some-Recover-clause-status
returns-in-Some-Recover-clause-status g c = λ mode wanted asks. absurd (no_journal_form (map string_bytes c.args.words.now) (mode) asks (inr (inl (rw c.in-Some-Recover.field-0-is at c.in-Some-Recover.ensures.some))))

pub returns-in-Some-Recover-clause-untouched : goal.returns-in-Some-Recover-clause-untouched
returns-in-Some-Recover-clause-untouched g c = λ none. absurd (none (inr (inl (rw c.in-Some-Recover.field-0-is at c.in-Some-Recover.ensures.some))))

pub returns-in-Some-Recover-clause-has_recovered : goal.returns-in-Some-Recover-clause-has_recovered
returns-in-Some-Recover-clause-has_recovered g c = λ asks done. has_recovered _ _ _ _ _ _ _ _ done c.recover_journal.ensures.ends

pub returns-in-Some-Recover-clause-recover_status : goal.returns-in-Some-Recover-clause-recover_status
returns-in-Some-Recover-clause-recover_status g c = λ asks text file wanted told held deserved faultless whole.
    recovering_deserved _ _ c.texts_of_a_file.ensures.one c.texts_of_a_file.ensures.none text file _ _ _ _ _ _ told held faultless.source faultless.sink whole wanted deserved c.recover_journal.ensures.ends

pub returns-in-Some-Recover-clause-keeps : goal.returns-in-Some-Recover-clause-keeps
returns-in-Some-Recover-clause-keeps g c = λ asks. absurd (keep_or_recover _ asks (rw c.in-Some-Recover.field-0-is at c.in-Some-Recover.ensures.some))

pub returns-in-Some-Recover-clause-has_kept : goal.returns-in-Some-Recover-clause-has_kept
returns-in-Some-Recover-clause-has_kept g c = λ asks. absurd (keep_or_recover _ asks (rw c.in-Some-Recover.field-0-is at c.in-Some-Recover.ensures.some))

pub returns-in-Some-Recover-clause-keep_status : goal.returns-in-Some-Recover-clause-keep_status
returns-in-Some-Recover-clause-keep_status g c = λ asks. absurd (keep_or_recover _ asks (rw c.in-Some-Recover.field-0-is at c.in-Some-Recover.ensures.some))

pub returns-in-Some-Recover-clause-resumes : goal.returns-in-Some-Recover-clause-resumes
returns-in-Some-Recover-clause-resumes g c = λ asks. absurd (recover_or_resume _ (rw c.in-Some-Recover.field-0-is at c.in-Some-Recover.ensures.some) asks)

pub returns-in-Some-Recover-clause-has_resumed : goal.returns-in-Some-Recover-clause-has_resumed
returns-in-Some-Recover-clause-has_resumed g c = λ asks. absurd (recover_or_resume _ (rw c.in-Some-Recover.field-0-is at c.in-Some-Recover.ensures.some) asks)

pub returns-in-Some-Recover-clause-resume_status : goal.returns-in-Some-Recover-clause-resume_status
returns-in-Some-Recover-clause-resume_status g c = λ asks. absurd (recover_or_resume _ (rw c.in-Some-Recover.field-0-is at c.in-Some-Recover.ensures.some) asks)

pub returns-in-Some-Resume-clause-usage : goal.returns-in-Some-Resume-clause-usage
returns-in-Some-Resume-clause-usage g c = λ two. absurd (resuming_not_two _ _ _ _ _ _ _ _ c.resume.ensures.ends two)

pub returns-in-Some-Resume-clause-no_form : goal.returns-in-Some-Resume-clause-no_form
returns-in-Some-Resume-clause-no_form g c = λ none. absurd (none.1 (inr (inr (rw c.in-Some-Resume.field-0-is at c.in-Some-Resume.ensures.some))))

pub returns-in-Some-Resume-clause-ends : goal.returns-in-Some-Resume-clause-ends
returns-in-Some-Resume-clause-ends g c = λ mode asks. absurd (no_journal_form (map string_bytes c.args.words.now) (mode) asks (inr (inr (rw c.in-Some-Resume.field-0-is at c.in-Some-Resume.ensures.some))))

pub returns-in-Some-Resume-clause-has_run : goal.returns-in-Some-Resume-clause-has_run
returns-in-Some-Resume-clause-has_run g c = λ asks. absurd (no_journal_form (map string_bytes c.args.words.now) (M.Read T.Run) asks (inr (inr (rw c.in-Some-Resume.field-0-is at c.in-Some-Resume.ensures.some))))

pub returns-in-Some-Resume-clause-has_replayed : goal.returns-in-Some-Resume-clause-has_replayed
returns-in-Some-Resume-clause-has_replayed g c = λ asks. absurd (no_journal_form (map string_bytes c.args.words.now) (M.Read T.Replay) asks (inr (inr (rw c.in-Some-Resume.field-0-is at c.in-Some-Resume.ensures.some))))

pub returns-in-Some-Resume-clause-has_explained : goal.returns-in-Some-Resume-clause-has_explained
returns-in-Some-Resume-clause-has_explained g c = λ name asks. absurd (no_journal_form (map string_bytes c.args.words.now) (M.Read (T.Explain name)) asks (inr (inr (rw c.in-Some-Resume.field-0-is at c.in-Some-Resume.ensures.some))))

pub returns-in-Some-Resume-clause-has_exported : goal.returns-in-Some-Resume-clause-has_exported
returns-in-Some-Resume-clause-has_exported g c = λ asks. absurd (no_journal_form (map string_bytes c.args.words.now) (M.Read T.Export) asks (inr (inr (rw c.in-Some-Resume.field-0-is at c.in-Some-Resume.ensures.some))))

pub returns-in-Some-Resume-clause-has_demonstrated : goal.returns-in-Some-Resume-clause-has_demonstrated
returns-in-Some-Resume-clause-has_demonstrated g c = λ sales asks. absurd (no_journal_form (map string_bytes c.args.words.now) (M.Demo sales) asks (inr (inr (rw c.in-Some-Resume.field-0-is at c.in-Some-Resume.ensures.some))))

pub returns-in-Some-Resume-clause-status : goal.returns-in-Some-Resume-clause-status
returns-in-Some-Resume-clause-status g c = λ mode wanted asks. absurd (no_journal_form (map string_bytes c.args.words.now) (mode) asks (inr (inr (rw c.in-Some-Resume.field-0-is at c.in-Some-Resume.ensures.some))))

pub returns-in-Some-Resume-clause-untouched : goal.returns-in-Some-Resume-clause-untouched
returns-in-Some-Resume-clause-untouched g c = λ none. absurd (none (inr (inr (rw c.in-Some-Resume.field-0-is at c.in-Some-Resume.ensures.some))))

pub returns-in-Some-Resume-clause-keeps : goal.returns-in-Some-Resume-clause-keeps
returns-in-Some-Resume-clause-keeps g c = λ asks. absurd (keep_or_resume _ asks (rw c.in-Some-Resume.field-0-is at c.in-Some-Resume.ensures.some))

pub returns-in-Some-Resume-clause-has_kept : goal.returns-in-Some-Resume-clause-has_kept
returns-in-Some-Resume-clause-has_kept g c = λ asks. absurd (keep_or_resume _ asks (rw c.in-Some-Resume.field-0-is at c.in-Some-Resume.ensures.some))

pub returns-in-Some-Resume-clause-keep_status : goal.returns-in-Some-Resume-clause-keep_status
returns-in-Some-Resume-clause-keep_status g c = λ asks. absurd (keep_or_resume _ asks (rw c.in-Some-Resume.field-0-is at c.in-Some-Resume.ensures.some))

pub returns-in-Some-Resume-clause-recovers : goal.returns-in-Some-Resume-clause-recovers
returns-in-Some-Resume-clause-recovers g c = λ asks. absurd (recover_or_resume _ asks (rw c.in-Some-Resume.field-0-is at c.in-Some-Resume.ensures.some))

pub returns-in-Some-Resume-clause-has_recovered : goal.returns-in-Some-Resume-clause-has_recovered
returns-in-Some-Resume-clause-has_recovered g c = λ asks. absurd (recover_or_resume _ asks (rw c.in-Some-Resume.field-0-is at c.in-Some-Resume.ensures.some))

pub returns-in-Some-Resume-clause-recover_status : goal.returns-in-Some-Resume-clause-recover_status
returns-in-Some-Resume-clause-recover_status g c = λ asks. absurd (recover_or_resume _ asks (rw c.in-Some-Resume.field-0-is at c.in-Some-Resume.ensures.some))

pub returns-in-Some-Resume-clause-has_resumed : goal.returns-in-Some-Resume-clause-has_resumed
returns-in-Some-Resume-clause-has_resumed g c = λ asks done. has_resumed _ _ _ _ _ _ _ _ done c.resume.ensures.ends

pub returns-in-Some-Resume-clause-resume_status : goal.returns-in-Some-Resume-clause-resume_status
returns-in-Some-Resume-clause-resume_status g c = λ asks text file wanted told held deserved faultless whole.
    resuming_deserved _ _ c.texts_of_a_file.ensures.one c.texts_of_a_file.ensures.none text file _ _ _ _ _ _ told held faultless.source faultless.sink whole wanted deserved c.resume.ensures.ends

pub returns-in-None-clause-usage : goal.returns-in-None-clause-usage
returns-in-None-clause-usage g c = λ two. (c.run.ensures.usage (sym c.unstored.ensures.status ∙ two), c.in-None.ensures.none)

pub returns-in-None-clause-no_form : goal.returns-in-None-clause-no_form
returns-in-None-clause-no_form g c = λ none.
    let told = c.run.ensures.no_form none.0 in
    (subst (IsStatusOrMemory 2) (sym c.unstored.ensures.status) told.0, told.1, told.2, ap (λ l. l.items) c.unstored.ensures.history ∙ told.3)

pub returns-in-None-clause-ends : goal.returns-in-None-clause-ends
returns-in-None-clause-ends g c = λ mode asks. ends_told c.unstored.result.status c.run.result.status _ _ c.unstored.ensures.status (ap (λ l. history_of l.items) c.unstored.ensures.history) (c.run.ensures.ends mode asks)

pub returns-in-None-clause-has_run : goal.returns-in-None-clause-has_run
returns-in-None-clause-has_run g c = λ asks done. subst (HasRun _ _ _ _) (sym (ap (λ l. history_of l.items) c.unstored.ensures.history)) (c.run.ensures.has_run asks (sym c.unstored.ensures.status ∙ done))

pub returns-in-None-clause-has_replayed : goal.returns-in-None-clause-has_replayed
returns-in-None-clause-has_replayed g c = λ asks done. subst (HasReplayed _ _ _ _) (sym (ap (λ l. history_of l.items) c.unstored.ensures.history)) (c.run.ensures.has_replayed asks (sym c.unstored.ensures.status ∙ done))

pub returns-in-None-clause-has_explained : goal.returns-in-None-clause-has_explained
returns-in-None-clause-has_explained g c = λ name asks done. subst (HasExplained name _ _ _ _) (sym (ap (λ l. history_of l.items) c.unstored.ensures.history)) (c.run.ensures.has_explained name asks (sym c.unstored.ensures.status ∙ done))

pub returns-in-None-clause-has_exported : goal.returns-in-None-clause-has_exported
returns-in-None-clause-has_exported g c = λ asks done. subst (HasExported _ _ _ _) (sym (ap (λ l. history_of l.items) c.unstored.ensures.history)) (c.run.ensures.has_exported asks (sym c.unstored.ensures.status ∙ done))

pub returns-in-None-clause-has_demonstrated : goal.returns-in-None-clause-has_demonstrated
returns-in-None-clause-has_demonstrated g c = λ sales asks.
    let told = c.run.ensures.has_demonstrated sales asks in
    (told.0, λ done. subst (HasDemonstrated sales _ _) (sym (ap (λ l. history_of l.items) c.unstored.ensures.history)) (told.1 (sym c.unstored.ensures.status ∙ done)))

pub returns-in-None-clause-status : goal.returns-in-None-clause-status
returns-in-None-clause-status g c = λ mode wanted asks deserves faultless. subst (IsStatusOrMemory wanted) (sym c.unstored.ensures.status) (c.run.ensures.status mode wanted asks deserves faultless)

pub returns-in-None-clause-later : goal.returns-in-None-clause-later
returns-in-None-clause-later g c = let same = ap g.D.Disk.faults c.unstored.ensures.disk in (c.run.ensures.later.0, c.run.ensures.later.1, omega (arith, same))

pub returns-in-None-clause-time : goal.returns-in-None-clause-time
returns-in-None-clause-time g c = time_stands g.D.Disk.seen c.args.disk c.unstored.result.disk c.unstored.ensures.disk

pub returns-in-None-clause-untouched : goal.returns-in-None-clause-untouched
returns-in-None-clause-untouched g c = λ none. (c.unstored.ensures.disk, c.unstored.ensures.stored)

pub returns-in-None-clause-keeps : goal.returns-in-None-clause-keeps
returns-in-None-clause-keeps g c = λ asks. absurd (c.in-None.ensures.none (inl asks))

pub returns-in-None-clause-has_kept : goal.returns-in-None-clause-has_kept
returns-in-None-clause-has_kept g c = λ asks. absurd (c.in-None.ensures.none (inl asks))

pub returns-in-None-clause-keep_status : goal.returns-in-None-clause-keep_status
returns-in-None-clause-keep_status g c = λ asks. absurd (c.in-None.ensures.none (inl asks))

pub returns-in-None-clause-recovers : goal.returns-in-None-clause-recovers
returns-in-None-clause-recovers g c = λ asks. absurd (c.in-None.ensures.none (inr (inl asks)))

pub returns-in-None-clause-has_recovered : goal.returns-in-None-clause-has_recovered
returns-in-None-clause-has_recovered g c = λ asks. absurd (c.in-None.ensures.none (inr (inl asks)))

pub returns-in-None-clause-recover_status : goal.returns-in-None-clause-recover_status
returns-in-None-clause-recover_status g c = λ asks. absurd (c.in-None.ensures.none (inr (inl asks)))

pub returns-in-None-clause-resumes : goal.returns-in-None-clause-resumes
returns-in-None-clause-resumes g c = λ asks. absurd (c.in-None.ensures.none (inr (inr asks)))

pub returns-in-None-clause-has_resumed : goal.returns-in-None-clause-has_resumed
returns-in-None-clause-has_resumed g c = λ asks. absurd (c.in-None.ensures.none (inr (inr asks)))

pub returns-in-None-clause-resume_status : goal.returns-in-None-clause-resume_status
returns-in-None-clause-resume_status g c = λ asks. absurd (c.in-None.ensures.none (inr (inr asks)))
