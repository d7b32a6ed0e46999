use denote.Param.Send.{sendable}
use Rattle.std.proofs.Common.{◌≡◌, ℕ, ◌≤◌, List, ◌++◌, length, drop, refl, ◌∙◌, ap, subst, sym}
use Rattle.std.specs.Prelude.{IfSome}
use Rattle.std.proofs.lemmas.List.{drop_at}
use Rattle.poets_command.specs.declared.call.Command.{Command}
use Rattle.poets_rules.specs.declared.rules.Rules.{Rules}
use Rattle.poets_rules.specs.Rules.{book_of_rules, reports_of_rules}
use Rattle.poets_clerks.specs.Histories.{AreReplies}
use Rattle.poets_journal.specs.Keeping.{IsKept, texts_by}
use Rattle.poets_onward.specs.Frames.{OnwardFrameOf}
use Rattle.poets_stored.specs.Stored.{stored_text}
use Rattle.poets_command.proofs.Crossing.{command_send, command_sync, reply_send}
use Rattle.poets_engine.proofs.Crossing.{engine_send, kept_send}
use Rattle.poets_session.specs.Sessions.{commands_in}
use Rattle.poets_onward.proofs.onward.Onward.TheSendSync as onward
use Rattle.poets_onward.proofs.onward.OnwardKept.TheSendSync as onward_kept
use Rattle.poets_stored.proofs.put.CommandPut.TheSendSync as put
use Rattle.poets_making.proofs.Entries.{Answered}
use Rattle.poets_keeping.specs.Made.{AreMade}
use Rattle.poets_keeping.specs.code.Entries.{AreEntriesWith}
use Rattle.poets_keeping.proofs.Made.{made_with, replies_many, scripts_taken, stored_within}
use Rattle.poets_keeping.proofs.work.keep_calls.Goals as goal

pub attempt_kept-machine-requires-send-M : goal.attempt_kept-machine-requires-send-M
attempt_kept-machine-requires-send-M g c κs = search (onward.the_send, engine_send, sendable)

pub attempt_kept-machine-requires-send-P : goal.attempt_kept-machine-requires-send-P
attempt_kept-machine-requires-send-P g c κs = search (put.the_send, sendable)

pub attempt_kept-machine-requires-send-M-Call : goal.attempt_kept-machine-requires-send-M-Call
attempt_kept-machine-requires-send-M-Call g c κs = search (command_send, sendable)

pub attempt_kept-machine-requires-send-M-Reply : goal.attempt_kept-machine-requires-send-M-Reply
attempt_kept-machine-requires-send-M-Reply g c κs = search (reply_send, sendable)

pub attempt_kept-machine-requires-send-M-Kept : goal.attempt_kept-machine-requires-send-M-Kept
attempt_kept-machine-requires-send-M-Kept g c κs = search (onward_kept.the_send, kept_send, sendable)

pub attempt_kept-machine-requires-sync-M-Call : goal.attempt_kept-machine-requires-sync-M-Call
attempt_kept-machine-requires-sync-M-Call g c κs = search (command_sync, sendable)

pub attempt_kept-machine-requires-clause-takes : goal.attempt_kept-machine-requires-clause-takes
attempt_kept-machine-requires-clause-takes g c = λ _ _.
    let made = c.new-machine.result in
    let begun = rw (sym c.new-machine.ensures.machine) at c.new-onward.ensures.frame in
    scripts_taken c.args.engine.rules _ c.args.names.now made.put c.args.scripts.now.items
    (ap (λ f. f.inner) begun) (c.new-machine.ensures.put ∙ c.new.ensures) c.requires.taken c.requires.storable

pub returns-clause-made : goal.returns-clause-made
returns-clause-made g c = λ p taken.
    let engine = c.args.engine in
    let names = c.args.names.now in
    let scripts = c.args.scripts.now.items in
    let seen = g.D.Disk.seen in
    let faults = g.D.Disk.faults in
    let disk = c.args.journal.disk in
    let machine = c.attempt_kept-machine.result.machine in
    let replies = c.attempt_kept-machine.result.replies in
    let after = c.end-engine.result in
    let whole = c.entries_with-history.result in
    let calls : List (ℕ × Command) = drop machine.machine.earlier machine.machine.machine.calls in
    let begun = rw (sym c.new-machine.ensures.machine) at c.new-onward.ensures.frame in
    let frame = c.attempt_kept-machine.ensures.frame ∙ begun in
    let longer : after.calls ≡ engine.calls ++ calls =
    (rw c.end-onward.ensures.machine at c.end-engine.ensures.history) ∙ ap (λ cs. cs ++ calls) (ap (λ (f : OnwardFrameOf Rules Command). f.earlier) frame) in
    let same : after.rules ≡ engine.rules = (rw c.end-onward.ensures.machine at c.end-engine.ensures.frame) ∙ ap (λ (f : OnwardFrameOf Rules Command). f.inner) frame in
    let told : machine.put ≡ names = c.attempt_kept-machine.ensures.table ∙ (c.new-machine.ensures.put ∙ c.new.ensures) in
    let at : machine.made ≡ disk = c.attempt_kept-machine.ensures.made ∙ c.new-machine.ensures.made in
    let kept : IsKept (seen disk) (seen machine.journal.disk) (faults disk) (faults machine.journal.disk) machine.journal.failed machine.stored (texts_by (stored_text names) calls) =
    subst (λ d. IsKept (seen d) (seen machine.journal.disk) (faults d) (faults machine.journal.disk) machine.journal.failed machine.stored (texts_by (stored_text names) calls)) at
    (subst (λ t. IsKept (seen machine.made) (seen machine.journal.disk) (faults machine.made) (faults machine.journal.disk) machine.journal.failed machine.stored (texts_by (stored_text t) calls)) told c.stored-stored.ensures.kept) in
    let later : drop c.args.earlier after.calls ≡ calls = ap (drop c.args.earlier) longer ∙ drop_at engine.calls calls c.args.earlier c.requires.earlier in
    let right : IfSome replies (λ given. AreReplies (λ seen. Answered (book_of_rules engine.rules) (reports_of_rules engine.rules) (engine.calls ++ seen)) calls given.items) =
    subst (λ (f : OnwardFrameOf Rules Command). IfSome replies (λ given. AreReplies (λ seen. Answered (book_of_rules f.inner) (reports_of_rules f.inner) (f.earlier ++ seen)) calls given.items)) begun
    c.attempt_kept-machine.ensures.replies in
    let ended : AreMade engine.rules names p (commands_in scripts) (seen disk) (seen machine.journal.disk) (faults disk) (faults machine.journal.disk) machine.stored whole =
    made_with engine.rules names p scripts (seen disk) (seen machine.journal.disk) (faults disk) (faults machine.journal.disk) machine.stored machine.journal.failed
    engine refl taken calls (rw c.studied.ensures at c.recall.ensures) c.requires.taken kept c.attempt_kept-machine.ensures.part
    after same longer c.entries_with-history.ensures.legal whole replies
    (subst (λ cs. IfSome whole (AreEntriesWith cs replies)) later c.entries_with-history.ensures.entries) c.attempt_kept-machine.ensures.history right in
    subst (λ d. AreMade engine.rules names p (commands_in scripts) (seen disk) (seen d) (faults disk) (faults d) c.stored-stored.result whole) (sym c.end-onward.ensures.disk)
    (subst (λ n. AreMade engine.rules names p (commands_in scripts) (seen disk) (seen machine.journal.disk) (faults disk) (faults machine.journal.disk) n whole) (sym c.stored-stored.ensures.stored) ended)

pub returns-clause-within : goal.returns-clause-within
returns-clause-within g c =
    let engine = c.args.engine in
    let machine = c.attempt_kept-machine.result.machine in
    let replies = c.attempt_kept-machine.result.replies in
    let after = c.end-engine.result in
    let whole = c.entries_with-history.result in
    let calls : List (ℕ × Command) = drop machine.machine.earlier machine.machine.machine.calls in
    let begun = rw (sym c.new-machine.ensures.machine) at c.new-onward.ensures.frame in
    let frame = c.attempt_kept-machine.ensures.frame ∙ begun in
    let longer : after.calls ≡ engine.calls ++ calls =
    (rw c.end-onward.ensures.machine at c.end-engine.ensures.history) ∙ ap (λ cs. cs ++ calls) (ap (λ (f : OnwardFrameOf Rules Command). f.earlier) frame) in
    let later : drop c.args.earlier after.calls ≡ calls = ap (drop c.args.earlier) longer ∙ drop_at engine.calls calls c.args.earlier c.requires.earlier in
    subst (λ n. IfSome whole (λ h. n ≤ length h.items)) (sym c.stored-stored.ensures.stored)
    (stored_within machine.put calls machine.stored whole replies (subst (λ cs. IfSome whole (AreEntriesWith cs replies)) later c.entries_with-history.ensures.entries)
    (replies_many _ calls replies c.attempt_kept-machine.ensures.replies) c.stored-stored.ensures.kept.first)
