use denote.Param.Send.{sendable}
use Rattle.std.proofs.Common.{◌∙◌, ap}
use Rattle.std.proofs.lemmas.Result.{IfOk-weaker}
use Rattle.poets_value.specs.Listed.{Listed}
use Rattle.poets_command.specs.declared.call.Entry.{Entry}
use Rattle.poets_engine.specs.State.{commands_of}
use Rattle.poets_command.proofs.Crossing.{command_send, command_sync, reply_send}
use Rattle.poets_engine.proofs.Crossing.{engine_send, kept_send}
use Rattle.poets_making.proofs.Entries.{no_scripts, right_entered, right_none, scripts_entered}
use Rattle.poets_making.proofs.sharing.make_scripts.Goals as goal

pub make_history-requires-send-M : goal.make_history-requires-send-M
make_history-requires-send-M g c κs = search (engine_send, sendable)

pub make_history-requires-send-M-Call : goal.make_history-requires-send-M-Call
make_history-requires-send-M-Call g c κs = search (command_send, sendable)

pub make_history-requires-send-M-Reply : goal.make_history-requires-send-M-Reply
make_history-requires-send-M-Reply g c κs = search (reply_send, sendable)

pub make_history-requires-send-M-Kept : goal.make_history-requires-send-M-Kept
make_history-requires-send-M-Kept g c κs = search (kept_send, sendable)

pub make_history-requires-sync-M-Call : goal.make_history-requires-sync-M-Call
make_history-requires-sync-M-Call g c κs = search (command_sync, sendable)

pub returns-then-is_empty-clause-right : goal.returns-then-is_empty-clause-right
returns-then-is_empty-clause-right g c = right_none c.args.rules c.new.result.items c.new.ensures c.recall.ensures c.new-engine.ensures.legal

pub returns-then-is_empty-clause-scripts : goal.returns-then-is_empty-clause-scripts
returns-then-is_empty-clause-scripts g c = no_scripts c.args.scripts.now.items c.new.result.items (c.is_empty.ensures.0 c.if-is_empty.true) c.new.ensures

pub returns-clause-right : goal.returns-clause-right
returns-clause-right g c =
    IfOk-weaker _ _ _
    (λ (entries : Listed Entry) are. right_entered c.args.rules c.new-engine.result.rules c.args.scripts.now.items c.in_ok-engine.engine.calls (commands_of c.as_slice.result.now) c.in_ok-engine.replies.items entries.items
    (ap commands_of c.as_slice.ensures ∙ c.history.ensures.calls) c.in_ok-engine.ensures.history c.in_ok-engine.ensures.replies are c.new-engine.ensures.rules c.recall.ensures c.new-engine.ensures.legal c.requires.taken)
    c.entries_of.ensures

pub returns-clause-scripts : goal.returns-clause-scripts
returns-clause-scripts g c =
    IfOk-weaker _ _ _
    (λ (entries : Listed Entry) are. scripts_entered c.args.rules c.new-engine.result.rules c.args.scripts.now.items c.in_ok-engine.engine.calls (commands_of c.as_slice.result.now) c.in_ok-engine.replies.items entries.items
    (ap commands_of c.as_slice.ensures ∙ c.history.ensures.calls) c.in_ok-engine.ensures.history c.in_ok-engine.ensures.replies are)
    c.entries_of.ensures
