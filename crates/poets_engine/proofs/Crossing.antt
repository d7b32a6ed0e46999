-- An engine, and what it keeps of a call, may be handed to another thread.
use denote.Param.Send.{IsSend, IsSync, sendable}
use Rattle.std.proofs.Crossing.{crosses}
use Rattle.std.proofs.MapsCrossing as maps
use Rattle.poets_value.proofs.value.Value.TheSendSync as value
use Rattle.poets_command.proofs.Crossing.{parts, command_send, command_sync, reply_send}
use Rattle.poets_rules.proofs.Crossing.{rules_send}
use Rattle.poets_table.proofs.Crossing.{events_send}
use Rattle.poets_live.proofs.Crossing.{watches_send}
use Rattle.poets_expr.specs.contracts.env.Decls as Decls
use Rattle.poets_cons.specs.contracts.node.Node as Node
use Rattle.poets_cons.specs.contracts.rows.Rows as Rows
use Rattle.poets_report.specs.contracts.report.Report as Report
use Rattle.poets_engine.specs.contracts.copies.Copies as Copies
use Rattle.poets_engine.specs.contracts.engine.Engine as Engine
use Rattle.poets_engine.specs.contracts.kept.FolioWork as FolioWork
use Rattle.poets_engine.specs.contracts.kept.Kept as Kept
use Rattle.poets_engine.specs.contracts.store.Store as Store

-- declared names and reports may be sent and shared
decls_send : IsSend (Decls.the_field).row
decls_send = search (maps.crosses, parts) depth 60 fits 20000

decls_sync : IsSync (Decls.the_field).row
decls_sync = search (maps.crosses, parts) depth 60 fits 20000

report_send : IsSend (Report.the_field).row
report_send = search parts depth 60 fits 20000

report_sync : IsSync (Report.the_field).row
report_sync = search parts depth 60 fits 20000

-- and so may what a portfolio is made of
work_send : IsSend (FolioWork.the_field).row
work_send = search (decls_send, decls_sync, report_send, report_sync, events_send, value.the_field_send, parts) depth 60 fits 20000

copies_send : IsSend (Copies.the_field).row
copies_send = search (decls_send, decls_sync, report_send, report_sync, parts) depth 60 fits 20000

-- what is kept until a reply is asked for may be sent
pub kept_send : IsSend Kept.the_row
kept_send = search (reply_send, work_send, sendable) depth 60 fits 20000

-- what is owed on a contract may be sent and shared
node_send : IsSend (Node.the_field).row
node_send = search parts depth 60 fits 20000

node_sync : IsSync (Node.the_field).row
node_sync = search parts depth 60 fits 20000

rows_send : IsSend (Rows.the_field).row
rows_send = search (node_send, crosses, sendable) depth 60 fits 20000

rows_sync : IsSync (Rows.the_field).row
rows_sync = search (node_sync, crosses, sendable) depth 60 fits 20000

-- the contracts, the log and the watches
store_send : IsSend Store.the_row
store_send = search (watches_send, events_send, rows_send, rows_sync, parts) depth 60 fits 20000

-- an engine may be sent
pub engine_send : IsSend Engine.the_row
engine_send = search (rules_send, store_send, copies_send, command_send, command_sync, crosses, sendable) depth 60 fits 20000
