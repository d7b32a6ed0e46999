-- The bodies after which something changed.
use Rattle.std.specs.Prelude.{Bool, false}
use Rattle.poets_command.specs.Calls.{reply_of}
use Rattle.poets_history.specs.Ledger.{is_accepted}
use Rattle.poets_engine.specs.declared.kept.Body.{Body}
use Rattle.poets_engine.specs.declared.kept.Body.TheVariants.{Done, Folio}

-- whether something changed where a call has this body
abbrev pub has_changed : Body → Bool
has_changed (Done reply) = is_accepted (reply_of reply)
has_changed (Folio work) = false
