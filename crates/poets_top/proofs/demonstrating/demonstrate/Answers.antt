use Rattle.std.proofs.Common.{refl, sym, ap, subst}
use Rattle.poets_command.specs.Calls.{history_of}
use Rattle.poets_top.specs.Demonstrating.{IsDemonstrated, IsDemonstration}
use Rattle.poets_writing.proofs.Written.{IsWritten-nothing, IsWritten-outcome}
use Rattle.poets_top.proofs.demonstrating.demonstrate.Goals as goal

pub returns-in-Ok : goal.returns-in-Ok
returns-in-Ok g c =
    IsWritten-outcome (IsDemonstration c.args.sales) _ _ 0 c.write_outcome.result.status _ (history_of c.in-Ok.history.items) c.as_str.result.now (ap (λ l. history_of l.items) c.write_outcome.ensures.history)
    (IsDemonstration.Demonstrated (subst (IsDemonstrated c.args.sales (history_of c.in-Ok.history.items)) (sym c.as_str.ensures.value) c.in-Ok.ensures)) c.write_outcome.ensures.line

pub returns-in-Err : goal.returns-in-Err
returns-in-Err g c =
    IsWritten-nothing (IsDemonstration c.args.sales) _ _ c.without_history.result.status _ refl c.without_history.ensures.status (ap history_of c.without_history.ensures.history)
