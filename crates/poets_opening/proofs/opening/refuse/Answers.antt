use Rattle.std.proofs.Common.{Some, refl, sym, ◌∙◌, ap}
use Rattle.poets_command.specs.Calls.{history_of}
use Rattle.poets_writing.proofs.Written.{IsWritten-line, IsWritten-nothing}
use Rattle.poets_opening.specs.Unread.{RefusesSource}
use Rattle.poets_opening.proofs.Refusing.{refuses_fault}
use Rattle.poets_opening.proofs.opening.refuse.Goals as goal

pub returns-in-Ok-clause-refused : goal.returns-in-Ok-clause-refused
returns-in-Ok-clause-refused g c = λ source text gave first.
    IsWritten-line (RefusesSource c.args.form source.before source.after) _ _ 1 c.write_line.result.status _ c.as_str.result.now (ap history_of c.write_line.ensures.history)
    (refuses_fault c.args.form source.before source.after text c.args.fault.now c.as_str.result.now gave (c.in-Ok.ensures.line ∙ ap (λ l. Some l) (sym c.as_str.ensures.value)) first)
    c.write_line.ensures.line

pub returns-in-Err-clause-refused : goal.returns-in-Err-clause-refused
returns-in-Err-clause-refused g c = λ source text gave first.
    IsWritten-nothing (RefusesSource c.args.form source.before source.after) _ _ c.without_history.result.status _ refl c.without_history.ensures.status
    (ap history_of c.without_history.ensures.history)
