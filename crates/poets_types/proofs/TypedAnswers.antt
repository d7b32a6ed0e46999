-- What an answer of a check says by the rules of typing.
use Rattle.std.proofs.Common.{◌≡◌, List, [], Result, Ok, Err, sym}
use Rattle.std.specs.Prelude.{IfOk}
use Rattle.poets_value.specs.declared.value.Name.{Name}
use Rattle.poets_syntax.specs.Contract.{Contract}
use Rattle.poets_syntax.specs.Plain.{Book}
use Rattle.poets_syntax.specs.Typed.{check_contract}
use Rattle.poets_syntax.specs.Typing.{IsTyped}
use Rattle.poets_syntax.proofs.TypingRules.{contract_typed}
use Rattle.poets_report.specs.Plain.{Report}
use Rattle.poets_command.specs.Plain.{Command}
use Rattle.poets_command.specs.TypedStatements.{check_command}
use Rattle.poets_command.specs.Typing.{IsTypedCommand}
use Rattle.poets_command.proofs.TypingRules.{command_typed}
use Rattle.poets_types.specs.declared.cause.TypeCause.{TypeCause}
use Rattle.poets_types.specs.code.Answers.{answer_of}
use Rattle.poets_types.proofs.Checks.{passes_from_ok}

pub contract_told : (book : Book) (reports : List Name) (c : Contract) (result : Result (Unit {0}) TypeCause) →
    result ≡ answer_of (check_contract book reports [] c) → IfOk result (λ _. IsTyped book reports [] c)
contract_told book reports c (Ok u) e = contract_typed book reports [] c (passes_from_ok (check_contract book reports [] c) tt (sym e))
contract_told book reports c (Err cause) e = tt

pub command_told : (book : Book) (reports : List Report) (command : Command) (result : Result (Unit {0}) TypeCause) →
    result ≡ answer_of (check_command book reports command) → IfOk result (λ _. IsTypedCommand book reports command)
command_told book reports command (Ok u) e = command_typed book reports command (passes_from_ok (check_command book reports command) tt (sym e))
command_told book reports command (Err cause) e = tt
