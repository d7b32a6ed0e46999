-- Printed commands are short.
use Rattle.std.proofs.Common.{◌*◌, ◌≤◌, List, [], length, arith, length-append, pos}
use Rattle.std.specs.Prelude.{codes}
use Rattle.std.specs.Fmt.{decimal, signed_decimal}
use Rattle.poets_value.specs.Civil.{day_text}
use Rattle.poets_command.specs.Plain.{Command}
use Rattle.poets_command.specs.Taken.{IsWholeCommand}
use Rattle.poets_lex.specs.declared.token.Tok.{Tok}
use Rattle.poets_lex.specs.Table.{Table, IsTable}
use Rattle.poets_grammar.specs.Statements.{IsCommand}
use Rattle.poets_print.specs.Texts.{name_text, listed, call_text, contract_text}
use Rattle.poets_print.specs.Lines.{amount_text, event_text, command_text}
use Rattle.poets_print.specs.Laws.{CanWriteNumberOf}
use Rattle.poets_printed.proofs.ShortPieces.{length_three, length_four, length_seven, length_number, length_whole, length_day, length_name}
use Rattle.poets_printed.proofs.ShortLists.{short_names}
use Rattle.poets_printed.proofs.ShortExpressions.{short_arguments, length_call}
use Rattle.poets_printed.proofs.ShortContracts.{short_contract}

module _ (names : Table) (all : IsTable names) where
  -- a command that was read
  pub short_command : {ts : List Tok} {command : Command} → IsCommand ts command → IsWholeCommand command → CanWriteNumberOf command →
      length (command_text names command) ≤ 80 * length ts
  short_command (IsCommand.Register {x} {ts} {c} r) h small =
      let contract = short_contract names all r h in
      omega (arith, contract.bytes, length_name names all x, length_four (codes "register ") (name_text names x) (codes " = ") (contract_text names c))
  short_command (IsCommand.Transmit {x} {sender} {receiver} {kind} {n} {day}) h small =
      omega (
        arith,
        length_name names all x,
        length_name names all sender,
        length_name names all receiver,
        length_name names all kind,
        length_day day,
        length_whole (pos n) h.0,
        length_four (codes "transmit ") (name_text names x) (codes " ") (event_text names (record { sender = sender; receiver = receiver; what = record { kind = kind; amount = pos n }; day = day })),
        length_seven (name_text names sender) (codes " ") (name_text names receiver) (codes " ") (amount_text names (record { kind = kind; amount = pos n })) (codes " @") (day_text day),
        length_three (signed_decimal (pos n)) (codes " ") (name_text names kind),
      )
  short_command (IsCommand.Void {x} {n}) h small =
      omega (
        arith,
        length_name names all x,
        length_number n small,
        length_four (codes "void ") (name_text names x) (codes " ") (decimal n),
      )
  short_command (IsCommand.End {x}) h small = omega (arith, length_name names all x, length-append (codes "end ") (name_text names x))
  short_command (IsCommand.Show {x}) h small = omega (arith, length_name names all x, length-append (codes "show ") (name_text names x))
  short_command (IsCommand.Tally {q} {ts} {args} r) h small =
      omega (arith, length_call names all q args, short_arguments names all ts [] args r h, length-append (codes "tally ") (call_text names q args))
  short_command (IsCommand.Portfolio {q} {ts} {mid} {args} {names = over} r s) h small =
      let list = short_names names all s in
      let given = short_arguments names all ts _ args r h in
      omega (
        arith,
        length_call names all q args,
        given,
        list.bytes,
        length_four (codes "portfolio ") (call_text names q args) (codes " over ") (listed (name_text names) over),
      )
  short_command (IsCommand.Watch {q} {ts} {args} r) h small =
      omega (arith, length_call names all q args, short_arguments names all ts [] args r h, length-append (codes "watch ") (call_text names q args))
  short_command (IsCommand.Read {n}) h small = omega (arith, length_number n small, length-append (codes "read ") (decimal n))
