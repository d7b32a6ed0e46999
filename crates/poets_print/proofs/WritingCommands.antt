-- What the text of a command is: that command. What is written reads back.
use Rattle.std.proofs.Common.{◌≡◌, ℕ, List, [], ◌∷◌, ◌++◌, refl, arith, append_assoc, ℤ, pos, negsuc}
use Rattle.std.specs.Prelude.{codes}
use Rattle.std.specs.Fmt.{decimal}
use Rattle.std.proofs.lemmas.Int.{ints}
use Rattle.std.proofs.lemmas.List.{append-nil}
use Rattle.poets_value.specs.declared.value.Name.{Name}
use Rattle.poets_value.specs.Civil.{day_text}
use Rattle.poets_value.proofs.EachDay.{IsDayText-day_text}
use Rattle.poets_command.specs.Plain.{Command}
use Rattle.poets_lex.specs.declared.token.Word.TheVariants as W
use Rattle.poets_lex.specs.declared.token.Sign.TheVariants as S
use Rattle.poets_lex.specs.declared.token.Tok.{Tok}
use Rattle.poets_lex.specs.declared.token.Tok.TheVariants as K
use Rattle.poets_lex.specs.Table.{Table, IsTable}
use Rattle.poets_lex.proofs.CutTexts.{IsCutInto, cut_end, cut_space, cut_word, cut_name, cut_number, cut_day, cut_spaced}
use Rattle.poets_grammar.specs.Statements.{IsCommand, IsStatement}
use Rattle.poets_print.specs.Texts.{call_text, listed, name_text}
use Rattle.poets_print.specs.Lines.{command_text}
use Rattle.poets_command.specs.Taken.{IsWholeCommand}
use Rattle.poets_command.specs.Plain as plain
use Rattle.poets_print.specs.Laws.{CanWriteCommand, CanWriteNumberOf, ContractReadsBack, CommandReadsBack}
use Rattle.poets_print.proofs.Writing.{IsTextOf}
use Rattle.poets_print.proofs.WritingContracts.{writes_call, writes_names, writes_contract}

-- the tokens are a command, and nothing is after
Says : List Tok → Command → List Tok → Type 0
Says ts command rest = IsCommand ts command

-- the pieces of a text, one after the other
transmission_shape : (t p q x s r n k d rest : List ℕ) →
    (t ++ x ++ p ++ (s ++ p ++ r ++ p ++ (n ++ p ++ k) ++ q ++ d)) ++ rest ≡ t ++ (x ++ (p ++ (s ++ (p ++ (r ++ (p ++ (n ++ (p ++ (k ++ (q ++ (d ++ rest)))))))))))
transmission_shape t p q x s r n k d rest = simp append_assoc

portfolio_shape : (a b rest : List ℕ) → (codes "portfolio " ++ a ++ codes " over " ++ b) ++ rest ≡ codes "portfolio " ++ (a ++ (codes " over " ++ (b ++ rest)))
portfolio_shape a b rest = simp append_assoc

-- where a command can be written, its number can
pub number_written : (names : Table) (command : Command) → CanWriteCommand names command → CanWriteNumberOf command
number_written names (plain.Void x k) can = can.1
number_written names (plain.Read n) can = can
number_written names _ can = tt

module _ (table : Table) (all : IsTable table) where
  writes_transmission : (x s r k : Name) (z d : ℤ) →
      let command = plain.Transmit x (record { sender = s; receiver = r; what = record { kind = k; amount = z }; day = d }) in
      IsWholeCommand command → CanWriteCommand table command → IsTextOf table Says (command_text table command ++ []) command []
  unfolding Says
  writes_transmission x s r k (pos n) d whole can =
      let on : IsCutInto table (64 ∷ (day_text d ++ [])) (K.Day d ∷ []) = cut_day (day_text d) d (IsDayText-day_text d (grind (arith, ints), grind (arith, ints))) cut_end in
      let amount = cut_number n (grind (arith, ints)) (cut_space (cut_name k all can.4 (cut_space on) refl)) refl in
      let event = cut_name s all can.1 (cut_space (cut_name r all can.2 (cut_space amount) refl)) refl in
      rw (transmission_shape (codes "transmit ") (codes " ") (codes " @") (name_text table x) (name_text table s) (name_text table r) (decimal n) (name_text table k) (day_text d) [])
      (record { tokens = _; cut = cut_word W.Transmit (cut_space (cut_name x all can.0 (cut_space event) refl)) refl; reads = IsCommand.Transmit })
  writes_transmission x s r k (negsuc n) d whole can = absurd (omega (arith, ints))

  writes_command : (command : Command) → IsWholeCommand command → CanWriteCommand table command → IsTextOf table Says (command_text table command ++ []) command []
  unfolding Says
  writes_command (plain.Register x c) whole can =
      let p = writes_contract table all c whole can.1 [] [] cut_end tt in
      simp append_assoc (record { tokens = _; cut = cut_word W.Register (cut_space (cut_name x all can.0 (cut_space (cut_spaced S.Equal p.cut)) refl)) refl; reads = IsCommand.Register p.reads })
  writes_command (plain.Transmit x e) whole can =
      writes_transmission x e.sender e.receiver e.what.kind e.what.amount e.day whole can
  writes_command (plain.Void x k) whole can =
      simp append_assoc (record { tokens = _; cut = cut_word W.Void (cut_space (cut_name x all can.0 (cut_space (cut_number k can.1 cut_end tt)) refl)) refl; reads = IsCommand.Void })
  writes_command (plain.End x) whole can = record { tokens = _; cut = cut_word W.End (cut_space (cut_name x all can cut_end tt)) refl; reads = IsCommand.End }
  writes_command (plain.Show x) whole can = record { tokens = _; cut = cut_word W.Show (cut_space (cut_name x all can cut_end tt)) refl; reads = IsCommand.Show }
  writes_command (plain.Tally q args) whole can =
      let p = writes_call table all q args can.0 whole can.1 [] [] cut_end tt in
      record { tokens = _; cut = cut_word W.Tally (cut_space p.cut) refl; reads = rw p.reads.1 (IsCommand.Tally p.reads.2) }
  writes_command (plain.Portfolio q args []) whole can = absurd (can.3 refl)
  writes_command (plain.Portfolio q args (x ∷ xs)) whole can =
      let over = writes_names table all x xs can.2 [] [] cut_end tt in
      let p = writes_call table all q args can.0 whole can.1 _ _ (cut_space (cut_word W.Over (cut_space over.cut) refl)) refl in
      rw (portfolio_shape (call_text table q args) (listed (name_text table) (x ∷ xs)) [])
      (record { tokens = _; cut = cut_word W.Portfolio (cut_space p.cut) refl; reads = rw p.reads.1 (IsCommand.Portfolio p.reads.2 over.reads) })
  writes_command (plain.Watch q args) whole can =
      let p = writes_call table all q args can.0 whole can.1 [] [] cut_end tt in
      record { tokens = _; cut = cut_word W.Watch (cut_space p.cut) refl; reads = rw p.reads.1 (IsCommand.Watch p.reads.2) }
  writes_command (plain.Read n) whole can = record { tokens = _; cut = cut_word W.Read (cut_space (cut_number n can cut_end tt)) refl; reads = IsCommand.Read }

pub contract_reads_back : ContractReadsBack
contract_reads_back names c all whole can =
    let p = writes_contract names all c whole can [] [] cut_end tt in
    let read = (rw append-nil at p.cut).at 0 in
    (read.0, read.1, rw read.2 p.reads)

pub command_reads_back : CommandReadsBack
unfolding Says
command_reads_back names command all whole can =
    let p = writes_command names all command whole can in
    let read = (rw append-nil at p.cut).at 0 in
    (read.0, read.1, rw read.2 (IsStatement.Command p.reads))
