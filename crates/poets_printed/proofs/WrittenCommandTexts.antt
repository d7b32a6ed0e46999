-- The text of a command is cut into its written tokens.
use Rattle.std.proofs.Common.{◌≡◌, ℕ, List, [], ◌∷◌, ◌++◌, refl, arith, append_assoc, ℤ, pos, negsuc}
use Rattle.std.specs.Prelude.{codes}
use Rattle.std.specs.Fmt.{decimal}
use Rattle.std.proofs.lemmas.Int.{ints}
use Rattle.poets_value.specs.declared.value.Name.{Name}
use Rattle.poets_value.specs.declared.event.Event.{Event}
use Rattle.poets_value.specs.Civil.{day_text}
use Rattle.poets_value.proofs.EachDay.{IsDayText-day_text}
use Rattle.poets_command.specs.Plain as plain
use Rattle.poets_command.specs.Plain.{Command}
use Rattle.poets_command.specs.Taken.{IsWholeCommand}
use Rattle.poets_lex.specs.declared.token.Word.TheVariants as W
use Rattle.poets_lex.specs.declared.token.Sign.TheVariants as S
use Rattle.poets_lex.specs.declared.token.Tok.TheVariants as K
use Rattle.poets_lex.specs.Table.{Table, IsTable}
use Rattle.poets_lex.proofs.CutTexts.{IsCutInto, cut_end, cut_space, cut_word, cut_name, cut_number, cut_day}
use Rattle.poets_lex.proofs.CutTexts.{cut_spaced}
use Rattle.poets_print.specs.Texts.{name_text, listed, call_text}
use Rattle.poets_print.specs.Lines.{command_text}
use Rattle.poets_print.specs.Laws.{CanWriteCommand}
use Rattle.poets_printed.proofs.WrittenCommands.{written_command}
use Rattle.poets_printed.proofs.WrittenContractTexts.{cut_call, cut_names, cut_contract}

-- the pieces of a text, one after the other
transmission_shape :
    (t p q x s r n k d rest : List ℕ) →
    (t ++ x ++ p ++ (s ++ p ++ r ++ p ++ (n ++ p ++ k) ++ q ++ d)) ++ rest
    ≡ t ++ (x ++ (p ++ (s ++ (p ++ (r ++ (p ++ (n ++ (p ++ (k ++ (q ++ (d ++ rest)))))))))))
transmission_shape t p q x s r n k d rest = simp append_assoc

portfolio_shape :
    (a b rest : List ℕ) →
    (codes "portfolio " ++ a ++ codes " over " ++ b) ++ rest
    ≡ codes "portfolio " ++ (a ++ (codes " over " ++ (b ++ rest)))
portfolio_shape a b rest = simp append_assoc

module _ (table : Table) (all : IsTable table) where
  cut_transmission :
      (x s r k : Name) (z d : ℤ) →
      let event : Event = record { sender = s; receiver = r; what = record { kind = k; amount = z }; day = d } in
      let command = plain.Transmit x event in
      IsWholeCommand command → CanWriteCommand table command →
      IsCutInto table (command_text table command ++ []) (written_command command)
  cut_transmission x s r k (pos n) d whole can =
      let is = IsDayText-day_text d (grind (arith, ints), grind (arith, ints)) in
      let on : IsCutInto table (64 ∷ (day_text d ++ [])) (K.Day d ∷ []) = cut_day (day_text d) d is cut_end in
      let amount = cut_number n (grind (arith, ints)) (cut_space (cut_name k all can.4 (cut_space on) refl)) refl in
      let event = cut_name s all can.1 (cut_space (cut_name r all can.2 (cut_space amount) refl)) refl in
      rw (transmission_shape (codes "transmit ") (codes " ") (codes " @") (name_text table x) (name_text table s)
      (name_text table r) (decimal n) (name_text table k) (day_text d) [])
      (cut_word W.Transmit (cut_space (cut_name x all can.0 (cut_space event) refl)) refl)
  cut_transmission x s r k (negsuc n) d whole can = absurd (omega (arith, ints))

  pub cut_command :
      (command : Command) → IsWholeCommand command → CanWriteCommand table command →
      IsCutInto table (command_text table command ++ []) (written_command command)
  cut_command (plain.Register x c) whole can =
      let p = cut_contract table all c whole can.1 [] [] cut_end tt in
      let equal = cut_space (cut_spaced S.Equal p) in
      simp append_assoc (cut_word W.Register (cut_space (cut_name x all can.0 equal refl)) refl)
  cut_command (plain.Transmit x e) whole can =
      cut_transmission x e.sender e.receiver e.what.kind e.what.amount e.day whole can
  cut_command (plain.Void x k) whole can =
      let place = cut_space (cut_number k can.1 cut_end tt) in
      simp append_assoc (cut_word W.Void (cut_space (cut_name x all can.0 place refl)) refl)
  cut_command (plain.End x) whole can = cut_word W.End (cut_space (cut_name x all can cut_end tt)) refl
  cut_command (plain.Show x) whole can = cut_word W.Show (cut_space (cut_name x all can cut_end tt)) refl
  cut_command (plain.Tally q args) whole can =
      cut_word W.Tally (cut_space (cut_call table all q args can.0 whole can.1 [] [] cut_end tt)) refl
  cut_command (plain.Portfolio q args []) whole can = absurd (can.3 refl)
  cut_command (plain.Portfolio q args (x ∷ xs)) whole can =
      let over = cut_space (cut_word W.Over (cut_space (cut_names table all x xs can.2 [] [] cut_end tt)) refl) in
      let p = cut_call table all q args can.0 whole can.1 _ _ over refl in
      rw (portfolio_shape (call_text table q args) (listed (name_text table) (x ∷ xs)) [])
      (cut_word W.Portfolio (cut_space p) refl)
  cut_command (plain.Watch q args) whole can =
      cut_word W.Watch (cut_space (cut_call table all q args can.0 whole can.1 [] [] cut_end tt)) refl
  cut_command (plain.Read n) whole can = cut_word W.Read (cut_space (cut_number n can cut_end tt)) refl
