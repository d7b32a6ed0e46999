-- A printed command with its clerk's number reads back, is never too deep for the stored form, and is short.
use Rattle.std.proofs.Common.{◌≡◌, ℕ, ◌^◌, ◌<◌, ◌≤◌, List, ◌∷◌, length, refl, ap, ◌∙◌, subst, arith, append_assoc, pos}
use Rattle.std.specs.Prelude.{codes}
use Rattle.std.specs.Fmt.{decimal}
use Rattle.std.proofs.lemmas.Fmt.{length-decimal-le}
use Rattle.std.proofs.lemmas.List.{append-nil}
use Rattle.poets_command.specs.Plain.{Command}
use Rattle.poets_command.specs.Said as said
use Rattle.poets_command.specs.Taken.{IsWholeCommand}
use Rattle.poets_lex.specs.declared.token.Sign.TheVariants as S
use Rattle.poets_lex.specs.declared.token.Tok.{Tok}
use Rattle.poets_lex.specs.declared.token.Tok.TheVariants as K
use Rattle.poets_lex.specs.Table.{Table, IsTable}
use Rattle.poets_lex.proofs.CutTexts.{IsCutInto, cut_space, cut_number, cut_sign}
use Rattle.poets_lex.proofs.OneWay.{one-reading}
use Rattle.poets_grammar.specs.Tokens.{toks}
use Rattle.poets_grammar.specs.TooDeep.{most_open_stored}
use Rattle.poets_grammar.specs.Statements.{IsCommand, IsStatement}
use Rattle.poets_print.specs.Lines.{command_text}
use Rattle.poets_print.specs.Laws.{CanWriteCommand}
use Rattle.poets_print.proofs.WritingCommands.{command_reads_back}
use Rattle.poets_printed.specs.Numbered.{numbered_text, NumberedReadsBack, NumberedAreShort}
use Rattle.poets_printed.proofs.Measures.{Fits}
use Rattle.poets_printed.proofs.ShortCommands.{short_command}
use Rattle.poets_printed.proofs.ShortPieces.{length_three}
use Rattle.poets_printed.proofs.WrittenCommands.{written_command}
use Rattle.poets_printed.proofs.WrittenCommandTexts.{cut_command}
use Rattle.poets_printed.proofs.Stored.{printed_fits, printed_short, not_deeper}

-- the tokens of the printed command with its clerk's number
abbrev pub written_numbered : ℕ → Command → List Tok
written_numbered clerk command = K.Number (pos clerk) ∷ K.Sign S.Colon ∷ written_command command

-- a statement without a number is its command
command_said : {ts : List Tok} {command : Command} → IsStatement ts (said.Command command) → IsCommand ts command
command_said (IsStatement.Command r) = r

module _ (table : Table) (all : IsTable table) where
  -- the text of the command, and its written tokens
  cut_whole :
      (command : Command) → IsWholeCommand command → CanWriteCommand table command →
      IsCutInto table (command_text table command) (written_command command)
  cut_whole command whole can = rw append-nil at (cut_command table all command whole can)

  -- the written tokens are the command, since its text has one list of tokens
  written_reads :
      (command : Command) → IsWholeCommand command → CanWriteCommand table command →
      IsCommand (written_command command) command
  written_reads command whole can =
      let cut = (cut_whole command whole can).at 0 in
      let back = command_reads_back table command all whole can in
      let one = one-reading table (command_text table command) 0 back.0 cut.0 table table back.1 cut.1 in
      let same : toks back.0 ≡ written_command command = ap toks one.0 ∙ cut.2 in
      command_said (subst (λ (ts : List Tok). IsStatement ts (said.Command command)) same back.2)

  cut_numbered :
      (clerk : ℕ) (command : Command) → clerk < 2 ^ 63 → IsWholeCommand command → CanWriteCommand table command →
      IsCutInto table (numbered_text table clerk command) (written_numbered clerk command)
  cut_numbered clerk command low whole can =
      let behind = cut_sign S.Colon refl (cut_space (cut_whole command whole can)) in
      rw (append_assoc (decimal clerk) (codes ": ") (command_text table command)) (cut_number clerk low behind refl)

-- the number and the `:` open nothing
fits_numbered :
    (clerk : ℕ) (command : Command) (most : ℕ) → Fits most 0 (written_command command) →
    Fits most 0 (written_numbered clerk command)
fits_numbered clerk command most h = (omega arith, (omega arith, h))

pub numbered_reads_back : NumberedReadsBack
numbered_reads_back names clerk command read all low whole can r fine =
    let cut = (cut_numbered names all clerk command low whole can).at 0 in
    let says = IsStatement.Numbered (written_reads names all command whole can) in
    let fits = fits_numbered clerk command most_open_stored (printed_fits read command r fine) in
    let few = printed_short read command r fine in
    (cut.0, cut.1, rw cut.2 says, rw cut.2 (not_deeper (written_numbered clerk command) fits few))

-- a number below 2 ^ 32 has at most ten digits
length_clerk : (n : ℕ) → n < 2 ^ 32 → length (decimal n) ≤ 10
length_clerk n h = length-decimal-le 10 n (omega arith) (omega arith) (omega arith)

pub numbered_are_short : NumberedAreShort
numbered_are_short names clerk read command all low whole small r =
    omega (
      arith,
      length_clerk clerk low,
      length_three (decimal clerk) (codes ": ") (command_text names command),
      short_command names all r whole small,
    )
