-- The text of a call that was read under one table of names is a call under another.
use Rattle.std.proofs.Common.{◌≡◌, ℕ, ◌^◌, ◌<◌, ◌≤◌, List, [], ◌∷◌, ◌++◌, All, true, get_or, refl, sym, ap, ap₂, subst, ◌∙◌, append_assoc, arith}
use Rattle.std.specs.Prelude.{codes}
use Rattle.std.specs.Fmt.{decimal}
use Rattle.std.proofs.lemmas.List.{append-nil}
use Rattle.std.proofs.lemmas.List.Elements.{All-head, All-tail}
use Rattle.std.proofs.lemmas.Option.{slice_get-get_or}
use Rattle.poets_value.specs.Limits.{most_clerks}
use Rattle.poets_value.specs.declared.value.Name.{Name}
use Rattle.poets_lex.specs.declared.token.Sign.TheVariants as S
use Rattle.poets_lex.specs.declared.token.Tok.{Tok}
use Rattle.poets_lex.specs.declared.token.Token.{Token}
use Rattle.poets_lex.specs.Lexes.{Lexes}
use Rattle.poets_lex.specs.Table.{Table, IsTable, Extends}
use Rattle.poets_lex.proofs.CutTexts.{IsCutInto, cut_space, cut_number, cut_sign}
use Rattle.poets_lex.proofs.OneWay.{one-reading}
use Rattle.poets_lex.proofs.Readings.{Extends-reading, Extends-then}
use Rattle.poets_lex.proofs.Standing.{standing}
use Rattle.poets_grammar.specs.Tokens.{toks}
use Rattle.poets_grammar.specs.TooDeep.{most_open_stored}
use Rattle.poets_grammar.specs.Statements.{IsCommand, IsStatement}
use Rattle.poets_syntax.specs.Plain.{Book}
use Rattle.poets_syntax.specs.Typed.{in_use}
use Rattle.poets_report.specs.Plain.{Report}
use Rattle.poets_command.specs.Calls.{Call}
use Rattle.poets_command.specs.Plain.{Command}
use Rattle.poets_command.specs.Said as said
use Rattle.poets_command.specs.Taken.{IsWholeCommand}
use Rattle.poets_command.specs.TypedStatements.{report_names}
use Rattle.poets_print.specs.Lines.{command_text}
use Rattle.poets_print.specs.Laws.{CanWriteCommand}
use Rattle.poets_print.proofs.WritingCommands.{command_reads_back}
use Rattle.poets_printed.specs.Numbered.{numbered_text}
use Rattle.poets_printed.proofs.Numbered.{written_numbered, numbered_reads_back}
use Rattle.poets_printed.proofs.WrittenCommands.{written_command}
use Rattle.poets_printed.proofs.WrittenCommandTexts.{cut_command}
use Rattle.poets_session.proofs.LawsFitting.{stand_fit, statement_fits}
use Rattle.poets_recover.specs.Stored.{IsStoredCall, AreCalls, AreStoredCalls}
use Rattle.poets_reread.specs.Reread.{texts_of_calls, IsReadCall, AreListedNames}
use Rattle.poets_reread.specs.Laws.{TextsAreReread}
use Rattle.poets_reread.proofs.Moved.{with_all, extends_same, extends_all, is_table_all, place_all, get_wide, text_wide, moved, moved_same, moved_listed, moved_text, moved_fixed}
use Rattle.poets_reread.proofs.Relexed.{relexed, deeper_kept, widened, reads_table}
use Rattle.poets_reread.proofs.Renamed.{renamed_command}
use Rattle.poets_reread.proofs.RenamedTexts.{command_whole, command_written, command_kept, command_again}
use Rattle.poets_reread.proofs.RenamedTypes as types

-- ---- what a printed call says

command_said : {ts : List Tok} {command : Command} → IsStatement ts (said.Command command) → IsCommand ts command
command_said (IsStatement.Command r) = r

module _ (table : Table) (all : IsTable table) where
  -- the text of a command with a clerk's number is cut into tokens, without a new name, and they are that statement
  numbered_said :
      (clerk : ℕ) (command : Command) → clerk < 2 ^ 63 → IsWholeCommand command → CanWriteCommand table command →
      (tokens : List Token) × Lexes table (numbered_text table clerk command) 0 tokens table
      × IsStatement (toks tokens) (said.Numbered clerk command)
  numbered_said clerk command low whole can =
      let behind : IsCutInto table (command_text table command) (written_command command) =
      rw append-nil at (cut_command table all command whole can) in
      let alone = behind.at 0 in
      let back = command_reads_back table command all whole can in
      let one = one-reading table (command_text table command) 0 back.0 alone.0 table table back.1 alone.1 in
      let same : toks back.0 ≡ written_command command = ap toks one.0 ∙ alone.2 in
      let reads = command_said (subst (λ (ts : List Tok). IsStatement ts (said.Command command)) same back.2) in
      let cut : IsCutInto table (numbered_text table clerk command) (written_numbered clerk command) =
      rw (append_assoc (decimal clerk) (codes ": ") (command_text table command))
      (cut_number clerk low (cut_sign S.Colon refl (cut_space behind)) refl) in
      let at = cut.at 0 in
      (at.0, at.1, rw at.2 (IsStatement.Numbered reads))

-- ---- one call

clerk_low : (clerk : ℕ) → clerk ≤ most_clerks → clerk < 2 ^ 63
clerk_low clerk few =
    let most : most_clerks ≡ 64 = refl in
    omega arith

-- how the text of a call is read from another table: as a call that has that text in each longer table
record IsReread (book : Book) (reports : List Report) (before : Table) (text : List ℕ) (clerk : ℕ) : Type 0 where
  command : Command
  after : Table
  stored : IsStoredCall book reports before text clerk command after
  table : IsTable after
  more : Extends before after
  again : (wide : Table) → Extends after wide → numbered_text wide clerk command ≡ text

module _
    (book : Book) (reports : List Report) (own names : Table) (all : IsTable names) (front : Extends own names)
    (declares : AreListedNames book reports own) where
  reread_one :
      (before : Table) → IsTable before → Extends own before → (call : Call) → IsReadCall book reports names call →
      IsReread book reports before (numbered_text names call.0 call.1) call.0
  reread_one before good outer call h =
      let text : List ℕ = numbered_text names call.0 call.1 in
      let low = clerk_low call.0 h.to in
      let old = numbered_reads_back names call.0 call.1 h.tokens all low h.taken.whole h.written h.read h.shallow in
      let r = relexed old.1 before in
      let after : Table = r.after in
      let more : Extends before after = Extends-reading r.reads in
      let table : IsTable after = reads_table r.reads good in
      let wide : Table = with_all names after in
      let longer : Extends after wide = extends_all names after in
      let full : IsTable wide = is_table_all names after all table in
      let there = place_all names after in
      let new : Name → Name = moved names wide in
      let command : Command = renamed_command new call.1 in
      let written : CanWriteCommand wide command =
      command_written names wide new (moved_listed names wide all full there) call.1 h.written in
      let same : command_text wide command ≡ command_text names call.1 =
      command_kept names wide new (moved_text names wide all full there) call.1 h.written in
      let numbered : numbered_text wide call.0 command ≡ text = ap (λ (t : List ℕ). decimal call.0 ++ codes ": " ++ t) same in
      let says = numbered_said wide full call.0 command low (command_whole new call.1 h.taken.whole) written in
      let lexed : Lexes wide text 0 says.0 wide = subst (λ (t : List ℕ). Lexes wide t 0 says.0 wide) numbered says.1 in
      let one = one-reading wide text 0 r.now says.0 wide wide (widened r.reads wide longer) lexed in
      let statement : IsStatement (toks r.now) (said.Numbered call.0 command) =
      subst (λ (ts : List Token). IsStatement (toks ts) (said.Numbered call.0 command)) (sym one.0) says.2 in
      let reach : Extends own wide = Extends-then own before wide outer (Extends-then before after wide more longer) in
      let fixed : (x : Name) → in_use book (report_names reports) x ≡ true → new x ≡ x = λ x used.
      let here = slice_get-get_or own x.id [] (declares x used) in
      moved_fixed names wide all full there x (get_or own x.id [])
      (get_wide own names x.id (get_or own x.id []) front here)
      (get_wide own wide x.id (get_or own x.id []) reach here) in
      let keeps = types.keeps book reports new (moved_same names wide all full there) fixed in
      let typed = types.command_kept book reports new keeps call.1 h.taken.typed in
      let fits = stand_fit after text 0 r.now (standing r.reads text [] refl refl) in
      let can : CanWriteCommand after command = (statement_fits after statement fits).0 in
      let kept : command_text wide command ≡ command_text after command =
      command_again after wide (text_wide after wide longer) command can in
      record {
        command = command;
        after = after;
        stored = record {
          tokens = r.now;
          lexed = r.reads;
          shallow = λ deep. old.3 (deeper_kept most_open_stored r.now old.0 r.alike deep);
          said = statement;
          from = h.from;
          to = h.to;
          typed = typed;
        };
        table = table;
        more = more;
        again = λ u further.
            ap (λ (t : List ℕ). decimal call.0 ++ codes ": " ++ t)
            (command_again after u (text_wide after u further) command can ∙ sym kept) ∙ numbered;
      }

  -- ---- calls, one after the other

  record AreRereadFrom (before : Table) (texts : List (List ℕ)) : Type 0 where
    calls : List Call
    after : Table
    stored : AreStoredCalls book reports before texts calls after
    more : Extends before after
    again : (wide : Table) → Extends after wide → texts_of_calls wide calls ≡ texts

  reread_all :
      (before : Table) → IsTable before → Extends own before → (calls : List Call) →
      All (IsReadCall book reports names) calls → AreRereadFrom before (texts_of_calls names calls)
  reread_all before good outer [] h =
      record { calls = []; after = before; stored = AreCalls.NoTexts; more = extends_same before; again = λ u e. refl }
  reread_all before good outer (call ∷ calls) h =
      let Is = IsReadCall book reports names in
      let first = reread_one before good outer call (All-head Is call calls h) in
      let far = Extends-then own before first.after outer first.more in
      let rest = reread_all first.after first.table far calls (All-tail Is call calls h) in
      record {
        calls = (call.0, first.command) ∷ rest.calls;
        after = rest.after;
        stored = AreCalls.Text first.stored rest.stored;
        more = Extends-then before first.after rest.after first.more rest.more;
        again = λ u e.
            ap₂ (λ (t : List ℕ) (ts : List (List ℕ)). t ∷ ts)
            (first.again u (Extends-then first.after rest.after u rest.more e)) (rest.again u e);
      }

pub texts_are_reread : TextsAreReread
texts_are_reread book reports own names before calls all good front outer declares h =
    let read = reread_all book reports own names all front declares before good outer calls h in
    record {
      calls = read.calls;
      after = read.after;
      stored = read.stored;
      again = read.again read.after (extends_same read.after);
    }
