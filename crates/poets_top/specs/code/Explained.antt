-- What explains a contract by its account.
use Rattle.std.specs.Prelude.{◌≡◌, ℕ, Bool, IsTrue, ◌↔◌, List, [], ◌++◌, length, String}
use Rattle.std.specs.Prelude.{string_bytes}
use Rattle.std.specs.declared.alloc.Global.{Global}
use Rattle.poets_syntax.specs.Book.{book_of}
use Rattle.poets_syntax.specs.Contract.{contract_of}
use Rattle.poets_meaning.specs.Perf.{Perf}
use Rattle.poets_meaning.specs.Studied.{StudiedBook, IsStudiedBook}
use Rattle.poets_open.specs.Next.{next_in}
use Rattle.poets_lex.specs.Table.{Table}
use Rattle.poets_command.specs.Plain.{Entry}
use Rattle.poets_rules.specs.Rules.{book_of_rules, reports_of_rules}
use Rattle.poets_history.specs.Frame.{frame_of}
use Rattle.poets_history.specs.Ledger.{ledger_of}
use Rattle.poets_engine.specs.State.{State}
use Rattle.poets_engine.specs.declared.accounts.Account.{Account}
use Rattle.poets_top.specs.Explaining.{Explains, TellsWay, contract_line, next_lines}
use Rattle.poets_making.specs.Noted.{AreNoted}

-- the text tells how many events there are, whether the empty trace performs the residual, what the
-- residual takes next, and a way; and the book was studied
pub record ExplainsAccount (s : StudiedBook) (names : Table) (name : List ℕ) (a : Account)
    (text : String Global) : Type 0 where
  pub studied : IsStudiedBook (book_of s.book) s.marks
  pub may_end : Bool
  pub tells : IsTrue may_end ↔ Perf (book_of s.book) [] (contract_of a.residual) []
  pub way : List ℕ
  pub tells_way : TellsWay (book_of s.book) (contract_of a.original) a.events.items way
  pub is :
      string_bytes text
      ≡ contract_line name (length a.events.items) may_end
      ++ next_lines names (next_in s (contract_of a.residual))
      ++ way

-- after a history with the engine's calls the text explains the contract with the name
abbrev pub ExplainsAfter : State → Table → (name : List ℕ) → String Global → Type 0
ExplainsAfter e names name text =
    (h : List Entry) → AreNoted e h →
    Explains (frame_of (book_of_rules e.rules) (reports_of_rules e.rules)) names (ledger_of h) name (string_bytes text)
