-- What an engine gives of a contract.
use Rattle.std.specs.Prelude.{◌≡◌, ℕ, List, All, Option, Some, None, IfSome}
use Rattle.poets_value.specs.declared.value.Name.{Name}
use Rattle.poets_syntax.specs.Applied.{CountsFit}
use Rattle.poets_syntax.specs.Book.{book_of}
use Rattle.poets_syntax.specs.Contract.{Contract, contract_of}
use Rattle.poets_syntax.specs.WellFormed.{IsWellFormed, IsDeclaredEvent}
use Rattle.poets_meaning.specs.Studied.{StudiedBook, marks_of}
use Rattle.poets_calculus.specs.Residual.{residual_after}
use Rattle.poets_command.specs.Calls.{calls_of}
use Rattle.poets_command.specs.Plain.{Entry}
use Rattle.poets_rules.specs.Rules.{book_of_rules, reports_of_rules}
use Rattle.poets_history.specs.Histories.{IsLegal}
use Rattle.poets_history.specs.Ledger.{Ledger, ledger_of, contract_named, trace, is_ended}
use Rattle.poets_engine.specs.State.{State, plain_calls}
use Rattle.poets_engine.specs.declared.accounts.Account.{Account}

-- the account is that of the contract with this number and original: its residual, its trace, and
-- whether it ended
pub record IsAccountOf (s : StudiedBook) (l : Ledger) (n : ℕ) (o : Contract) (a : Account) : Type 0 where
  pub original : contract_of a.original ≡ o
  pub residual : contract_of a.residual ≡ residual_after (book_of s.book) (marks_of s) o (trace l n)
  pub events : a.events.items ≡ trace l n
  pub ended : a.ended ≡ is_ended l n

-- by the ledger the account is that of the contract with the name; there is none exactly where no
-- contract has the name
abbrev pub Accounts : StudiedBook → Ledger → Name → Option Account → Type 0
Accounts s l x None = contract_named l x ≡ None
Accounts s l x (Some a) =
    (c : ℕ × Contract) × (contract_named l x ≡ Some c) × IsAccountOf s l c.0 c.1 a

-- the account is right by the ledger of each legal history of the engine's calls
abbrev pub AccountsAfterCalls : State → Name → Option Account → Type 0
AccountsAfterCalls e x found = (h : List Entry) →
    IsLegal (book_of_rules e.rules) (reports_of_rules e.rules) h → calls_of h ≡ plain_calls e.calls →
    Accounts e.rules.studied (ledger_of h) x found

-- the original is well-formed; each application in it and in the residual has as many arguments as
-- its template has parameters; and the events are declared
pub record IsFormedAccount (s : StudiedBook) (a : Account) : Type 0 where
  pub formed : IsWellFormed (book_of s.book).declared (contract_of a.original)
  pub original : CountsFit (book_of s.book) (contract_of a.original)
  pub residual : CountsFit (book_of s.book) (contract_of a.residual)
  pub events : All (IsDeclaredEvent (book_of s.book).declared) a.events.items

-- where there is an account, it is formed
abbrev pub HasFormedAccount : State → Option Account → Type 0
HasFormedAccount e found = IfSome found (IsFormedAccount e.rules.studied)
