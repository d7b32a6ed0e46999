-- The laws of printed texts, as statements: they read back.
use Rattle.std.specs.Prelude.{◌≢◌, ℕ, ◌^◌, ◌<◌, List, [], ◌∷◌, length, All, pos, ◌≤ℤ◌}
use Rattle.poets_value.specs.declared.value.Name.{Name}
use Rattle.poets_value.specs.declared.value.Value.{Value}
use Rattle.poets_value.specs.declared.value.Value.TheVariants as V
use Rattle.poets_expr.specs.Expression.{Expression, Literal, Undefined, Named, Unary, Make, Binary}
use Rattle.poets_expr.specs.Expression.{If}
use Rattle.poets_syntax.specs.Contract.{Contract, Success, Failure, Transmit, Plus, Par, Seq, App}
use Rattle.poets_syntax.specs.Whole.{IsWholeContract}
use Rattle.poets_command.specs.Taken.{IsWholeCommand}
use Rattle.poets_command.specs.Said.{Command}
use Rattle.poets_command.specs.Plain as plain
use Rattle.poets_lex.specs.declared.token.Token.{Token}
use Rattle.poets_lex.specs.Table.{Table, IsTable}
use Rattle.poets_lex.specs.Lexes.{Lexes}
use Rattle.poets_grammar.specs.Tokens.{toks}
use Rattle.poets_grammar.specs.ContractGrammar.{IsContract}
use Rattle.poets_grammar.specs.Statements.{IsStatement}
use Rattle.poets_print.specs.Texts.{contract_text}
use Rattle.poets_print.specs.Lines.{command_text}

-- the table has a text for the name
abbrev pub IsListed : Table → Name → Type 0
IsListed names x = x.id < length names

-- a literal can be written for the value; an agent or a kind has no literal, because its name
-- stands for it
abbrev pub HasLiteral : Table → Value → Type 0
HasLiteral names (V.Agent x) = ⊥
HasLiteral names (V.Kind x) = ⊥
HasLiteral names (V.Resource r) = IsListed names r.kind
HasLiteral names _ = Unit {0}

-- the expression can be written with the names of the table
abbrev pub CanWrite : Table → Expression → Type 0
CanWrite names (Literal v) = HasLiteral names v
CanWrite names (Undefined t) = Unit {0}
CanWrite names (Named x) = IsListed names x
CanWrite names (Unary o a) = CanWrite names a
CanWrite names (Make a b) = CanWrite names a × CanWrite names b
CanWrite names (Binary o a b) = CanWrite names a × CanWrite names b
CanWrite names (If a b c) = CanWrite names a × CanWrite names b × CanWrite names c

-- the contract can be written with the names of the table
abbrev pub CanWriteContract : Table → Contract → Type 0
CanWriteContract names Success = Unit {0}
CanWriteContract names Failure = Unit {0}
CanWriteContract names (Transmit b p c) =
    All (IsListed names) (b.sender ∷ b.receiver ∷ b.what ∷ b.day ∷ []) × CanWrite names p × CanWriteContract names c
CanWriteContract names (Plus a b) = CanWriteContract names a × CanWriteContract names b
CanWriteContract names (Par a b) = CanWriteContract names a × CanWriteContract names b
CanWriteContract names (Seq a b) = CanWriteContract names a × CanWriteContract names b
CanWriteContract names (App f args) = IsListed names f × All (CanWrite names) args

-- the place of an event, or the number of a watch or a clerk, can be written: it is one of the
-- language
abbrev pub CanWriteNumber : ℕ → Type 0
CanWriteNumber n = n < 2 ^ 63

-- the place or the number in the command, if it has one, can be written
abbrev pub CanWriteNumberOf : plain.Command → Type 0
CanWriteNumberOf (plain.Command.Void x k) = CanWriteNumber k
CanWriteNumberOf (plain.Command.Read n) = CanWriteNumber n
CanWriteNumberOf _ = Unit {0}

-- the command can be written with the names of the table: the amount of a transmission is not
-- negative, a place or a number is one of the language, and a portfolio is over one name or more
abbrev pub CanWriteCommand : Table → plain.Command → Type 0
CanWriteCommand names (plain.Command.Register x c) = IsListed names x × CanWriteContract names c
CanWriteCommand names (plain.Command.Transmit x e) =
    IsListed names x × IsListed names e.sender × IsListed names e.receiver × (pos 0 ≤ℤ e.what.amount)
    × IsListed names e.what.kind
CanWriteCommand names (plain.Command.Void x k) = IsListed names x × CanWriteNumber k
CanWriteCommand names (plain.Command.End x) = IsListed names x
CanWriteCommand names (plain.Command.Show x) = IsListed names x
CanWriteCommand names (plain.Command.Tally q args) = IsListed names q × All (CanWrite names) args
CanWriteCommand names (plain.Command.Portfolio q args over) =
    IsListed names q × All (CanWrite names) args × All (IsListed names) over × (over ≢ [])
CanWriteCommand names (plain.Command.Watch q args) = IsListed names q × All (CanWrite names) args
CanWriteCommand names (plain.Command.Read n) = CanWriteNumber n

-- the text of a contract is cut into tokens, without a new name, and the tokens are the contract
abbrev pub ContractReadsBack : Type 0
ContractReadsBack =
    (names : Table) (c : Contract) → IsTable names → IsWholeContract c → CanWriteContract names c
    → (tokens : List Token) × Lexes names (contract_text names c) 0 tokens names × IsContract (toks tokens) c

-- the text of a command is cut into tokens, without a new name, and the tokens are the statement of
-- that command
abbrev pub CommandReadsBack : Type 0
CommandReadsBack =
    (names : Table) (command : plain.Command) → IsTable names → IsWholeCommand command → CanWriteCommand names command
    → (tokens : List Token) × Lexes names (command_text names command) 0 tokens names
    × IsStatement (toks tokens) (Command command)
