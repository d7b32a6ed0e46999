-- The laws of the grammar, as statements.
use Rattle.std.specs.Prelude.{◌≡◌, ◌↔◌, ℕ, ◌-◌, ◌≤◌, List, length, Ok, Err}
use Rattle.poets_expr.specs.Expression.{Expression}
use Rattle.poets_syntax.specs.Contract.{Contract}
use Rattle.poets_command.specs.Said.{Statement}
use Rattle.poets_lex.specs.declared.token.Tok.{Tok}
use Rattle.poets_grammar.specs.Expressions.{IsExpression}
use Rattle.poets_grammar.specs.ContractGrammar.{IsContract}
use Rattle.poets_grammar.specs.Statements.{IsStatement}
use Rattle.poets_grammar.specs.Begins.{IsBegun}
use Rattle.poets_grammar.specs.Reading.{whole_expression}
use Rattle.poets_grammar.specs.ContractReading.{whole_contract}
use Rattle.poets_grammar.specs.StatementReading.{statement}

-- tokens are one expression at most
abbrev pub OneExpression : Type 0
OneExpression = (ts : List Tok) (a b : Expression) → IsExpression ts a → IsExpression ts b → a ≡ b

-- tokens are one contract at most
abbrev pub OneContract : Type 0
OneContract = (ts : List Tok) (a b : Contract) → IsContract ts a → IsContract ts b → a ≡ b

-- tokens say one thing at most as a statement
abbrev pub OneStatement : Type 0
OneStatement = (ts : List Tok) (a b : Statement) → IsStatement ts a → IsStatement ts b → a ≡ b

-- the expression that is read is the one that the tokens are
abbrev pub ExpressionRead : Type 0
ExpressionRead = (ts : List Tok) (e : Expression) → IsExpression ts e ↔ whole_expression ts ≡ Ok e

-- the contract that is read is the one that the tokens are
abbrev pub ContractRead : Type 0
ContractRead = (ts : List Tok) (c : Contract) → IsContract ts c ↔ whole_contract ts ≡ Ok c

-- the statement that is read is the one that the tokens are
abbrev pub StatementRead : Type 0
StatementRead = (ts : List Tok) (s : Statement) → IsStatement ts s ↔ statement ts ≡ Ok s

-- where nothing is read, so many tokens are left: some sentence begins with those before them, and
-- none with more
abbrev pub StatementBegun : Type 0
StatementBegun =
    (ts : List Tok) (left : ℕ) → statement ts ≡ Err left → (left ≤ length ts) × IsBegun ts (length ts - left)
