-- Tokens that begin a sentence: the grammar with a rest that is free.
use Rattle.std.specs.Prelude.{ℕ, ◌<◌, ◌≤◌, List, ◌++◌, length, take}
use Rattle.poets_command.specs.Said.{Statement}
use Rattle.poets_lex.specs.declared.token.Tok.{Tok}
use Rattle.poets_grammar.specs.Statements.{IsStatement}

-- the tokens are a statement once some others, or none, stand after them
pub record BeginsSentence (ts : List Tok) : Type 0 where
  pub rest : List Tok
  pub says : Statement
  pub is : IsStatement (ts ++ rest) says

-- the greatest number of the tokens, counted from the first, with which some sentence begins
pub record IsBegun (ts : List Tok) (count : ℕ) : Type 0 where
  pub within : count ≤ length ts
  pub begins : BeginsSentence (take count ts)
  pub most : (more : ℕ) → count < more → more ≤ length ts → ¬ (BeginsSentence (take more ts))
