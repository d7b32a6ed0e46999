-- Tokens that are a statement and not too deep.
use Rattle.std.specs.Prelude.{◌≡◌, ℕ, List}
use Rattle.poets_lex.specs.declared.token.Tok.{Tok}
use Rattle.poets_command.specs.Said.{Statement}
use Rattle.poets_grammar.specs.Statements.{IsStatement}
use Rattle.poets_grammar.specs.Begins.{IsBegun}
use Rattle.poets_grammar.specs.TooDeep.{IsDeeper, IsTooDeep, most_open, most_open_stored}

-- the tokens are no statement, and not because more than `most` brackets are open
abbrev pub AreNoSentenceFor : ℕ → List Tok → Type 0
AreNoSentenceFor most tokens = ¬ (IsDeeper most tokens) × ((s : Statement) → ¬ (IsStatement tokens s))

-- the tokens are no statement, and not because they are too deep
abbrev pub AreNoSentence : List Tok → Type 0
AreNoSentence tokens = AreNoSentenceFor most_open tokens

-- the tokens are no statement, and not because they are too deep for a stored one
abbrev pub AreNoSentenceStored : List Tok → Type 0
AreNoSentenceStored tokens = AreNoSentenceFor most_open_stored tokens

-- the fact holds where the tokens are a statement that is not too deep
abbrev pub IfSentence : List Tok → Type 0 → Type 0
IfSentence tokens fact = ¬ (IsTooDeep tokens) → (s : Statement) → IsStatement tokens s → fact

-- the greatest number of the tokens with which some sentence begins; 0 if the tokens are too deep,
-- whatever they begin
abbrev pub AreBegun : List Tok → ℕ → Type 0
AreBegun tokens count = (¬ (IsTooDeep tokens) → IsBegun tokens count) × (IsTooDeep tokens → count ≡ 0)
