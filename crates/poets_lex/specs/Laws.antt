-- Laws of tokens.
use Rattle.std.specs.Prelude.{◌≡◌, ℕ, ◌<◌, ◌≤◌, List, [], ◌∷◌, length, slice_range}
use Rattle.poets_lex.specs.declared.token.Token.{Token}
use Rattle.poets_lex.specs.declared.fault.LexFault.{LexFault}
use Rattle.poets_lex.specs.Table.{Table}
use Rattle.poets_lex.specs.Lexes.{IsTextOf, Lexes, FirstFault}

-- a text has one list of tokens, and leaves one table
abbrev pub OneReading : Type 0
OneReading =
    (before : Table) (text : List ℕ) (place : ℕ) (tokens others : List Token) (after end : Table)
    → Lexes before text place tokens after → Lexes before text place others end
    → (tokens ≡ others) × (after ≡ end)

-- a text with a fault has no tokens
abbrev pub NoReadingAtFault : Type 0
NoReadingAtFault =
    (before : Table) (text : List ℕ) (fault : LexFault) (tokens : List Token) (after : Table)
    → FirstFault before text fault → ¬ (Lexes before text 0 tokens after)

-- a text has one first fault at most
abbrev pub OneFault : Type 0
OneFault =
    (before : Table) (text : List ℕ) (a b : LexFault)
    → FirstFault before text a → FirstFault before text b → a ≡ b

-- a text that has no tokens cannot be without a fault
abbrev pub EveryTextIsCut : Type 0
EveryTextIsCut =
    (before : Table) (text : List ℕ)
    → ((tokens : List Token) (after : Table) → ¬ (Lexes before text 0 tokens after))
    → ¬ ((fault : LexFault) → ¬ (FirstFault before text fault))

-- the tokens follow one another in the text, from the place on, each at the place of its bytes
abbrev pub Stand : Table → List ℕ → ℕ → List Token → Type 0
Stand table text place [] = Unit {0}
Stand table text place (token ∷ tokens) =
    (place ≤ token.from) × (token.from < token.to) × (token.to ≤ length text)
    × IsTextOf table token.what (slice_range text token.from token.to)
    × Stand table text token.to tokens

-- the tokens of a text follow one another in it, each at the place of its bytes
abbrev pub TokensStand : Type 0
TokensStand =
    (before : Table) (text : List ℕ) (tokens : List Token) (after : Table)
    → Lexes before text 0 tokens after → Stand after text 0 tokens
