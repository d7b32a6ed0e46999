-- The texts of a document that have names, and what they say.
use Rattle.std.specs.Prelude.{◌≡◌, ℕ, List, [], ◌∷◌, ◌++◌, map}
use Rattle.poets_value.specs.declared.value.Name.{Name}
use Rattle.poets_syntax.specs.Contract.{Contract}
use Rattle.poets_command.specs.Plain as plain
use Rattle.poets_command.specs.Said.{Statement, Command}
use Rattle.poets_lex.specs.declared.token.Word.TheVariants as W
use Rattle.poets_lex.specs.declared.token.Sign.TheVariants as S
use Rattle.poets_lex.specs.declared.token.Tok.{Tok}
use Rattle.poets_lex.specs.declared.token.Tok.TheVariants as K
use Rattle.poets_lex.specs.declared.token.Token.{Token}
use Rattle.poets_lex.specs.Table.{Table}
use Rattle.poets_lex.specs.Lexes.{Lexes}
use Rattle.poets_grammar.specs.Tokens.{toks}
use Rattle.poets_grammar.specs.Statements.{IsStatement}
use Rattle.poets_grammar.specs.TooDeep.{IsTooDeepStored}
use Rattle.poets_print.specs.Texts.{name_text, contract_text}
use Rattle.poets_books.specs.Statements.{statement_text}

-- ---- what a text says

-- a statement, a contract that is still owed, or a name
pub data Phrase : Type 0 where
  Sentence : Statement → Phrase
  Owed : Contract → Phrase
  Called : Name → Phrase

abbrev pub phrase_text : Table → Phrase → List ℕ
phrase_text names (Sentence s) = statement_text names s
phrase_text names (Owed c) = contract_text names c
phrase_text names (Called x) = name_text names x

-- the name before what is owed: any would do
abbrev pub some_name : Name
some_name = record { id = 0 }

-- `register x =`
abbrev pub registration : List Tok
registration = K.Word W.Register ∷ K.Name some_name ∷ K.Sign S.Equal ∷ []

-- the tokens are this statement, and not too deep for one that was printed
pub record AreSentence (tokens : List Tok) (s : Statement) : Type 0 where
  pub said : IsStatement tokens s
  pub shallow : ¬ (IsTooDeepStored tokens)

-- the tokens say this; what is owed is what could be registered
abbrev pub Say : List Tok → Phrase → Type 0
Say tokens (Sentence s) = AreSentence tokens s
Say tokens (Owed c) = AreSentence (registration ++ tokens) (Command (plain.Register some_name c))
Say tokens (Called x) = tokens ≡ K.Name x ∷ []

-- the text is cut into tokens that say this; its new names lead from the table before to the table
-- after
pub record Says (before : Table) (text : List ℕ) (phrase : Phrase) (after : Table) : Type 0 where
  pub tokens : List Token
  pub cut : Lexes before text 0 tokens after
  pub say : Say (toks tokens) phrase

-- ---- the texts of a document

-- the texts are these statements, one after the other, each with the table that the one before it
-- left
pub data AreStatements : Table → List (List ℕ) → List Statement → Table → Type 0 where
  NoTexts : {names : Table} → AreStatements names [] [] names
  Text :
      {before between after : Table} {text : List ℕ} {texts : List (List ℕ)} {s : Statement} {ss : List Statement} →
      Says before text (Sentence s) between → AreStatements between texts ss after →
      AreStatements before (text ∷ texts) (s ∷ ss) after

-- the parts of a reply that have names, apart from values
abbrev pub reply_phrases : plain.Reply → List Phrase
reply_phrases (plain.NoContract x) = Called x ∷ []
reply_phrases (plain.Shown c n may_end ended) = Owed c ∷ []
reply_phrases (plain.Folio rows total) = map (λ part. Called part.0) rows
reply_phrases _ = []

-- the command, and then the reply
abbrev pub entry_phrases : plain.Entry → List Phrase
entry_phrases e = Sentence (Command e.command) ∷ reply_phrases e.reply

-- the texts of these, which are those of a table `names`, say them one after the other, as above
pub data AreSaid (names : Table) : Table → List Phrase → Table → Type 0 where
  Nothing : {table : Table} → AreSaid names table [] table
  Next :
      {before between after : Table} {phrase : Phrase} {phrases : List Phrase} →
      Says before (phrase_text names phrase) phrase between → AreSaid names between phrases after →
      AreSaid names before (phrase ∷ phrases) after
