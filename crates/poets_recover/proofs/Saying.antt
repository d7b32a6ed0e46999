-- What one text says.
use Rattle.std.proofs.Common.{◌≡◌, ℕ, ◌≤◌, List, [], Result, Err, refl, subst, arith}
use Rattle.poets_value.specs.Limits.{most_clerks}
use Rattle.poets_lex.specs.declared.fault.LexFault.{LexFault}
use Rattle.poets_lex.specs.declared.token.Tok.{Tok}
use Rattle.poets_lex.specs.declared.token.Token.{Token}
use Rattle.poets_lex.specs.declared.fault.LexFault.TheVariants as L
use Rattle.poets_lex.specs.Lexes.{Lexes, FirstFault, UnlessMemory}
use Rattle.poets_lex.specs.Table.{Table}
use Rattle.poets_lex.proofs.OneWay.{one-reading, no-reading-at-fault}
use Rattle.poets_lex.proofs.Standing.{standing}
use Rattle.poets_grammar.specs.StatementReading.{statement}
use Rattle.poets_grammar.specs.Statements.{IsStatement}
use Rattle.poets_grammar.specs.Tokens.{toks}
use Rattle.poets_grammar.specs.TooDeep.{IsTooDeepStored}
use Rattle.poets_grammar.proofs.Statements.{statement_complete}
use Rattle.poets_grammar.proofs.Steps.{one_answer}
use Rattle.poets_parse.specs.declared.fault.SyntaxFault.{SyntaxFault}
use Rattle.poets_parse.specs.declared.fault.SyntaxFault.TheVariants as S
use Rattle.poets_parse.specs.declared.fault.Unread.TheVariants as U
use Rattle.poets_parse.specs.Sentences.{AreNoSentenceStored}
use Rattle.poets_parse.specs.Faults.{unread_of_lex, unread_of_syntax}
use Rattle.poets_command.specs.declared.call.Command.{Command as CodeCommand}
use Rattle.poets_command.specs.declared.statement.Statement as code
use Rattle.poets_command.specs.declared.statement.Statement.TheVariants as V
use Rattle.poets_command.specs.Statements.{statement_of}
use Rattle.poets_command.specs.Plain.{Command}
use Rattle.poets_command.specs.Said.{Statement, Numbered}
use Rattle.poets_command.specs.Taken.{IsWholeCommand}
use Rattle.poets_session.proofs.LawsFitting.{stand_fit, statement_fits}
use Rattle.poets_recover.specs.code.Reading.{IsUnnumbered, SayCall, AreTokensOfNone, SaysCall, SaysNone}

-- the fault that a `?` hands on
pub handed_on : {A E : Type 0} {r : Result A E} {x y z : E} → r ≡ Err x → x ≡ y → r ≡ Err z → y ≡ z
handed_on e f g = cc

one_statement : (ts : List Tok) (a b : Statement) → IsStatement ts a → IsStatement ts b → a ≡ b
one_statement ts a b h k = one_answer (statement ts) a b (statement_complete h) (statement_complete k)

-- ---- tokens that say no call

pub none-deep : (ts : List Tok) → IsTooDeepStored ts → AreTokensOfNone ts
none-deep ts deep clerk command h = h.shallow deep

pub none-no_sentence : (ts : List Tok) → AreNoSentenceStored ts → AreTokensOfNone ts
none-no_sentence ts none clerk command h = none.1 (Numbered clerk command) h.said

-- another statement
pub none-other : (ts : List Tok) (s : Statement) → IsStatement ts s →
    ((clerk : ℕ) (command : Command) → s ≡ Numbered clerk command → 1 ≤ clerk → clerk ≤ most_clerks → ⊥) → AreTokensOfNone ts
none-other ts s is other clerk command h = other clerk command (one_statement ts s (Numbered clerk command) is h.said) h.from h.to

pub none-unread : (ts : List Tok) (fault : SyntaxFault) → unread_of_syntax fault ≡ U.Shape → (fault ≡ S.NoSentence → AreNoSentenceStored ts) → (fault ≡ S.TooDeep → IsTooDeepStored ts) → AreTokensOfNone ts
none-unread ts S.NoSentence e none deep = none-no_sentence ts (none refl)
none-unread ts S.TooDeep e none deep = none-deep ts (deep refl)
none-unread ts S.Memory e none deep = absurd cc

-- a statement of the code that is none with a clerk's number
pub unnumbered : (s : code.Statement) → ((clerk : ℕ) (command : CodeCommand) → s ≡ V.Numbered clerk command → ⊥) → IsUnnumbered (statement_of s)
unnumbered (V.Numbered n c) not clerk command e = not n c refl
unnumbered _ not clerk command e = absurd cc

pub none-unnumbered : (ts : List Tok) (s : Statement) → IsStatement ts s → IsUnnumbered s → AreTokensOfNone ts
none-unnumbered ts s is not = none-other ts s is (λ clerk command e low high. not clerk command e)

-- the number of no clerk
pub none-no_clerk : (ts : List Tok) (clerk : ℕ) (command : Command) → IsStatement ts (Numbered clerk command) → (1 ≤ clerk → clerk ≤ most_clerks → ⊥) → AreTokensOfNone ts
none-no_clerk ts clerk command is out = none-other ts (Numbered clerk command) is (λ number other e low high. out (below (same e) low) (above (same e) high))
  where
    same : {number : ℕ} {other : Command} → Numbered clerk command ≡ Numbered number other → clerk ≡ number
    same e = cc

    below : {number : ℕ} → clerk ≡ number → 1 ≤ number → 1 ≤ clerk
    below e h = omega arith

    above : {number : ℕ} → clerk ≡ number → number ≤ most_clerks → clerk ≤ most_clerks
    above e h = omega arith

-- ---- texts that say no call

pub none-fault : (before : Table) (text : List ℕ) (fault : LexFault) → FirstFault before text fault → SaysNone before text
none-fault before text fault first clerk command after h = no-reading-at-fault before text fault h.tokens after first h.lexed

pub none-uncut : (before : Table) (text : List ℕ) (fault : LexFault) → unread_of_lex fault ≡ U.Shape → UnlessMemory (FirstFault before text) fault → SaysNone before text
none-uncut before text (L.BadByte at) e h = none-fault before text (L.BadByte at) (h (λ f. absurd cc))
none-uncut before text (L.LongNumber at) e h = none-fault before text (L.LongNumber at) (h (λ f. absurd cc))
none-uncut before text (L.LongName at) e h = none-fault before text (L.LongName at) (h (λ f. absurd cc))
none-uncut before text L.Memory e h = absurd cc

pub none-tokens : (before : Table) (text : List ℕ) (tokens : List Token) (names : Table) → Lexes before text 0 tokens names → AreTokensOfNone (toks tokens) → SaysNone before text
none-tokens before text tokens names lexed none clerk command after h =
    let same = one-reading before text 0 h.tokens tokens after names h.lexed lexed in
    none clerk command (subst (λ (ts : List Token). SayCall (toks ts) clerk command) same.0 h.say)

-- ---- calls

-- a text says one call
pub one_call : {before after end : Table} {text : List ℕ} {clerk number : ℕ} {command other : Command} →
    SaysCall before text clerk command after → SaysCall before text number other end → Numbered clerk command ≡ Numbered number other
one_call {before = before} {after = after} {end = end} {text = text} {clerk = clerk} {number = number} {command = command} {other = other} h k =
    let same = one-reading before text 0 h.tokens k.tokens after end h.lexed k.lexed in
    one_statement (toks k.tokens) (Numbered clerk command) (Numbered number other)
    (subst (λ (ts : List Token). IsStatement (toks ts) (Numbered clerk command)) same.0 h.say.said) k.say.said

-- its numbers and days are those of the language
pub whole_call : {before after : Table} {text : List ℕ} {clerk : ℕ} {command : Command} → SaysCall before text clerk command after → IsWholeCommand command
whole_call {after = after} {text = text} h =
    (statement_fits after h.say.said (stand_fit after text 0 h.tokens (standing h.lexed text [] refl refl))).1
