-- Why a text is no session: its first fault.
use Rattle.std.specs.Prelude.{◌≡◌, ℕ, suc, List, [], ◌∷◌, ◌++◌, length, Option, Some, None, IsTrue}
use Rattle.std.specs.Prelude.{slice_get}
use Rattle.std.specs.List.{AllZip}
use Rattle.poets_value.specs.declared.value.Name.{Name}
use Rattle.poets_lex.specs.declared.token.Token.{Token}
use Rattle.poets_lex.specs.declared.fault.LexFault.{LexFault}
use Rattle.poets_lex.specs.declared.fault.LexFault.TheVariants as L
use Rattle.poets_lex.specs.Table.{Table}
use Rattle.poets_lex.specs.Lexes.{Lexes, FirstFault}
use Rattle.poets_syntax.specs.Plain.{TypeCause}
use Rattle.poets_syntax.specs.Plain as plain
use Rattle.poets_guard.specs.FirstCycle.{IsFirstCycle}
use Rattle.poets_grammar.specs.Tokens.{toks}
use Rattle.poets_grammar.specs.Statements.{IsStatement}
use Rattle.poets_grammar.specs.TooDeep.{IsTooDeep}
use Rattle.poets_command.specs.Said.{Statement, Template}
use Rattle.poets_command.specs.Declarations.{book_from}
use Rattle.poets_command.specs.StatementDemands.{AreTypedStatements, FirstTypeFault}
use Rattle.poets_session.specs.Pieces.{Piece, pieces_of}
use Rattle.poets_session.specs.Places.{PlaceFault, ArePlaced, IsPlaceFault}
use Rattle.poets_session.specs.Sessions.{Text, IsStatementPiece, IsReadAs}
use Rattle.poets_session.specs.declared.form.Form.{Form}

-- why a text is no session; bytes are counted from 0 and statements from 1
pub data Refusal : Type 0 where
  BadByte : (at : ℕ) → Refusal
  LongNumber : (at : ℕ) → Refusal
  LongName : (at : ℕ) → Refusal
  TooDeep : (statement : ℕ) → Refusal
  NoSentence : (statement : ℕ) → Refusal
  Place : PlaceFault → Refusal
  Mistyped : (statement : ℕ) → TypeCause → Refusal
  -- the cycle of unguarded edges, which begins with the template of the statement
  Unguarded : (statement : ℕ) → (cycle : List Name) → Refusal

-- the refusal of a fault of tokens; "out of memory" is none
abbrev pub refusal_at_byte : LexFault → Option Refusal
refusal_at_byte (L.BadByte at) = Some (BadByte at)
refusal_at_byte (L.LongNumber at) = Some (LongNumber at)
refusal_at_byte (L.LongName at) = Some (LongName at)
refusal_at_byte L.Memory = None

-- the statement with the number is too deep, or no sentence; one that is not ended is none
pub data IsUnread (piece : Piece) (number : ℕ) : Refusal → Type 0 where
  IsDeep : IsTooDeep piece.tokens → IsUnread piece number (TooDeep number)
  IsNoSentence : ¬ (IsTooDeep piece.tokens) → (IsTrue piece.ended → (s : Statement) → ¬ (IsStatement piece.tokens s)) →
      IsUnread piece number (NoSentence number)

-- all statements up to this one say something, and this one does not
pub record IsStopped (pieces : List Piece) (r : Refusal) : Type 0 where
  pub front : List Piece
  pub said : List Statement
  pub piece : Piece
  pub rest : List Piece
  pub cut : pieces ≡ front ++ piece ∷ rest
  pub says : AllZip IsStatementPiece front said
  pub unread : IsUnread piece (suc (length front)) r

-- the statement with the number declares the template
pub record IsTemplateAt (statements : List Statement) (number : ℕ) (f : Name) : Type 0 where
  pub place : ℕ
  pub template : plain.Template
  pub counted : number ≡ suc place
  pub stands : slice_get statements place ≡ Some (Template template)
  pub named : template.name ≡ f

-- why a text says no statements: a fault of its bytes, else the first statement that says nothing
pub data IsUnreadable (text : Text) (names : Table) : Refusal → Type 0 where
  -- a byte that begins no token, a number or a name that is too long; the names may be any
  AtByte : {r : Refusal} (fault : LexFault) → FirstFault [] text fault → refusal_at_byte fault ≡ Some r →
      IsUnreadable text names r
  -- a statement that is too deep or no sentence; the names are those of the text's tokens
  AtStatement : {tokens : List Token} {r : Refusal} → Lexes [] text 0 tokens names →
      IsStopped (pieces_of (toks tokens)) r → IsUnreadable text names r

-- why statements are no valid session of the form: phase by phase, and in each phase the least
-- statement
pub data AreRefused (form : Form) (statements : List Statement) : Refusal → Type 0 where
  -- a statement that may not be in its place, or is one too many
  OutOfPlace : {fault : PlaceFault} → IsPlaceFault form statements fault →
      AreRefused form statements (Place fault)
  -- a statement that is not typed
  NotTyped :
      {number : ℕ} {fault : TypeCause} → ArePlaced form statements →
      FirstTypeFault statements number fault →
      AreRefused form statements (Mistyped number fault)
  -- a book with a cycle of unguarded edges: one that begins with the first template that lies on
  -- any
  NotGuarded :
      {number : ℕ} {cycle : List Name} → ArePlaced form statements → AreTypedStatements statements →
      (found : IsFirstCycle (book_from statements) cycle) → IsTemplateAt statements number found.first →
      AreRefused form statements (Unguarded number cycle)

-- why a text is no session of the form: it says no statements, or those that it says are refused
pub data IsRefused (text : Text) (form : Form) (names : Table) : Refusal → Type 0 where
  Unreadable : {r : Refusal} → IsUnreadable text names r → IsRefused text form names r
  Invalid : {statements : List Statement} {r : Refusal} → IsReadAs text names statements →
      AreRefused form statements r → IsRefused text form names r
