-- Where statements begin.
use Rattle.std.proofs.Common.{◌≡◌, ℕ, zero, suc, ◌+◌, ◌-◌, ◌<◌, ◌≤◌, Bool, true, false, List, [], ◌∷◌, Option, None, Some, IfSome, inl, inr, length, drop, refl, sym, ap, ◌∙◌, arith}
use Rattle.std.specs.Prelude.{unwrap_or, if◌then◌else◌}
use Rattle.poets_value.specs.declared.value.Name.{Name}
use Rattle.poets_lex.specs.declared.token.Token.{Token}
use Rattle.poets_lex.specs.declared.fault.LexFault.{LexFault}
use Rattle.poets_lex.specs.declared.fault.LexFault.TheVariants as L
use Rattle.poets_lex.specs.Table.{Table}
use Rattle.poets_lex.specs.Lexes.{Lexes, FirstFault}
use Rattle.poets_lex.specs.Laws.{Stand}
use Rattle.poets_lex.proofs.Standing.{standing}
use Rattle.poets_parse.specs.declared.fault.SyntaxFault.TheVariants as F
use Rattle.poets_types.specs.declared.cause.TypeCause.{TypeCause}
use Rattle.poets_types.specs.declared.cause.TypeCause.TheVariants as T
use Rattle.poets_command.specs.Said.{Statement}
use Rattle.poets_session.specs.declared.form.Form.{Form}
use Rattle.poets_session.specs.declared.fault.SessionCause.{SessionCause}
use Rattle.poets_session.specs.declared.fault.SessionCause.TheVariants as C
use Rattle.poets_session.specs.Pieces.{Piece, is_end, after_end}
use Rattle.poets_session.specs.Sessions.{Text}
use Rattle.poets_session.specs.Refusals.{Refusal, BadByte, LongNumber, LongName, refusal_at_byte, IsUnread, IsUnreadable, AreRefused, IsRefused}
use Rattle.poets_session.specs.Causes.{IsCauseOf}
use Rattle.poets_mark.specs.Places.{statement_tokens, first_place, byte_of, IsBeginOf, IsStopOf, IsWithin, IsNamePlace, IsTypePlace, IsPlaceOf}
use Rattle.poets_mark.proofs.Named.{at_token}

-- ---- statements after the end of one

-- one statement less stands ahead of the tokens after its end
pub one_on : (n k : ℕ) (ts : List Token) → k < n → statement_tokens (n - (k + 1)) (after_end ts) ≡ statement_tokens (n - k) ts
one_on n k ts h = let more : n - k ≡ suc (n - (k + 1)) = omega (arith, h) in sym (ap (λ m. statement_tokens m ts) more)

-- ---- within the text

-- a token stands within the text
first_inside : (table : Table) (text : Text) (place count : ℕ) (ts : List Token) → Stand table text place ts → IfSome (first_place (drop count ts)) (λ p. p ≤ length text)
first_inside table text place zero [] h = tt
first_inside table text place zero (t ∷ ts) h = omega (arith, h.1, h.2)
first_inside table text place (suc k) [] h = tt
first_inside table text place (suc k) (t ∷ ts) h = first_inside table text t.to k ts h.4

-- so does one of a statement
later_inside : (table : Table) (text : Text) (place count n : ℕ) (ts : List Token) → Stand table text place ts → IfSome (first_place (drop count (statement_tokens n ts))) (λ p. p ≤ length text)
later_inside table text place count zero ts h = first_inside table text place count ts h
later_inside table text place count (suc n) [] h = later_inside table text place count n [] tt
later_inside table text place count (suc n) (t ∷ ts) h = by (is_end t.what) (later_inside table text t.to count n ts h.4) (later_inside table text t.to count (suc n) ts h.4)
  where
    Inside : List Token → Type 0
    Inside us = IfSome (first_place (drop count (statement_tokens n us))) (λ p. p ≤ length text)

    by : (b : Bool) → Inside ts → Inside (after_end ts) → Inside (if b then ts else after_end ts)
    by true here later = here
    by false here later = later

or_end : (text : Text) (place : ℕ) (first : Option ℕ) → IfSome first (λ p. p ≤ length text) → place ≡ unwrap_or first (length text) → place ≤ length text
or_end text place None h e = omega (arith, e)
or_end text place (Some p) h e = omega (arith, h, e)

-- so is the first token after so many of a statement's, or the end of the text
token_inside : {text : Text} {tokens : List Token} {names : Table} {place : ℕ} (number count : ℕ) → Lexes [] text 0 tokens names →
    place ≡ unwrap_or (first_place (drop count (statement_tokens (number - 1) tokens))) (length text) → place ≤ length text
token_inside {text} {tokens} {names} {place} number count lexed here =
    or_end text place (first_place (drop count (statement_tokens (number - 1) tokens))) (later_inside names text 0 count (number - 1) tokens (standing lexed text [] refl refl)) here

begin_inside : (text : Text) (number place : ℕ) → IsBeginOf text number place → place ≤ length text
begin_inside text number place b = token_inside number 0 b.lexed b.here

within_inside : (text : Text) (number place : ℕ) → IsWithin text number place → place ≤ length text
within_inside text number place b = token_inside number b.count b.lexed b.here

stop_inside : (text : Text) (number place : ℕ) → IsStopOf text number place → place ≤ length text
stop_inside text number place b = token_inside number b.count b.lexed b.here

name_inside : (text : Text) (number : ℕ) (x : Name) (place : ℕ) → IsNamePlace text number x place → place ≤ length text
name_inside text number x place (inl b) =
    let ts = statement_tokens (number - 1) b.tokens in
    token_inside number b.count b.lexed (b.here ∙ sym (ap (λ o. unwrap_or o (length text)) (at_token ts b.count b.token b.inside)))
name_inside text number x place (inr b) = token_inside number 0 b.lexed b.here

type_inside : (text : Text) (number : ℕ) (cause : TypeCause) (place : ℕ) → IsTypePlace text number cause place → place ≤ length text
type_inside text number (T.Twice x) place is = name_inside text number x place is
type_inside text number (T.Unknown x) place is = name_inside text number x place is
type_inside text number (T.WrongCount x wanted found) place is = name_inside text number x place is
type_inside text number (T.WrongType wanted found) place is = within_inside text number place is
type_inside text number T.Memory place is = absurd is

-- the byte that a refusal tells
abbrev byte_in : Refusal → Option ℕ
byte_in (BadByte at) = Some at
byte_in (LongNumber at) = Some at
byte_in (LongName at) = Some at
byte_in r = None

byte_told : (fault : LexFault) (r : Refusal) → refusal_at_byte fault ≡ Some r → byte_of fault ≡ byte_in r
byte_told (L.BadByte at) r e = let same : BadByte at ≡ r = cc in ap byte_in same
byte_told (L.LongNumber at) r e = let same : LongNumber at ≡ r = cc in ap byte_in same
byte_told (L.LongName at) r e = let same : LongName at ≡ r = cc in ap byte_in same
byte_told L.Memory r e = absurd cc

unread_no_byte : (piece : Piece) (number : ℕ) (r : Refusal) → IsUnread piece number r → byte_in r ≡ None
unread_no_byte piece number r (IsUnread.IsDeep h) = refl
unread_no_byte piece number r (IsUnread.IsNoSentence h n) = refl

refused_no_byte : (form : Form) (statements : List Statement) (r : Refusal) → AreRefused form statements r → byte_in r ≡ None
refused_no_byte form statements r (AreRefused.OutOfPlace h) = refl
refused_no_byte form statements r (AreRefused.NotTyped h i) = refl
refused_no_byte form statements r (AreRefused.NotGuarded h i j k) = refl

-- the first fault of the bytes stands within the text
first_fault_inside : (text : Text) (fault : LexFault) (place : ℕ) → FirstFault [] text fault → byte_of fault ≡ Some place → place ≤ length text
first_fault_inside text (L.BadByte at) place h e = let same : at ≡ place = cc in omega (arith, same, h.found.0, h.here)
first_fault_inside text (L.LongNumber at) place h e = let same : at ≡ place = cc in omega (arith, same, h.found.0, h.here)
first_fault_inside text (L.LongName at) place h e = let same : at ≡ place = cc in omega (arith, same, h.found.0, h.here)
first_fault_inside text L.Memory place h e = absurd cc

refusal_inside : (text : Text) (form : Form) (names : Table) (r : Refusal) (place : ℕ) → IsRefused text form names r → byte_in r ≡ Some place → place ≤ length text
refusal_inside text form names r place (IsRefused.Unreadable (IsUnreadable.AtByte fault first told)) e = first_fault_inside text fault place first (byte_told fault r told ∙ e)
refusal_inside text form names r place (IsRefused.Unreadable (IsUnreadable.AtStatement lexed stopped)) e =
    absurd (let none = unread_no_byte stopped.piece (suc (length stopped.front)) r stopped.unread in cc)
refusal_inside text form names r place (IsRefused.Invalid {statements = statements} read refused) e =
    absurd (let none = refused_no_byte form statements r refused in cc)

-- the first fault of a text stands within it
pub fault_inside : (text : Text) (form : Form) (names : Table) (cause : SessionCause) (place : ℕ) → IsCauseOf (IsRefused text form names) cause → IsPlaceOf text cause place → place ≤ length text
fault_inside text form names (C.Lex fault) place (inl e) is = absurd cc
fault_inside text form names (C.Lex fault) place (inr (r, told, refused)) is = refusal_inside text form names r place refused (sym (byte_told fault r told) ∙ is)
fault_inside text form names (C.Syntax number F.NoSentence) place h is = stop_inside text number place is
fault_inside text form names (C.Syntax number F.TooDeep) place h is = begin_inside text number place is
fault_inside text form names (C.Syntax number F.Memory) place h is = begin_inside text number place is
fault_inside text form names (C.Misplaced number) place h is = begin_inside text number place is
fault_inside text form names (C.TooMany number) place h is = begin_inside text number place is
fault_inside text form names (C.Types fault) place h is = type_inside text fault.statement fault.cause place is
fault_inside text form names (C.Guard number fault) place h is = begin_inside text number place is
fault_inside text form names C.Memory place h is = absurd is
