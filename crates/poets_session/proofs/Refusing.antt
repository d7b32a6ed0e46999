-- Refusals, phase by phase.
use Rattle.std.proofs.Common.{◌≡◌, ◌≢◌, List, [], inl, inr, Some, None, Result, Ok, Err, IfErr, refl, sym, subst}
use Rattle.poets_lex.specs.declared.token.Token.{Token}
use Rattle.poets_lex.specs.declared.fault.LexFault.{LexFault}
use Rattle.poets_lex.specs.declared.fault.LexFault.TheVariants as L
use Rattle.poets_lex.specs.Table.{Table}
use Rattle.poets_lex.specs.Lexes.{Lexes, FirstFault}
use Rattle.poets_grammar.specs.Tokens.{toks}
use Rattle.poets_command.specs.Said.{Statement}
use Rattle.poets_command.specs.StatementDemands.{AreTypedStatements}
use Rattle.poets_session.specs.Pieces.{pieces_of}
use Rattle.poets_session.specs.Places.{Misplaced, TooMany, ArePlaced}
use Rattle.poets_session.specs.code.Placing.{TellsPlace}
use Rattle.poets_session.specs.Sessions.{Text, IsReadAs}
use Rattle.poets_session.specs.code.Splitting.{AreSaid}
use Rattle.poets_session.specs.Refusals.{Refusal, BadByte, LongNumber, LongName, Place, IsStopped, IsUnreadable, AreRefused, IsRefused}
use Rattle.poets_session.specs.code.Checking.{IsTypeRefusal, IsGuardRefusal}
use Rattle.poets_session.specs.Causes.{IsCauseOf, IsFirstFaultOf, IsFirstFault, lex_cause, place_cause}
use Rattle.poets_session.specs.declared.form.Form.{Form}
use Rattle.poets_session.specs.declared.fault.SessionCause.{SessionCause}
use Rattle.poets_session.specs.declared.fault.SessionFault.{SessionFault}
use Rattle.poets_session.specs.declared.session.Session.{Session}
use Rattle.poets_session.specs.declared.counting.PlaceFault.{PlaceFault}
use Rattle.poets_session.specs.declared.counting.PlaceFault.TheVariants as P

IsCauseOf-map : (Is As : Refusal → Type 0) (cause : SessionCause) → ((r : Refusal) → Is r → As r) → IsCauseOf Is cause → IsCauseOf As cause
IsCauseOf-map Is As cause f (inl e) = inl e
IsCauseOf-map Is As cause f (inr (r, e, h)) = inr (r, e, f r h)

-- ---- texts that say no statements

pub lex_unreadable : (text : Text) (names : Table) (fault : LexFault) → (fault ≢ L.Memory → FirstFault [] text fault) → IsCauseOf (IsUnreadable text names) (lex_cause fault)
lex_unreadable text names (L.BadByte at) h = inr (BadByte at, refl, IsUnreadable.AtByte (L.BadByte at) (h (λ e. absurd cc)) refl)
lex_unreadable text names (L.LongNumber at) h = inr (LongNumber at, refl, IsUnreadable.AtByte (L.LongNumber at) (h (λ e. absurd cc)) refl)
lex_unreadable text names (L.LongName at) h = inr (LongName at, refl, IsUnreadable.AtByte (L.LongName at) (h (λ e. absurd cc)) refl)
lex_unreadable text names L.Memory h = inl refl

pub stopped_unreadable : (text : Text) (names : Table) (tokens : List Token) (cause : SessionCause) → Lexes [] text 0 tokens names →
    IsCauseOf (IsStopped (pieces_of (toks tokens))) cause → IsCauseOf (IsUnreadable text names) cause
stopped_unreadable text names tokens cause lexed h = IsCauseOf-map (IsStopped (pieces_of (toks tokens))) (IsUnreadable text names) cause (λ r s. IsUnreadable.AtStatement lexed s) h

pub read_as : (text : Text) (names : Table) (tokens : List Token) (statements : List Statement) → Lexes [] text 0 tokens names → AreSaid (pieces_of (toks tokens)) statements → IsReadAs text names statements
read_as text names tokens statements lexed said = record { tokens = tokens; lexed = lexed; said = said }

-- ---- statements that are refused

pub place_refused : (form : Form) (statements : List Statement) (fault : PlaceFault) → TellsPlace form statements fault → IsCauseOf (AreRefused form statements) (place_cause fault)
place_refused form statements (P.Misplaced number) e = inr (Place (Misplaced number), refl, AreRefused.OutOfPlace e)
place_refused form statements (P.TooMany number) e = inr (Place (TooMany number), refl, AreRefused.OutOfPlace e)

mistyped : (form : Form) (statements : List Statement) → ArePlaced form statements → (r : Refusal) → IsTypeRefusal statements r → AreRefused form statements r
mistyped form statements placed r h = subst (AreRefused form statements) (sym h.told) (AreRefused.NotTyped placed h.first)

pub type_refused : (form : Form) (statements : List Statement) (cause : SessionCause) → ArePlaced form statements →
    IsCauseOf (IsTypeRefusal statements) cause → IsCauseOf (AreRefused form statements) cause
type_refused form statements cause placed h =
    IsCauseOf-map (IsTypeRefusal statements) (AreRefused form statements) cause (mistyped form statements placed) h

unguarded : (form : Form) (statements : List Statement) → ArePlaced form statements → AreTypedStatements statements →
    (r : Refusal) → IsGuardRefusal statements r → AreRefused form statements r
unguarded form statements placed typed r h = subst (AreRefused form statements) (sym h.told) (AreRefused.NotGuarded placed typed h.found h.declared)

pub guard_refused : (form : Form) (statements : List Statement) (cause : SessionCause) → ArePlaced form statements → AreTypedStatements statements →
    IsCauseOf (IsGuardRefusal statements) cause → IsCauseOf (AreRefused form statements) cause
guard_refused form statements cause placed typed h = IsCauseOf-map (IsGuardRefusal statements) (AreRefused form statements) cause (unguarded form statements placed typed) h

-- ---- texts that are refused

pub unreadable_refused : (text : Text) (form : Form) (names : Table) (cause : SessionCause) → IsCauseOf (IsUnreadable text names) cause → IsCauseOf (IsRefused text form names) cause
unreadable_refused text form names cause h = IsCauseOf-map (IsUnreadable text names) (IsRefused text form names) cause (λ r u. IsRefused.Unreadable u) h

pub invalid_refused : (text : Text) (form : Form) (names : Table) (statements : List Statement) (cause : SessionCause) → IsReadAs text names statements →
    IsCauseOf (AreRefused form statements) cause → IsCauseOf (IsRefused text form names) cause
invalid_refused text form names statements cause read h = IsCauseOf-map (AreRefused form statements) (IsRefused text form names) cause (λ r v. IsRefused.Invalid read v) h

-- the first fault of what a text says is the text's
pub fault_refused :
    (text : Text) (form : Form) (names : Table) (statements : List Statement) (result : Result Session SessionFault) → IsReadAs text names statements →
    IfErr result (IsFirstFaultOf form statements) → IfErr result (λ fault. fault.names ≡ names) → IfErr result (IsFirstFault text form)
fault_refused text form names statements (Ok session) read h told = h
fault_refused text form names statements (Err fault) read h told =
    invalid_refused text form fault.names statements fault.what (subst (λ (t : Table). IsReadAs text t statements) (sym told) read) h
