-- The names in a fault stand in its table.
use Rattle.std.proofs.Common.{◌≡◌, ℕ, List, [], ◌∷◌, Some, All, inl, inr, subst}
use Rattle.std.specs.Prelude.{Bool, true, false, IfSome, if◌then◌else◌}
use Rattle.std.proofs.lemmas.List.Elements.{All-nil, All-cons, All-head, All-tail}
use Rattle.poets_value.specs.declared.value.Name.{Name}
use Rattle.poets_expr.specs.Env.{same_name}
use Rattle.poets_lex.specs.declared.fault.LexFault.{LexFault}
use Rattle.poets_lex.specs.declared.fault.LexFault.TheVariants as L
use Rattle.poets_lex.specs.Table.{Table}
use Rattle.poets_syntax.specs.Plain.{Book}
use Rattle.poets_syntax.specs.Book.{template_in}
use Rattle.poets_syntax.specs.Contract.{Contract}
use Rattle.poets_syntax.specs.Plain as plain
use Rattle.poets_meaning.specs.Guarded.{Exposes, UnguardedEdge, IsPath, IsCycle}
use Rattle.poets_command.specs.Said.{Statement, Template}
use Rattle.poets_command.proofs.Demanded.{statement_faults}
use Rattle.poets_command.specs.Declarations.{book_from}
use Rattle.poets_print.specs.Laws.{IsListed, CanWriteContract}
use Rattle.poets_session.specs.declared.form.Form.{Form}
use Rattle.poets_session.specs.declared.fault.SessionCause.{SessionCause}
use Rattle.poets_session.specs.declared.fault.SessionFault.{SessionFault}
use Rattle.poets_session.specs.Pieces.{Piece}
use Rattle.poets_session.specs.Sessions.{Text}
use Rattle.poets_session.specs.Refusals.{Refusal, BadByte, LongNumber, LongName, refusal_at_byte, IsUnread, IsUnreadable, AreRefused, IsRefused}
use Rattle.poets_session.specs.Causes.{refusal_of, IsCauseOf, IsFirstFaultOf, IsFirstFault}
use Rattle.poets_session.specs.Written.{IsWrittenTemplate, IsWritten, IsListedRefusal, HasListedNames}
use Rattle.poets_session.proofs.Listing.{IsTold, fault_told}
use Rattle.poets_session.proofs.LawsFitting.{read_written}

-- ---- cycles

-- a name that a written contract exposes stands in the table
exposed : (names : Table) {book : Book} {c : Contract} {f : Name} → Exposes book c f → CanWriteContract names c → IsListed names f
exposed names Exposes.Here h = h.0
exposed names (Exposes.PlusLeft e) h = exposed names e h.0
exposed names (Exposes.PlusRight e) h = exposed names e h.1
exposed names (Exposes.ParLeft e) h = exposed names e h.0
exposed names (Exposes.ParRight e) h = exposed names e h.1
exposed names (Exposes.SeqFirst e) h = exposed names e h.0
exposed names (Exposes.SeqSecond n e) h = exposed names e h.1

templates_written : (names : Table) (statements : List Statement) → All (IsWritten names) statements → All (IsWrittenTemplate names) (book_from statements).templates
templates_written names [] h = All-nil (IsWrittenTemplate names)
templates_written names (Template t ∷ statements) h =
    All-cons (IsWrittenTemplate names) t (book_from statements).templates (All-head (IsWritten names) (Template t) statements h)
    (templates_written names statements (All-tail (IsWritten names) (Template t) statements h))
templates_written names (s ∷ statements) h = templates_written names statements (All-tail (IsWritten names) s statements h)

-- what holds of all templates holds of the one of a name
named_template : (P : plain.Template → Type 0) (templates : List plain.Template) (f : Name) (t : plain.Template) → All P templates → template_in templates f ≡ Some t → P t
named_template P [] f t h e = absurd cc
named_template P (u ∷ templates) f t h e = by (same_name u.name f) e (named_template P templates f t (All-tail P u templates h))
  where
    by : (b : Bool) → (if b then Some u else template_in templates f) ≡ Some t → (template_in templates f ≡ Some t → P t) → P t
    by true e later = let same : u ≡ t = cc in subst P same (All-head P u templates h)
    by false e later = later e

edge_listed : (names : Table) (statements : List Statement) (f g : Name) → All (IsWritten names) statements → UnguardedEdge (book_from statements) f g → IsListed names g
edge_listed names statements f g h (t, found, exposes) =
    exposed names exposes (named_template (IsWrittenTemplate names) (book_from statements).templates f t (templates_written names statements h) found).body.0

-- the names on a path, and the one that it leads to
path_listed :
    (names : Table) (statements : List Statement) (from : Name) (others : List Name) (to : Name) → All (IsWritten names) statements →
    IsPath (UnguardedEdge (book_from statements)) from others to → All (IsListed names) others × IsListed names to
path_listed names statements from [] to h p = (All-nil (IsListed names), edge_listed names statements from to h p)
path_listed names statements from (f ∷ others) to h p =
    let rest = path_listed names statements f others to h p.1 in
    (All-cons (IsListed names) f others (edge_listed names statements from f h p.0) rest.0, rest.1)

cycle_listed : (names : Table) (statements : List Statement) (cycle : List Name) → All (IsWritten names) statements → IsCycle (UnguardedEdge (book_from statements)) cycle →
    All (IsListed names) cycle
cycle_listed names statements [] h p = All-nil (IsListed names)
cycle_listed names statements (f ∷ others) h p =
    let all = path_listed names statements f others f h p in All-cons (IsListed names) f others all.1 all.0

-- ---- refusals

refusal_listed : (names : Table) (form : Form) (statements : List Statement) {r : Refusal} → All (IsWritten names) statements → AreRefused form statements r → IsListedRefusal names r
refusal_listed names form statements h (AreRefused.OutOfPlace e) = tt
refusal_listed names form statements h (AreRefused.NotTyped {number = number} {fault = fault} e f) =
    subst (IsTold names) ((statement_faults statements number fault).1 f) (fault_told names statements h)
refusal_listed names form statements h (AreRefused.NotGuarded {cycle = cycle} e f found at) = cycle_listed names statements cycle h found.is_cycle

-- a refusal at a byte or at a statement that says nothing tells no name
at_byte_listed : (names : Table) (fault : LexFault) (r : Refusal) → refusal_at_byte fault ≡ Some r → IsListedRefusal names r
at_byte_listed names (L.BadByte at) r e = let same : BadByte at ≡ r = cc in subst (IsListedRefusal names) same tt
at_byte_listed names (L.LongNumber at) r e = let same : LongNumber at ≡ r = cc in subst (IsListedRefusal names) same tt
at_byte_listed names (L.LongName at) r e = let same : LongName at ≡ r = cc in subst (IsListedRefusal names) same tt
at_byte_listed names L.Memory r e = absurd cc

unread_listed : (names : Table) {piece : Piece} {number : ℕ} {r : Refusal} → IsUnread piece number r → IsListedRefusal names r
unread_listed names (IsUnread.IsDeep deep) = tt
unread_listed names (IsUnread.IsNoSentence shallow none) = tt

unreadable_listed : {text : Text} (names : Table) {r : Refusal} → IsUnreadable text names r → IsListedRefusal names r
unreadable_listed names {r = r} (IsUnreadable.AtByte fault first told) = at_byte_listed names fault r told
unreadable_listed names (IsUnreadable.AtStatement lexed stopped) = unread_listed names stopped.unread

text_listed : (text : Text) (form : Form) (names : Table) (r : Refusal) → IsRefused text form names r → IsListedRefusal names r
text_listed text form names r (IsRefused.Unreadable u) = unreadable_listed names u
text_listed text form names r (IsRefused.Invalid {statements = statements} read refused) =
    refusal_listed names form statements (read_written text names statements read) refused

-- ---- faults

-- a cause that tells such a refusal, or want of memory
cause_listed : (names : Table) (Is : Refusal → Type 0) (cause : SessionCause) → ((r : Refusal) → Is r → IsListedRefusal names r) → IsCauseOf Is cause →
    IfSome (refusal_of cause) (IsListedRefusal names)
cause_listed names Is cause f (inl e) = rw e tt
cause_listed names Is cause f (inr (r, e, h)) = rw e (f r h)

pub text_fault_listed : (text : Text) (form : Form) (fault : SessionFault) → IsFirstFault text form fault → HasListedNames fault
text_fault_listed text form fault h = cause_listed fault.names (IsRefused text form fault.names) fault.what (text_listed text form fault.names) h

pub statement_fault_listed : (form : Form) (statements : List Statement) (fault : SessionFault) → All (IsWritten fault.names) statements → IsFirstFaultOf form statements fault →
    HasListedNames fault
statement_fault_listed form statements fault written h =
    cause_listed fault.names (AreRefused form statements) fault.what (λ r refused. refusal_listed fault.names form statements written refused) h
