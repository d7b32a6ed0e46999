-- A text is refused in one way.
use Rattle.std.proofs.Common.{◌≡◌, ℕ, List, [], ◌∷◌, Some, refl, sym, ap, subst, ◌∙◌}
use Rattle.poets_value.specs.declared.value.Name.{Name}
use Rattle.poets_lex.specs.declared.token.Token.{Token}
use Rattle.poets_lex.specs.declared.fault.LexFault.{LexFault}
use Rattle.poets_lex.specs.declared.fault.LexFault.TheVariants as L
use Rattle.poets_lex.specs.Table.{Table}
use Rattle.poets_lex.proofs.OneWay.{one-reading, no-reading-at-fault, one-first-fault}
use Rattle.poets_grammar.specs.Tokens.{toks}
use Rattle.poets_syntax.specs.Plain.{TypeCause}
use Rattle.poets_command.specs.Said.{Statement}
use Rattle.poets_command.proofs.Demanded.{statements_by_demands, no_type_fault, one_type_fault}
use Rattle.poets_session.specs.declared.form.Form.{Form}
use Rattle.poets_session.specs.Pieces.{pieces_of}
use Rattle.poets_session.specs.Sessions.{Text, AreValid, IsReadAs, IsSession}
use Rattle.poets_session.specs.Refusals.{Refusal, BadByte, LongNumber, LongName, Place, Mistyped, Unguarded, refusal_at_byte, IsStopped, IsTemplateAt, IsUnreadable, AreRefused, IsRefused}
use Rattle.poets_session.specs.Texts.{refusal_text}
use Rattle.poets_session.specs.Laws.{AreAlike}
use Rattle.poets_session.proofs.LawsSaid.{read_once, stopped_unsaid, stopped_once}
use Rattle.poets_session.proofs.LawsCycles.{cycle_begins_once, template_at_once}
use Rattle.poets_session.proofs.LawsPlaces.{place_once, placed_unfaulted}

-- ---- what is valid is not refused

pub valid_unrefused : (form : Form) (statements : List Statement) (r : Refusal) → AreRefused form statements r → AreValid form statements → ⊥
valid_unrefused form statements r (AreRefused.OutOfPlace {fault = fault} e) v = placed_unfaulted form statements fault e v.placed
valid_unrefused form statements r (AreRefused.NotTyped {number = number} {fault = fault} e f) v = no_type_fault statements number fault v.typed f
valid_unrefused form statements r (AreRefused.NotGuarded {cycle = cycle} e f found stands) v = v.guarded cycle found.is_cycle

unreadable_unread : {text : Text} {names others : Table} {r : Refusal} {statements : List Statement} → IsUnreadable text names r → IsReadAs text others statements → ⊥
unreadable_unread {text = text} {others = others} (IsUnreadable.AtByte fault first told) h = no-reading-at-fault [] text fault h.tokens others first h.lexed
unreadable_unread {text = text} {names = names} {others = others} {r = r} {statements = statements} (IsUnreadable.AtStatement {tokens = tokens} lexed stopped) h =
    let same = one-reading [] text 0 tokens h.tokens names others lexed h.lexed in
    stopped_unsaid statements (subst (λ (ts : List Token). IsStopped (pieces_of (toks ts)) r) same.0 stopped) h.said

pub session_unrefused : (text : Text) (form : Form) (names others : Table) (r : Refusal) (statements : List Statement) → IsRefused text form names r → IsSession text form others statements → ⊥
session_unrefused text form names others r statements (IsRefused.Unreadable u) s = unreadable_unread u s.read
session_unrefused text form names others r statements (IsRefused.Invalid {statements = said} read refused) s =
    let same = read_once text names others said statements read s.read in
    valid_unrefused form statements r (subst (λ (ss : List Statement). AreRefused form ss r) same.1 refused) s.valid

-- ---- one refusal of statements

mistyped_once : {m n : ℕ} {x y : TypeCause} → (m ≡ n) × (x ≡ y) → Mistyped m x ≡ Mistyped n y
mistyped_once {n = n} {x = x} e = ap (λ k. Mistyped k x) e.0 ∙ ap (Mistyped n) e.1

alike : {r s : Refusal} → r ≡ s → AreAlike r s
alike {r = r} e = subst (AreAlike r) e AreAlike.Same

begin_alike : {m n : ℕ} {f g : Name} {c d fs gs : List Name} → m ≡ n → f ≡ g → c ≡ f ∷ fs → d ≡ g ∷ gs → AreAlike (Unguarded m c) (Unguarded n d)
begin_alike e f p q = rw (p, q, e, f) AreAlike.Cycles

pub statements_refused_once : (form : Form) (statements : List Statement) (r s : Refusal) → AreRefused form statements r → AreRefused form statements s → AreAlike r s
statements_refused_once form statements r s (AreRefused.OutOfPlace {fault = a} e) (AreRefused.OutOfPlace {fault = b} f) = alike (ap Place (place_once form statements a b e f))
statements_refused_once form statements r s (AreRefused.OutOfPlace {fault = a} e) (AreRefused.NotTyped f g) = absurd (placed_unfaulted form statements a e f)
statements_refused_once form statements r s (AreRefused.OutOfPlace {fault = a} e) (AreRefused.NotGuarded f g d u) = absurd (placed_unfaulted form statements a e f)
statements_refused_once form statements r s (AreRefused.NotTyped e h) (AreRefused.OutOfPlace {fault = b} f) = absurd (placed_unfaulted form statements b f e)
statements_refused_once form statements r s (AreRefused.NotTyped {number = m} {fault = x} e h) (AreRefused.NotTyped {number = n} {fault = y} f g) = alike (mistyped_once (one_type_fault statements m n x y h g))
statements_refused_once form statements r s (AreRefused.NotTyped {number = m} {fault = x} e h) (AreRefused.NotGuarded f g d u) = absurd (no_type_fault statements m x g h)
statements_refused_once form statements r s (AreRefused.NotGuarded e h c t) (AreRefused.OutOfPlace {fault = b} f) = absurd (placed_unfaulted form statements b f e)
statements_refused_once form statements r s (AreRefused.NotGuarded e h c t) (AreRefused.NotTyped {number = n} {fault = y} f g) = absurd (no_type_fault statements n y h g)
statements_refused_once form statements r s (AreRefused.NotGuarded {number = m} e h c t) (AreRefused.NotGuarded {number = n} f g d u) =
    let name = cycle_begins_once c d in
    let number = template_at_once statements m n d.first ((statements_by_demands statements).1 h) (subst (IsTemplateAt statements m) name t) u in
    begin_alike number name c.begins d.begins

-- ---- one refusal of a text

-- one refusal, but for how the cycle goes on, and one line
AreOne : (names others : Table) → Refusal → Refusal → Type 0
AreOne names others r s = AreAlike r s × (refusal_text names r ≡ refusal_text others s)

-- a refusal at a byte tells no names
at_byte_once : (fault : LexFault) (names others : Table) (r s : Refusal) → refusal_at_byte fault ≡ Some r → refusal_at_byte fault ≡ Some s → AreOne names others r s
unfolding AreOne
at_byte_once (L.BadByte place) names others r s e f =
    let a : BadByte place ≡ r = cc in let b : BadByte place ≡ s = cc in rw (sym a, sym b) (AreAlike.Same, refl)
at_byte_once (L.LongNumber place) names others r s e f =
    let a : LongNumber place ≡ r = cc in let b : LongNumber place ≡ s = cc in rw (sym a, sym b) (AreAlike.Same, refl)
at_byte_once (L.LongName place) names others r s e f =
    let a : LongName place ≡ r = cc in let b : LongName place ≡ s = cc in rw (sym a, sym b) (AreAlike.Same, refl)
at_byte_once L.Memory names others r s e f = absurd cc

-- what is alike has one line
alike_line : (names : Table) {r s : Refusal} → AreAlike r s → refusal_text names r ≡ refusal_text names s
alike_line names AreAlike.Same = refl
alike_line names AreAlike.Cycles = refl

-- under one table
alike_one : {names others : Table} {r s : Refusal} → names ≡ others → AreAlike r s → AreOne names others r s
unfolding AreOne
alike_one {others = others} {r = r} same one = (one, ap (λ (t : Table). refusal_text t r) same ∙ alike_line others one)

unreadable_once : {text : Text} {names others : Table} {r s : Refusal} → IsUnreadable text names r → IsUnreadable text others s → AreOne names others r s
unreadable_once {text = text} {names = names} {others = others} {r = r} {s = s} (IsUnreadable.AtByte a first told) (IsUnreadable.AtByte b also tells) =
    let same = one-first-fault [] text a b first also in
    at_byte_once a names others r s told (subst (λ f. refusal_at_byte f ≡ Some s) (sym same) tells)
unreadable_once {text = text} {others = others} (IsUnreadable.AtByte a first told) (IsUnreadable.AtStatement {tokens = tokens} lexed stopped) =
    absurd (no-reading-at-fault [] text a tokens others first lexed)
unreadable_once {text = text} {names = names} (IsUnreadable.AtStatement {tokens = tokens} lexed stopped) (IsUnreadable.AtByte b first told) =
    absurd (no-reading-at-fault [] text b tokens names first lexed)
unreadable_once {text = text} {names = names} {others = others} {r = r} {s = s} (IsUnreadable.AtStatement {tokens = tokens} lexed h) (IsUnreadable.AtStatement {tokens = ts} also k) =
    let same = one-reading [] text 0 tokens ts names others lexed also in
    alike_one same.1 (alike (stopped_once h (subst (λ (x : List Token). IsStopped (pieces_of (toks x)) s) (sym same.0) k)))

refused_one : {text : Text} {form : Form} {names others : Table} {r s : Refusal} → IsRefused text form names r → IsRefused text form others s → AreOne names others r s
refused_one (IsRefused.Unreadable u) (IsRefused.Unreadable v) = unreadable_once u v
refused_one (IsRefused.Unreadable u) (IsRefused.Invalid read refused) = absurd (unreadable_unread u read)
refused_one (IsRefused.Invalid read refused) (IsRefused.Unreadable u) = absurd (unreadable_unread u read)
refused_one {text = text} {form = form} {names = names} {others = others} {r = r} {s = s} (IsRefused.Invalid {statements = a} read refused) (IsRefused.Invalid {statements = b} also k) =
    let same = read_once text names others a b read also in
    alike_one same.0 (statements_refused_once form a r s refused (subst (λ (ss : List Statement). AreRefused form ss s) (sym same.1) k))

pub refused_once : (text : Text) (form : Form) (names others : Table) (r s : Refusal) → IsRefused text form names r → IsRefused text form others s →
    AreAlike r s × (refusal_text names r ≡ refusal_text others s)
unfolding AreOne
refused_once text form names others r s h k = refused_one h k
