-- Every text is a session, or is refused. As in `poets_lex.proofs.EveryText`, both answers to what is not tested lead to a contradiction.
use Rattle.std.proofs.Common.{◌≡◌, ℕ, zero, suc, List, [], ◌∷◌, ◌++◌, ⊎_elim, Option, Some, None, All, map, length, refl, sym, ap, subst, ◌∙◌}
use Rattle.std.specs.List.{AllZip, flat_map}
use Rattle.std.proofs.lemmas.Bool.{cases_Bool}
use Rattle.std.proofs.lemmas.List.Elements.{All-nil, All-cons}
use Rattle.poets_value.specs.declared.value.Name.{Name}
use Rattle.poets_lex.specs.declared.fault.LexFault.{LexFault}
use Rattle.poets_lex.specs.declared.fault.LexFault.TheVariants as L
use Rattle.poets_lex.specs.Table.{Table}
use Rattle.poets_lex.specs.Lexes.{FirstFault}
use Rattle.poets_grammar.specs.Tokens.{toks}
use Rattle.poets_grammar.specs.TooDeep.{IsTooDeep}
use Rattle.poets_expr.specs.Env.{same_name}
use Rattle.poets_expr.proofs.SameTrees.{name_one}
use Rattle.poets_syntax.specs.Plain.{Template}
use Rattle.poets_syntax.specs.Book.{template_in}
use Rattle.poets_meaning.specs.Guarded.{UnguardedEdge, IsGuarded}
use Rattle.poets_guard.specs.FirstCycle.{LiesOnCycle, IsFirstCycle}
use Rattle.poets_command.specs.Said.{Statement}
use Rattle.poets_command.specs.Declarations.{template_in_statement, book_from}
use Rattle.poets_command.specs.Plain.{TypeFault}
use Rattle.poets_command.specs.TypedStatements.{first_fault}
use Rattle.poets_command.proofs.Demanded.{statements_by_demands, statement_faults}
use Rattle.poets_session.specs.declared.form.Form.{Form}
use Rattle.poets_session.specs.Pieces.{Piece, pieces_of}
use Rattle.poets_session.specs.Places.{ArePlaced}
use Rattle.poets_session.specs.Sessions.{Text, IsStatementPiece, AreValid, IsNoSession}
use Rattle.poets_session.specs.Refusals.{Refusal, BadByte, LongNumber, LongName, TooDeep, NoSentence, Place, Mistyped, Unguarded, refusal_at_byte, IsUnread, IsStopped, IsTemplateAt, IsUnreadable, AreRefused, IsRefused}
use Rattle.poets_session.specs.code.Checking.{declares}
use Rattle.poets_session.proofs.Saying.{Standing, standing_first, standing_more, standing_end}
use Rattle.poets_session.proofs.Cycling.{at_statement, not_declared, first_declared}
use Rattle.poets_session.proofs.Refusing.{read_as}
use Rattle.poets_session.proofs.LawsPlaces.{every_placed}
use Rattle.poets_lex.proofs.EveryText.{every-text}

-- ---- statements

every_read : (p : Piece) (number : ℕ) → ((s : Statement) → IsStatementPiece p s → ⊥) → ((r : Refusal) → IsUnread p number r → ⊥) → ⊥
every_read p number silent none =
    let shallow : IsTooDeep p.tokens → ⊥ = λ deep. none (TooDeep number) (IsUnread.IsDeep deep) in
    none (NoSentence number) (IsUnread.IsNoSentence shallow (λ ended s is. silent s (record { ended = ended; shallow = shallow; statement = is })))

-- pieces that neither say statements nor stop
record IsUnsaid (pieces : List Piece) : Type 0 where
  not_said : (statements : List Statement) → AllZip IsStatementPiece pieces statements → ⊥
  not_stopped : (r : Refusal) → IsStopped pieces r → ⊥

unsaid_after : (pieces rest : List Piece) (found : List Statement) → IsUnsaid pieces → Standing pieces rest found → ⊥
unsaid_after pieces [] found none h = none.not_said found (standing_end pieces [] found h refl)
unsaid_after pieces (p ∷ rest) found none h =
    every_read p (suc (length h.front))
    (λ s is. unsaid_after pieces rest (found ++ s ∷ []) none (standing_more pieces rest p found s h is))
    (λ r unread. none.not_stopped r (record { front = h.front; said = found; piece = p; rest = rest; cut = h.cut; says = h.says; unread = unread }))

-- ---- cycles

one_later : {statements : List Statement} {number : ℕ} {f : Name} (s : Statement) → IsTemplateAt statements number f → IsTemplateAt (s ∷ statements) (suc number) f
one_later s h = record { place = suc h.place; template = h.template; counted = ap suc h.counted; stands = h.stands; named = h.named }

declared_at : (statements : List Statement) (f : Name) (t : Template) → template_in (flat_map template_in_statement statements) f ≡ Some t → (number : ℕ) × IsTemplateAt statements number f
declared_at [] f t e = absurd cc
declared_at (s ∷ statements) f t e =
    ⊎_elim (λ here. (suc zero, at_statement (s ∷ statements) zero f s refl here))
    (λ later.
    let at = declared_at statements f t (sym (not_declared f s (flat_map template_in_statement statements) later) ∙ e) in
    (suc at.0, one_later s at.1))
    (cases_Bool (declares f s))

-- the first template of which something holds
first_with :
    (P : Name → Type 0) (templates : List Template) (f : Name) (t : Template) → template_in templates f ≡ Some t → P f →
    ((earlier : List Name) (x : Name) (later : List Name) → map (λ t. t.name) templates ≡ earlier ++ x ∷ later → P x → All (λ y. ¬ (P y)) earlier → ⊥) → ⊥
first_with P [] f t e h none = absurd cc
first_with P (u ∷ templates) f t e h none =
    let No : Name → Type 0 = λ y. ¬ (P y) in
    let here : P u.name → ⊥ = λ k. none [] u.name (map (λ t. t.name) templates) refl k (All-nil No) in
    ⊎_elim (λ same. here (subst P (sym (name_one u.name f same)) h))
    (λ apart.
    first_with P templates f t (rw apart at e) h
    (λ earlier x later split k free. none (u.name ∷ earlier) x later (ap (λ l. u.name ∷ l) split) k (All-cons No u.name earlier here free)))
    (cases_Bool (same_name u.name f))

every_guarded :
    (statements : List Statement) → (IsGuarded (book_from statements) → ⊥) →
    ((number : ℕ) (cycle : List Name) (found : IsFirstCycle (book_from statements) cycle) → IsTemplateAt statements number found.first → ⊥) → ⊥
every_guarded statements unguarded none = unguarded on_cycle
  where
    on_cycle : IsGuarded (book_from statements)
    on_cycle [] cycle = cycle
    on_cycle (f ∷ others) cycle =
        let t = first_declared statements f others cycle in
        first_with (LiesOnCycle (UnguardedEdge (book_from statements))) (book_from statements).templates f t.0 t.1 (others, cycle)
        (λ earlier x later split lies free.
        let u = first_declared statements x lies.0 lies.1 in let at = declared_at statements x u.0 u.1 in
        none at.0 (x ∷ lies.0) (record { earlier = earlier; first = x; later = later; others = lies.0; split = split; begins = refl; is_cycle = lies.1; none = free }) at.1)

-- ---- whole sessions

every_checked : {form : Form} {statements : List Statement} → (AreValid form statements → ⊥) → ((r : Refusal) → AreRefused form statements r → ⊥) →
    ArePlaced form statements → (mistyped : TypeFault) → first_fault statements ≡ mistyped → ⊥
every_checked {statements = statements} invalid none placed (Some (number, fault)) f = none (Mistyped number fault) (AreRefused.NotTyped placed ((statement_faults statements number fault).0 f))
every_checked {statements = statements} invalid none placed None f =
    every_guarded statements (λ guarded. invalid (record { placed = placed; typed = (statements_by_demands statements).0 f; guarded = guarded }))
    (λ number cycle found at. none (Unguarded number cycle) (AreRefused.NotGuarded placed ((statements_by_demands statements).0 f) found at))

pub every_valid : (form : Form) (statements : List Statement) → (AreValid form statements → ⊥) → ((r : Refusal) → AreRefused form statements r → ⊥) → ⊥
every_valid form statements invalid none =
    every_placed form statements (λ placed. every_checked invalid none placed (first_fault statements) refl)
    (λ fault out. none (Place fault) (AreRefused.OutOfPlace out))

-- ---- texts

refused_at_byte : {text : Text} (fault : LexFault) → FirstFault [] text fault → (r : Refusal) × (refusal_at_byte fault ≡ Some r)
refused_at_byte (L.BadByte at) h = (BadByte at, refl)
refused_at_byte (L.LongNumber at) h = (LongNumber at, refl)
refused_at_byte (L.LongName at) h = (LongName at, refl)
refused_at_byte L.Memory h = absurd h.found

pub every_text : (text : Text) (form : Form) → IsNoSession text form → ((names : Table) (r : Refusal) → ¬ (IsRefused text form names r)) → ⊥
every_text text form no_session no_refusal =
    every-text [] text
    (λ tokens names lexed.
    let pieces = pieces_of (toks tokens) in
    unsaid_after pieces pieces []
    (record {
      not_said = λ statements said.
          let read = read_as text names tokens statements lexed said in
          every_valid form statements (λ valid. no_session names statements (record { read = read; valid = valid }))
          (λ r refused. no_refusal names r (IsRefused.Invalid read refused));
      not_stopped = λ r stopped. no_refusal names r (IsRefused.Unreadable (IsUnreadable.AtStatement lexed stopped));
    })
    (standing_first pieces))
    (λ fault first. let told = refused_at_byte fault first in no_refusal [] told.0 (IsRefused.Unreadable (IsUnreadable.AtByte fault first told.1)))
