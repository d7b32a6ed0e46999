-- The statement that declares the first template of a cycle.
use Rattle.std.proofs.Common.{◌≡◌, ℕ, suc, ◌+◌, ◌<◌, true, false, List, [], ◌∷◌, ◌++◌, inr, Some, None, All, length, get_or, slice_get, option_map, refl, sym, ap, subst, ◌∙◌, arith}
use Rattle.std.specs.List.{flat_map}
use Rattle.std.proofs.lemmas.Option.{none-some, slice_get-map, slice_get-get_or}
use Rattle.std.proofs.lemmas.List.Elements.{All-head, All-tail}
use Rattle.poets_expr.proofs.SameTrees.{name_one}
use Rattle.poets_value.specs.declared.value.Name.{Name}
use Rattle.poets_syntax.specs.Plain.{Book}
use Rattle.poets_syntax.specs.Plain as plain
use Rattle.poets_syntax.specs.Book.{template_in}
use Rattle.poets_meaning.specs.Guarded.{IsPath, IsCycle, UnguardedEdge}
use Rattle.poets_guard.specs.FirstCycle.{IsFirstCycle}
use Rattle.poets_guard.specs.Fault.{IsFaultOf}
use Rattle.poets_guard.specs.declared.guard.GuardFault.{GuardFault}
use Rattle.poets_guard.specs.declared.guard.GuardFault.TheVariants as G
use Rattle.poets_command.specs.Said.{Agents, Kinds, Template, Report, Clerk, Journal, Command, Numbered}
use Rattle.poets_command.specs.Statements.{statement_of, statements_of}
use Rattle.poets_command.specs.Declarations.{template_in_statement, book_from}
use Rattle.poets_command.specs.declared.statement.Statement.{Statement}
use Rattle.poets_command.specs.Said as said
use Rattle.poets_session.specs.code.Checking.{declares, IsGuardRefusal}
use Rattle.poets_session.specs.Refusals.{Unguarded, IsTemplateAt}
use Rattle.poets_session.specs.Causes.{IsCauseOf}
use Rattle.poets_session.specs.declared.fault.SessionCause.TheVariants as C
use Rattle.poets_value.specs.Listed.{Listed}

-- a sentence that declares the template
pub at_statement : (statements : List said.Statement) (place : ℕ) (name : Name) (s : said.Statement) → slice_get statements place ≡ Some s → declares name s ≡ true → IsTemplateAt statements (suc place) name
at_statement statements place name (Template t) e d = record { place = place; template = t; counted = refl; stands = e; named = name_one t.name name d }
at_statement statements place name (Agents names) e d = absurd cc
at_statement statements place name (Kinds names) e d = absurd cc
at_statement statements place name (Report q) e d = absurd cc
at_statement statements place name Clerk e d = absurd cc
at_statement statements place name Journal e d = absurd cc
at_statement statements place name (Command command) e d = absurd cc
at_statement statements place name (Numbered clerk command) e d = absurd cc

pub template_at : (l : List Statement) (i : ℕ) (s : Statement) (name : Name) → i < length l → s ≡ get_or l i s → declares name (statement_of s) ≡ true → IsTemplateAt (statements_of l) (i + 1) name
template_at l i s name h e d =
    let found = slice_get-map statement_of l i ∙ ap (option_map statement_of) (slice_get-get_or l i s h ∙ ap Some (sym e)) in
    let suc_is : suc i ≡ i + 1 = omega arith in
    subst (λ n. IsTemplateAt (statements_of l) n name) suc_is (at_statement (statements_of l) i name (statement_of s) found d)

-- no statement declares the template
pub not_declared : (name : Name) (s : said.Statement) (rest : List plain.Template) → declares name s ≡ false → template_in (template_in_statement s ++ rest) name ≡ template_in rest name
not_declared name (Template t) rest d = rw d refl
not_declared name (Agents names) rest d = refl
not_declared name (Kinds names) rest d = refl
not_declared name (Report q) rest d = refl
not_declared name Clerk rest d = refl
not_declared name Journal rest d = refl
not_declared name (Command command) rest d = refl
not_declared name (Numbered clerk command) rest d = refl

pub none_declared : (name : Name) (l : List Statement) → All (λ s. declares name (statement_of s) ≡ false) l → template_in (flat_map template_in_statement (statements_of l)) name ≡ None
none_declared name [] h = refl
none_declared name (s ∷ l) h =
    let P : Statement → Type 0 = λ s. declares name (statement_of s) ≡ false in
    not_declared name (statement_of s) (flat_map template_in_statement (statements_of l)) (All-head P s l h) ∙ none_declared name l (All-tail P s l h)

-- the first of a cycle has an edge, so it has a template
from_first : (Edge : Name → Name → Type 0) (from : Name) (names : List Name) (goal : Name) → IsPath Edge from names goal → (g : Name) × Edge from g
from_first Edge from [] goal h = (goal, h)
from_first Edge from (f ∷ names) goal h = (f, h.0)

pub first_declared : (statements : List said.Statement) (f : Name) (others : List Name) → IsCycle (UnguardedEdge (book_from statements)) (f ∷ others) → (t : plain.Template) × (template_in (book_from statements).templates f ≡ Some t)
first_declared statements f others h = let e = from_first (UnguardedEdge (book_from statements)) f others f h in (e.1.0, e.1.1)

first_is : (cycle : List Name) (f x : Name) (others : List Name) → slice_get cycle 0 ≡ Some x → cycle ≡ f ∷ others → f ≡ x
first_is cycle f x others e g = let h : Some f ≡ Some x = subst (λ c. slice_get c 0 ≡ Some x) g e in cc

pub cycle_declared : (l : List Statement) (cycle : List Name) (x : Name) → IsFirstCycle (book_from (statements_of l)) cycle → slice_get cycle 0 ≡ Some x →
    All (λ s. declares x (statement_of s) ≡ false) l → ⊥
cycle_declared l cycle x h e none =
    let same = first_is cycle h.first x h.others e h.begins in
    let t = first_declared (statements_of l) h.first h.others (subst (IsCycle (UnguardedEdge (book_from (statements_of l)))) h.begins h.is_cycle) in
    none-some t.0 (sym (none_declared x l none) ∙ ap (template_in (book_from (statements_of l)).templates) (sym same) ∙ t.1)

pub cycle_told : (statements : List said.Statement) (number : ℕ) (cycle : Listed Name) (x : Name) → IsFirstCycle (book_from statements) cycle.items → slice_get cycle.items 0 ≡ Some x →
    IsTemplateAt statements number x → IsCauseOf (IsGuardRefusal statements) (C.Guard number (G.Unguarded cycle))
cycle_told statements number cycle x h e at =
    let same = first_is cycle.items h.first x h.others e h.begins in
    inr (
      Unguarded number cycle.items,
      refl,
      record { number = number; cycle = cycle.items; told = refl; found = h; declared = subst (IsTemplateAt statements number) (sym same) at },
    )

pub unguarded_cycle : (book book' : Book) (fault : GuardFault) (cycle : Listed Name) → book ≡ book' → fault ≡ G.Unguarded cycle → IsFaultOf book fault → IsFirstCycle book' cycle.items
unguarded_cycle book book' fault cycle e f h = subst (λ b. IsFirstCycle b cycle.items) e (subst (IsFaultOf book) f h)
