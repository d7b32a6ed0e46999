-- Statements stand in their places exactly where they begin a session by its shape.
use Rattle.std.proofs.Common.{◌≡◌, Bool, true, false, List, [], ◌∷◌, ◌++◌, Option, Some, None, All, map, refl, sym, ap, subst, ◌∙◌, option_and_then, append-nil, append_assoc}
use Rattle.std.specs.Prelude.{IsTrue}
use Rattle.std.specs.List.{flat_map}
use Rattle.std.proofs.lemmas.Option.{none-some}
use Rattle.std.proofs.lemmas.List.Elements.{All-nil, All-cons, All-head, All-tail}
use Rattle.std.proofs.lemmas.List.Sums.{fold-append}
use Rattle.poets_command.specs.Calls.{Call}
use Rattle.poets_command.specs.Plain as plain
use Rattle.poets_command.specs.Said.{Statement, Agents, Kinds, Template, Report, Clerk, Journal, Command, Numbered}
use Rattle.poets_session.specs.declared.form.Form.{Form}
use Rattle.poets_session.specs.declared.form.Form.TheVariants as F
use Rattle.poets_session.specs.declared.counting.Part.{Part}
use Rattle.poets_session.specs.declared.counting.Part.TheVariants as P
use Rattle.poets_session.specs.Shapes.{is_of_book, clerk_section, IsAfterBook, HasShape, Begins}
use Rattle.poets_session.specs.code.Placing.{next_part, part_from, part_after, lacks_journal}

run-none : (form : Form) (statements : List Statement) → part_from form None statements ≡ None
run-none form [] = refl
run-none form (s ∷ statements) = run-none form statements

none_ends : (form : Form) (statements : List Statement) (p : Part) → part_from form None statements ≡ Some p → ⊥
none_ends form statements p e = none-some p (sym (run-none form statements) ∙ e)

run-append : (form : Form) (part : Option Part) (front rest : List Statement) →
    part_from form part (front ++ rest) ≡ part_from form (part_from form part front) rest
run-append form part front rest = fold-append (λ part s. option_and_then (λ p. next_part form p s) part) part front rest

pub part_more : (form : Form) (before : List Statement) (s : Statement) (p : Part) → part_after form before ≡ Some p →
    part_after form (before ++ s ∷ []) ≡ next_part form p s
part_more form before s p e =
    run-append form (Some P.Book) before (s ∷ []) ∙ ap (option_and_then (λ p. next_part form p s)) e

-- ---- statements in their places have the shape

clerk_shape : (statements : List Statement) (p : Part) → part_from F.Clerks (Some P.Clerk) statements ≡ Some p →
    (commands : List plain.Command) × (scripts : List (List plain.Command))
    × (statements ≡ map Command commands ++ flat_map clerk_section scripts)
clerk_shape [] p e = ([], [], refl)
clerk_shape (Clerk ∷ statements) p e =
    let h = clerk_shape statements p e in ([], h.0 ∷ h.1, ap (λ rest. Clerk ∷ rest) h.2)
clerk_shape (Command command ∷ statements) p e =
    let h = clerk_shape statements p e in (command ∷ h.0, h.1, ap (λ rest. Command command ∷ rest) h.2)
clerk_shape (s ∷ statements) p e = absurd (none_ends F.Clerks statements p e)

journal_shape : (statements : List Statement) (p : Part) → part_from F.Journal (Some P.Journal) statements ≡ Some p →
    (calls : List Call) × (statements ≡ map (λ call. Numbered call.0 call.1) calls)
journal_shape [] p e = ([], refl)
journal_shape (Numbered clerk command ∷ statements) p e =
    let h = journal_shape statements p e in
    ((clerk, command) ∷ h.0, ap (λ rest. Numbered clerk command ∷ rest) h.1)
journal_shape (s ∷ statements) p e = absurd (none_ends F.Journal statements p e)

abbrev IsOfBook : Statement → Type 0
IsOfBook s = IsTrue (is_of_book s)

without_book : (form : Form) (rest : List Statement) → IsAfterBook form rest → HasShape form rest
without_book form rest h = record { book = []; rest = rest; cut = refl; of_book = All-nil IsOfBook; after = h }

with_book : (form : Form) (s : Statement) (statements : List Statement) → IsOfBook s → HasShape form statements →
    HasShape form (s ∷ statements)
with_book form s statements is h = record {
  book = s ∷ h.book;
  rest = h.rest;
  cut = ap (λ l. s ∷ l) h.cut;
  of_book = All-cons IsOfBook s h.book is h.of_book;
  after = h.after;
}

shape : (form : Form) (statements : List Statement) (p : Part) → part_from form (Some P.Book) statements ≡ Some p →
    lacks_journal form p ≡ false → HasShape form statements
shape F.Book [] p e f = without_book F.Book [] refl
shape F.Clerks [] p e f = without_book F.Clerks [] ([], refl)
shape F.Journal [] P.Book e f = absurd cc
shape F.Journal [] P.Clerk e f = absurd cc
shape F.Journal [] P.Journal e f = absurd cc
shape form (Agents names ∷ statements) p e f =
    with_book form (Agents names) statements refl (shape form statements p e f)
shape form (Kinds names ∷ statements) p e f = with_book form (Kinds names) statements refl (shape form statements p e f)
shape form (Template t ∷ statements) p e f = with_book form (Template t) statements refl (shape form statements p e f)
shape form (Report q ∷ statements) p e f = with_book form (Report q) statements refl (shape form statements p e f)
shape F.Clerks (Clerk ∷ statements) p e f =
    let h = clerk_shape statements p e in
    without_book F.Clerks (Clerk ∷ statements) (h.0 ∷ h.1, ap (λ rest. Clerk ∷ rest) h.2)
shape F.Journal (Journal ∷ statements) p e f =
    let h = journal_shape statements p e in
    without_book F.Journal (Journal ∷ statements) (h.0, ap (λ rest. Journal ∷ rest) h.1)
shape form (s ∷ statements) p e f = absurd (none_ends form statements p e)

-- ---- what has the shape stands in its places

book_runs : (form : Form) (book : List Statement) → All IsOfBook book → part_from form (Some P.Book) book ≡ Some P.Book
book_runs form [] h = refl
book_runs form (Agents names ∷ book) h = book_runs form book (All-tail IsOfBook (Agents names) book h)
book_runs form (Kinds names ∷ book) h = book_runs form book (All-tail IsOfBook (Kinds names) book h)
book_runs form (Template t ∷ book) h = book_runs form book (All-tail IsOfBook (Template t) book h)
book_runs form (Report q ∷ book) h = book_runs form book (All-tail IsOfBook (Report q) book h)
book_runs form (s ∷ book) h = let no : false ≡ true = All-head IsOfBook s book h in absurd cc

commands_run : (commands : List plain.Command) → part_from F.Clerks (Some P.Clerk) (map Command commands) ≡ Some P.Clerk
commands_run [] = refl
commands_run (command ∷ commands) = commands_run commands

sections_run : (scripts : List (List plain.Command)) →
    part_from F.Clerks (Some P.Clerk) (flat_map clerk_section scripts) ≡ Some P.Clerk
sections_run [] = refl
sections_run (commands ∷ scripts) =
    run-append F.Clerks (Some P.Clerk) (map Command commands) (flat_map clerk_section scripts)
    ∙ ap (λ p. part_from F.Clerks p (flat_map clerk_section scripts)) (commands_run commands) ∙ sections_run scripts

clerks_run : (scripts : List (List plain.Command)) →
    (p : Part) × (part_from F.Clerks (Some P.Book) (flat_map clerk_section scripts) ≡ Some p)
clerks_run [] = (P.Book, refl)
clerks_run (commands ∷ scripts) = (P.Clerk, sections_run (commands ∷ scripts))

calls_run : (calls : List Call) →
    part_from F.Journal (Some P.Journal) (map (λ call. Numbered call.0 call.1) calls) ≡ Some P.Journal
calls_run [] = refl
calls_run (call ∷ calls) = calls_run calls

-- the part where statements end that lack nothing
abbrev Ends : Form → Option Part → Type 0
Ends form part = (p : Part) × (part ≡ Some p) × (lacks_journal form p ≡ false)

after_runs : (form : Form) (rest : List Statement) → IsAfterBook form rest → Ends form (part_from form (Some P.Book) rest)
after_runs F.Book rest h = (P.Book, ap (λ l. part_from F.Book (Some P.Book) l) h, refl)
after_runs F.Clerks rest h =
    let r = clerks_run h.0 in (r.0, ap (λ l. part_from F.Clerks (Some P.Book) l) h.1 ∙ r.1, refl)
after_runs F.Journal rest h = (P.Journal, ap (λ l. part_from F.Journal (Some P.Book) l) h.1 ∙ calls_run h.0, refl)

shape_runs : (form : Form) (statements : List Statement) → HasShape form statements →
    Ends form (part_after form statements)
shape_runs form statements h =
    let r = after_runs form h.rest h.after in (
      r.0,
      ap (λ l. part_from form (Some P.Book) l) h.cut ∙ run-append form (Some P.Book) h.book h.rest
          ∙ ap (λ p. part_from form p h.rest) (book_runs form h.book h.of_book) ∙ r.1,
      r.2,
    )

-- ---- as the code finds it

-- statements that end in a part begin a session
pub part_begins : (form : Form) (front : List Statement) (p : Part) → part_after form front ≡ Some p → Begins form front
part_begins F.Journal front P.Book e =
    (Journal ∷ [], shape F.Journal (front ++ Journal ∷ []) P.Journal (part_more F.Journal front Journal P.Book e) refl)
part_begins form front p e = ([], subst (HasShape form) (sym (append-nil front)) (shape form front p e refl))

-- they are one, if they lack nothing
pub part_whole : (form : Form) (statements : List Statement) (p : Part) → part_after form statements ≡ Some p →
    lacks_journal form p ≡ false → HasShape form statements
part_whole form statements p e f = shape form statements p e f

one_part : {p q : Part} → Some p ≡ Some q → p ≡ q
one_part e = cc

pub part_lacks : (form : Form) (statements : List Statement) (p : Part) → part_after form statements ≡ Some p →
    lacks_journal form p ≡ true → HasShape form statements → ⊥
part_lacks form statements p e lacks h =
    let r = shape_runs form statements h in
    let same = one_part (sym e ∙ r.1) in
    let no : true ≡ false = sym lacks ∙ ap (lacks_journal form) same ∙ r.2 in absurd cc

-- statements that end in no part begin none
pub part_stops : (form : Form) (front : List Statement) → part_after form front ≡ None → Begins form front → ⊥
part_stops form front e h =
    let r = shape_runs form (front ++ h.0) h.1 in
    none_ends form h.0 r.0 (ap (λ p. part_from form p h.0) (sym e) ∙ sym (run-append form (Some P.Book) front h.0) ∙ r.1)

-- ---- statements in front of others

pub begins_front : (form : Form) (front more : List Statement) → Begins form (front ++ more) → Begins form front
begins_front form front more h = (more ++ h.0, subst (HasShape form) (append_assoc front more h.0) h.1)
