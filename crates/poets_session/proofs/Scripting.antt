-- The scripts and the journal of statements, one statement after the other.
use Rattle.std.proofs.Common.{◌≡◌, ◌≢◌, ℕ, ◌<◌, ◌≤◌, List, [], ◌∷◌, ◌++◌, All, length, drop, get_or, refl, sym, ap, subst, ◌∙◌, arith}
use Rattle.std.specs.Prelude.{◌^◌, count_by, cond}
use Rattle.std.specs.List.{onto_first}
use Rattle.std.specs.Arc.{arc_value}
use Rattle.std.specs.declared.alloc.Global.{Global}
use Rattle.std.specs.declared.sync.Arc.{Arc}
use Rattle.std.proofs.lemmas.List.{map-append, length-map, get_or-map}
use Rattle.std.proofs.lemmas.List.Elements.{All-weaker}
use Rattle.std.proofs.lemmas.List.Sums.{sum_by-cons}
use Rattle.poets_value.specs.Limits.{most_clerks}
use Rattle.poets_value.specs.Listed.{Listed}
use Rattle.poets_command.specs.declared.call.Command.{Command as CodeCommand}
use Rattle.poets_command.specs.Plain as plain
use Rattle.poets_command.specs.Calls.{command_of}
use Rattle.poets_command.specs.Said.{Clerk, Command, Numbered}
use Rattle.poets_command.specs.Statements.{statement_of, statements_of}
use Rattle.poets_command.specs.declared.statement.Statement.{Statement}
use Rattle.poets_command.specs.declared.statement.Statement.TheVariants as S
use Rattle.poets_command.specs.Said as said
use Rattle.poets_session.specs.declared.form.Form.{Form}
use Rattle.poets_session.specs.Places.{is_clerk, HasClerk, ArePlaced}
use Rattle.poets_session.specs.code.Scripts.{HasShortNumber}
use Rattle.poets_session.specs.Sessions.{commands_ahead, scripts_of, commands_in, numbered_call}

-- the lists, with a command at the end of the last
abbrev pub onto_last : plain.Command → List (List plain.Command) → List (List plain.Command)
onto_last r [] = []
onto_last r (script ∷ []) = (script ++ r ∷ []) ∷ []
onto_last r (script ∷ next ∷ scripts) = script ∷ onto_last r (next ∷ scripts)

pub onto_last-append : (r : plain.Command) (scripts : List (List plain.Command)) (script : List plain.Command) → onto_last r (scripts ++ script ∷ []) ≡ scripts ++ (script ++ r ∷ []) ∷ []
onto_last-append r [] script = refl
onto_last-append r (s ∷ []) script = refl
onto_last-append r (s ∷ t ∷ scripts) script = ap (λ l. s ∷ l) (onto_last-append r (t ∷ scripts) script)

-- the lists, with what one more statement adds to them
abbrev pub lists_with : said.Statement → List (List plain.Command) → List (List plain.Command)
lists_with Clerk lists = lists ++ [] ∷ []
lists_with (Command r) lists = onto_last r lists
lists_with s lists = lists

lists_with-first : (s : said.Statement) (q : plain.Command) (list : List plain.Command) (lists : List (List plain.Command)) → onto_first q (lists_with s (list ∷ lists)) ≡ lists_with s ((q ∷ list) ∷ lists)
lists_with-first (Command r) q list [] = refl
lists_with-first (Command r) q list (next ∷ lists) = refl
lists_with-first s q list lists = refl

lists_with-next : (s : said.Statement) (first list : List plain.Command) (lists : List (List plain.Command)) → first ∷ lists_with s (list ∷ lists) ≡ lists_with s (first ∷ list ∷ lists)
lists_with-next Clerk first list lists = refl
lists_with-next s first list lists = refl

drop-lists_with : (s : said.Statement) (list : List plain.Command) (lists : List (List plain.Command)) → drop 1 (lists_with s (list ∷ lists)) ≡ lists_with s lists
drop-lists_with (Command r) list [] = refl
drop-lists_with (Command r) list (next ∷ lists) = refl
drop-lists_with s list lists = refl

-- the commands ahead of the first `clerk`, and the scripts
abbrev lists_of : List said.Statement → List (List plain.Command)
lists_of statements = commands_ahead statements ∷ scripts_of statements

lists_of-push : (before : List said.Statement) (s : said.Statement) → lists_of (before ++ s ∷ []) ≡ lists_with s (lists_of before)
lists_of-push [] Clerk = refl
lists_of-push [] s = refl
lists_of-push (Clerk ∷ before) s = ap (λ l. [] ∷ l) (lists_of-push before s) ∙ lists_with-next s [] (commands_ahead before) (scripts_of before)
lists_of-push (Command q ∷ before) s = ap (onto_first q) (lists_of-push before s) ∙ lists_with-first s q (commands_ahead before) (scripts_of before)
lists_of-push (t ∷ before) s = lists_of-push before s

pub scripts_of-push : (before : List said.Statement) (s : said.Statement) → scripts_of (before ++ s ∷ []) ≡ lists_with s (scripts_of before)
scripts_of-push before s = ap (drop 1) (lists_of-push before s) ∙ drop-lists_with s (commands_ahead before) (scripts_of before)

-- ---- the lists of the code

pub script_more : (before : List said.Statement) (c : Arc CodeCommand Global) (old new front : List (Listed (Arc CodeCommand Global))) (script longer : Listed (Arc CodeCommand Global)) →
    commands_in old ≡ scripts_of before → old ≡ front ++ script ∷ [] → longer.items ≡ script.items ++ c ∷ [] → new ≡ front ++ longer ∷ [] →
    commands_in new ≡ scripts_of (before ++ Command (command_of (arc_value c)) ∷ [])
script_more before c old new front script longer e some more pushed = simp (scripts_of-push, sym e, some, pushed, map-append, more, onto_last-append)

pub no_script : (before : List said.Statement) (r : plain.Command) (old new : Listed (Listed (Arc CodeCommand Global))) → commands_in old.items ≡ scripts_of before → (old.items ≡ []) × (new ≡ old) → commands_in new.items ≡ scripts_of (before ++ Command r ∷ [])
no_script before r old new e none = simp (scripts_of-push, sym e, none.1, none.0)

pub script_new : (before : List said.Statement) (old new : List (Listed (Arc CodeCommand Global))) (script : Listed (Arc CodeCommand Global)) →
    commands_in old ≡ scripts_of before → script.items ≡ [] → new ≡ old ++ script ∷ [] → commands_in new ≡ scripts_of (before ++ Clerk ∷ [])
script_new before old new script e empty pushed = simp (scripts_of-push, sym e, pushed, map-append, empty)

pub scripts_kept : (before : List said.Statement) (s : Statement) → s ≢ S.Clerk → ((c : CodeCommand) → s ≢ S.Command c) → scripts_of (before ++ statement_of s ∷ []) ≡ scripts_of before
scripts_kept before S.Clerk clerk command = absurd (clerk refl)
scripts_kept before (S.Command c) clerk command = absurd (command c refl)
scripts_kept before s clerk command = scripts_of-push before (statement_of s)

pub no_call : (s : Statement) → ((n : ℕ) (c : CodeCommand) → s ≢ S.Numbered n c) → numbered_call (statement_of s) ≡ []
no_call (S.Numbered n c) numbered = absurd (numbered n c refl)
no_call s numbered = refl

-- ---- the numbers of the clerks

-- the statement at a place has a short number
pub number_at : (l : List Statement) (i : ℕ) (s : Statement) → (i < length l) × (s ≡ get_or l i s) → All HasShortNumber (statements_of l) → HasShortNumber (statement_of s)
number_at l i s h all =
    let inside : i < length (statements_of l) = rw length-map h.0 in
    subst HasShortNumber (get_or-map statement_of l i s (statement_of s) h.0 ∙ ap statement_of (sym h.1)) (all i (statement_of s) inside)

number_fits : (s : said.Statement) → HasClerk s → HasShortNumber s
number_fits (Numbered clerk r) h = let short : clerk < 2 ^ 32 = omega (arith, h.1) in short
number_fits s h = tt

-- statements that stand in their places have short numbers
pub numbers_fit : (form : Form) (statements : List said.Statement) → ArePlaced form statements → All HasShortNumber statements
numbers_fit form statements placed = All-weaker HasClerk HasShortNumber number_fits statements placed.limits.numbers

-- ---- how many there are

-- one script for each `clerk`
scripts_counted : (statements : List said.Statement) → length (scripts_of statements) ≡ count_by is_clerk statements
scripts_counted [] = omega arith
scripts_counted (Clerk ∷ statements) =
    omega (arith, scripts_counted statements, sum_by-cons (λ (x : said.Statement). cond (is_clerk x) 1 0) Clerk statements)
scripts_counted (s ∷ statements) =
    omega (arith, scripts_counted statements, sum_by-cons (λ (x : said.Statement). cond (is_clerk x) 1 0) s statements)

-- statements that stand in their places have no more scripts than clerks may be
pub scripts_few : (form : Form) (statements : List said.Statement) → ArePlaced form statements → length (scripts_of statements) ≤ most_clerks
scripts_few form statements placed = omega (arith, placed.limits.clerks, scripts_counted statements)
