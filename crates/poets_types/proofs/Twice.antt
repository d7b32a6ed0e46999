-- Names that are declared, statement by statement.
use Rattle.std.proofs.Common.{◌≡◌, ℕ, ◌+◌, ◌<◌, Bool, List, [], ◌∷◌, ◌++◌, length, take, drop, get_or, refl, ap, ◌∙◌}
use Rattle.std.proofs.Math.Path.{fun_ext}
use Rattle.std.proofs.lemmas.List.{take_more, drop_more, map-append}
use Rattle.poets_value.specs.declared.value.Name.{Name}
use Rattle.poets_syntax.specs.TypeOf.{Verdict}
use Rattle.poets_syntax.specs.Typed.{is_among, check_new}
use Rattle.poets_command.specs.declared.statement.Statement.{Statement}
use Rattle.poets_command.specs.Statements.{statement_of, statements_of}
use Rattle.poets_command.specs.Declarations.{names_declared}
use Rattle.poets_command.specs.Plain.{TypeFault}
use Rattle.poets_command.specs.TypedStatements.{or_else, twice_from}
use Rattle.poets_command.specs.Said as said
use Rattle.poets_types.specs.declared.cause.TypeCause.{TypeCause}
use Rattle.poets_types.specs.declared.cause.TypeCause.TheVariants as C
use Rattle.poets_types.specs.code.Answers.{IsToldBy, IsToldFirst}

-- the names that were declared, and those that the statements declare after them, the newest first
abbrev pub names_before : List said.Statement → List Name → List Name
names_before [] earlier = earlier
names_before (s ∷ statements) earlier = names_before statements (names_declared s ++ earlier)

names_before-push : (statements : List said.Statement) (s : said.Statement) (earlier : List Name) → names_before (statements ++ s ∷ []) earlier ≡ names_declared s ++ names_before statements earlier
names_before-push [] s earlier = refl
names_before-push (t ∷ statements) s earlier = names_before-push statements s (names_declared t ++ earlier)

-- one more statement
pub statements_more : (statements : List Statement) (i : ℕ) (s : Statement) → i < length statements → s ≡ get_or statements i s →
    statements_of (take (i + 1) statements) ≡ statements_of (take i statements) ++ statement_of s ∷ []
statements_more statements i s l e =
    rw (take_more statements i s l, ← e) (map-append statement_of (take i statements) (s ∷ []))

pub names_before-more : (statements : List Statement) (i : ℕ) (s : Statement) → i < length statements → s ≡ get_or statements i s →
    names_before (statements_of (take (i + 1) statements)) [] ≡ names_declared (statement_of s) ++ names_before (statements_of (take i statements)) []
names_before-more statements i s l e =
    ap (λ (ss : List said.Statement). names_before ss []) (statements_more statements i s l e) ∙ names_before-push (statements_of (take i statements)) (statement_of s) []

pub twice_from-more : (statements : List Statement) (i n : ℕ) (s : Statement) (earlier : List Name) → i < length statements → s ≡ get_or statements i s →
    twice_from n earlier (statements_of (drop i statements))
    ≡ or_else (check_new (is_among earlier) [] (names_declared (statement_of s))) n (twice_from (n + 1) (names_declared (statement_of s) ++ earlier) (statements_of (drop (i + 1) statements)))
twice_from-more statements i n s earlier l e = rw (drop_more statements i s l, ← e) refl

-- the same names are in use
pub check_new-same : (used used' : Name → Bool) (names : List Name) → ((x : Name) → used x ≡ used' x) → check_new used [] names ≡ check_new used' [] names
check_new-same used used' names e = ap (λ (u : Name → Bool). check_new u [] names) (fun_ext e)

-- the fault of the statement is the first
pub first_here : (check : Verdict (Unit {0})) (cause : TypeCause) (number : ℕ) (others first : TypeFault) → IsToldBy check cause → first ≡ or_else check number others →
    IsToldFirst first (record { statement = number; cause = cause })
first_here check (C.Twice x) number others first f e = e ∙ ap (λ (k : Verdict (Unit {0})). or_else k number others) f
first_here check (C.Unknown x) number others first f e = e ∙ ap (λ (k : Verdict (Unit {0})). or_else k number others) f
first_here check (C.WrongCount x wanted found) number others first f e = e ∙ ap (λ (k : Verdict (Unit {0})). or_else k number others) f
first_here check (C.WrongType wanted found) number others first f e = e ∙ ap (λ (k : Verdict (Unit {0})). or_else k number others) f
first_here check C.Memory number others first f e = tt
