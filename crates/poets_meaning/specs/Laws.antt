-- The laws of performing, of granted steps, and of replacing names, as statements.
use Rattle.std.specs.Prelude.{◌≡◌, ℕ, ◌+◌, true, List, [], ◌++◌, length, ◌↔◌}
use Rattle.poets_value.specs.declared.event.Event.{Event}
use Rattle.poets_expr.specs.Env.{Env}
use Rattle.poets_expr.specs.Subst.{Givens}
use Rattle.poets_expr.specs.Fold.{KeepsDeclared}
use Rattle.poets_syntax.specs.Contract.{Contract}
use Rattle.poets_syntax.specs.Plain.{Book}
use Rattle.poets_syntax.specs.Applied.{ApplicationsFit}
use Rattle.poets_syntax.specs.Replace.{replace, env_of, AreDeclared, BindersAreUndeclared}
use Rattle.poets_meaning.specs.Perf.{Perf}
use Rattle.poets_meaning.specs.May.{May}
use Rattle.poets_meaning.specs.Shape.{SameShape}
use Rattle.poets_meaning.specs.Marks.{Marks, AreRight, Nullable, Hopeful, nullable}

-- `May` with no granted step is `Perf`
abbrev pub NothingGranted : Type 0
NothingGranted = (book : Book) (env : Env) (c : Contract) (s : List Event) → May book env c s 0 ↔ Perf book env c s

-- where a trace performs a contract, as many granted steps may stand in for its last events
abbrev pub RestGranted : Type 0
RestGranted = (book : Book) (env : Env) (c : Contract) (s rest : List Event) →
    Perf book env c (s ++ rest) → May book env c s (length rest)

-- where a trace and then granted steps may perform a contract, so may granted steps alone, as many
-- as both together
abbrev pub AllGranted : Type 0
AllGranted = (book : Book) (env : Env) (c : Contract) (s : List Event) (n : ℕ) →
    May book env c s n → May book env c [] (length s + n)

-- what granted steps alone perform depends on no environment
abbrev pub GrantedAnywhere : Type 0
GrantedAnywhere = (book : Book) (env env' : Env) (c : Contract) (n : ℕ) → May book env c [] n → May book env' c [] n

-- what granted steps alone perform depends on the shape of the contract alone
abbrev pub GrantedByShape : Type 0
GrantedByShape = (book : Book) (env env' : Env) (c c' : Contract) (n : ℕ) →
    SameShape c c' → May book env c [] n ↔ May book env' c' [] n

-- whether the empty trace performs a contract depends on its shape alone
abbrev pub NullableByShape : Type 0
NullableByShape = (book : Book) (c c' : Contract) → SameShape c c' → Nullable book c ↔ Nullable book c'

-- whether some number of granted steps performs a contract depends on its shape alone
abbrev pub HopefulByShape : Type 0
HopefulByShape = (book : Book) (c c' : Contract) → SameShape c c' → Hopeful book c ↔ Hopeful book c'

-- right marks tell whether the empty trace performs a contract
abbrev pub NullableByMarks : Type 0
NullableByMarks = (book : Book) (marks : Marks) (c : Contract) →
    AreRight book marks → ApplicationsFit book c → (nullable marks c ≡ true) ↔ Nullable book c

-- the traces and granted steps that may perform a contract with its names replaced are those that
-- may perform it where the names have the values that they are replaced by
abbrev pub ReplacedAlike : Type 0
ReplacedAlike = (book : Book) (given : Givens) (env : Env) (c : Contract) (s : List Event) (n : ℕ) →
    AreDeclared book.declared given → KeepsDeclared book.declared env → BindersAreUndeclared book.declared c →
    May book env (replace given c) s n ↔ May book (env_of given ++ env) c s n

-- the traces that perform a contract with its names replaced are those that perform it where the
-- names have the values that they are replaced by
abbrev pub ReplacedPerformed : Type 0
ReplacedPerformed = (book : Book) (given : Givens) (env : Env) (c : Contract) (s : List Event) →
    AreDeclared book.declared given → KeepsDeclared book.declared env → BindersAreUndeclared book.declared c →
    Perf book env (replace given c) s ↔ Perf book (env_of given ++ env) c s
