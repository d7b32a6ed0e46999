-- The laws of alike contracts, as statements.
use Rattle.std.specs.Prelude.{◌≡◌, ℕ, IsTrue, List, ◌↔◌}
use Rattle.poets_value.specs.declared.event.Event.{Event}
use Rattle.poets_expr.specs.Env.{Env}
use Rattle.poets_syntax.specs.Contract.{Contract}
use Rattle.poets_syntax.specs.Plain.{Book}
use Rattle.poets_meaning.specs.Perf.{Perf}
use Rattle.poets_meaning.specs.May.{May}
use Rattle.poets_meaning.specs.Marks.{Marks, nullable}
use Rattle.poets_meaning.specs.Width.{size}
use Rattle.poets_calculus.specs.Alike.{Alike, alike}

-- a contract is alike to itself
abbrev pub AlikeItself : Type 0
AlikeItself = (c : Contract) → Alike c c

-- where the first is alike to the second, the second is alike to the first
abbrev pub AlikeBothWays : Type 0
AlikeBothWays = (c d : Contract) → Alike c d → Alike d c

-- where the first is alike to the second, and the second to the third, the first is alike to the
-- third
abbrev pub AlikeJoined : Type 0
AlikeJoined = (c d e : Contract) → Alike c d → Alike d e → Alike c e

-- the test is true exactly of alike contracts
abbrev pub AlikeByTest : Type 0
AlikeByTest = (c d : Contract) → IsTrue (alike c d) ↔ Alike c d

-- alike contracts may be performed by the same traces and granted steps, in every environment
abbrev pub AlikeMay : Type 0
AlikeMay =
    (book : Book) (env : Env) (c d : Contract) (s : List Event) (n : ℕ) → Alike c d →
    May book env c s n ↔ May book env d s n

-- alike contracts are performed by the same traces
abbrev pub AlikePerformed : Type 0
AlikePerformed =
    (book : Book) (env : Env) (c d : Contract) (s : List Event) → Alike c d →
    Perf book env c s ↔ Perf book env d s

-- of two alike contracts, the marks call both nullable or neither
abbrev pub AlikeNullable : Type 0
AlikeNullable = (marks : Marks) (c d : Contract) → Alike c d → nullable marks c ≡ nullable marks d

-- alike contracts have the same size
abbrev pub AlikeSize : Type 0
AlikeSize = (c d : Contract) → Alike c d → size c ≡ size d
