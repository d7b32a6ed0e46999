-- Contracts that are the same but for the order of parallel parts.
use Rattle.std.specs.Prelude.{Bool, true, false, ◌&&◌, List, [], ◌∷◌, ◌++◌, if◌then◌else◌}
use Rattle.std.specs.List.{list_any}
use Rattle.poets_value.specs.declared.value.Name.{Name}
use Rattle.poets_expr.specs.Expression.{Expression}
use Rattle.poets_expr.specs.Env.{same_name}
use Rattle.poets_expr.specs.Same.{same}
use Rattle.poets_syntax.specs.declared.term.Binders.{Binders}
use Rattle.poets_syntax.specs.Contract.{Contract}
use Rattle.poets_syntax.specs.Contract as C
use Rattle.poets_syntax.specs.Same.{same_binders, same_args}
use Rattle.poets_meaning.specs.Between.{Between}

-- the parts of a `||` are those of its first contract, then those of its second; every other form
-- is its own one part
abbrev pub parts : Contract → List Contract
parts (C.Par a b) = parts a ++ parts b
parts C.Success = C.Success ∷ []
parts C.Failure = C.Failure ∷ []
parts (C.Transmit b p c) = C.Transmit b p c ∷ []
parts (C.Plus a b) = C.Plus a b ∷ []
parts (C.Seq a b) = C.Seq a b ∷ []
parts (C.App f args) = C.App f args ∷ []

mutual
  -- of one form, with the same binders, predicate, name and arguments, and with alike contracts
  -- below; two `||` have parts that are alike in some order
  pub data Alike : Contract → Contract → Type 0 where
    Success : Alike C.Success C.Success
    Failure : Alike C.Failure C.Failure
    Transmit : {b : Binders} {p : Expression} {c d : Contract} → Alike c d → Alike (C.Transmit b p c) (C.Transmit b p d)
    Plus : {a b c d : Contract} → Alike a c → Alike b d → Alike (C.Plus a b) (C.Plus c d)
    Par : {a b c d : Contract} → AreAlike (parts (C.Par a b)) (parts (C.Par c d)) → Alike (C.Par a b) (C.Par c d)
    Seq : {a b c d : Contract} → Alike a c → Alike b d → Alike (C.Seq a b) (C.Seq c d)
    App : {f : Name} {args : List Expression} → Alike (C.App f args) (C.App f args)

  -- the second list can be put in an order in which its contracts are alike to those of the first,
  -- one by one
  pub data AreAlike : List Contract → List Contract → Type 0 where
    None : AreAlike [] []
    One :
        {c d : Contract} {cs ds rest : List Contract} →
        Alike c d → Between (d ∷ []) rest ds → AreAlike cs rest → AreAlike (c ∷ cs) ds

-- the list without the first contract that passes the test
abbrev pub without_first : (Contract → Bool) → List Contract → List Contract
without_first test [] = []
without_first test (c ∷ cs) = if test c then cs else c ∷ without_first test cs

-- each test takes the first contract that passes it and that no earlier test took; no test and no
-- contract is left over
abbrev pub pass : (tests : List (Contract → Bool)) → List Contract → Bool
pass [] [] = true
pass [] (c ∷ cs) = false
pass (test ∷ tests) cs = list_any test cs && pass tests (without_first test cs)

-- the parts of the contract pass the tests
abbrev pub parts_pass : (tests : List (Contract → Bool)) → Contract → Bool
parts_pass tests c = pass tests (parts c)

-- the test for each form, from the tests for the contracts below it
abbrev pub is_success : Contract → Bool
is_success C.Success = true
is_success _ = false

abbrev pub is_failure : Contract → Bool
is_failure C.Failure = true
is_failure _ = false

abbrev pub is_transmit : Binders → Expression → (below : Contract → Bool) → Contract → Bool
is_transmit b p below (C.Transmit d q c) = same_binders b d && same p q && below c
is_transmit b p below _ = false

abbrev pub is_plus : (first second : Contract → Bool) → Contract → Bool
is_plus first second (C.Plus a b) = first a && second b
is_plus first second _ = false

abbrev pub is_seq : (first second : Contract → Bool) → Contract → Bool
is_seq first second (C.Seq a b) = first a && second b
is_seq first second _ = false

abbrev pub is_app : Name → List Expression → Contract → Bool
is_app f args (C.App g others) = same_name f g && same_args args others
is_app f args _ = false

-- for each part of a contract, the test whether another contract is alike to it
abbrev pub tests : Contract → List (Contract → Bool)
tests C.Success = is_success ∷ []
tests C.Failure = is_failure ∷ []
tests (C.Transmit b p c) = is_transmit b p (parts_pass (tests c)) ∷ []
tests (C.Plus a b) = is_plus (parts_pass (tests a)) (parts_pass (tests b)) ∷ []
tests (C.Par a b) = tests a ++ tests b
tests (C.Seq a b) = is_seq (parts_pass (tests a)) (parts_pass (tests b)) ∷ []
tests (C.App f args) = is_app f args ∷ []

-- the test whether two contracts are alike
abbrev pub alike : Contract → Contract → Bool
alike c d = parts_pass (tests c) d
