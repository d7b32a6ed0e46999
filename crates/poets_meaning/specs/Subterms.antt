-- The subterms of a contract.
use Rattle.std.specs.Prelude.{List, [], ◌∷◌, ◌++◌}
use Rattle.std.specs.Set.{unique_keys}
use Rattle.poets_syntax.specs.Contract.{Contract, Success, Failure, Transmit, Plus, Par, Seq, App}
use Rattle.poets_syntax.specs.Same.{same_contract}

-- the contract itself, and the subterms of the contracts directly below it
abbrev pub subterms : Contract → List Contract
subterms Success = Success ∷ []
subterms Failure = Failure ∷ []
subterms (Transmit b p c) = Transmit b p c ∷ subterms c
subterms (Plus a b) = Plus a b ∷ (subterms a ++ subterms b)
subterms (Par a b) = Par a b ∷ (subterms a ++ subterms b)
subterms (Seq a b) = Seq a b ∷ (subterms a ++ subterms b)
subterms (App f args) = App f args ∷ []

-- the different contracts of a list, each once
abbrev pub different : List Contract → List Contract
different cs = unique_keys same_contract cs
