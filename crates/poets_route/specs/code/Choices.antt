-- Alternatives, and ways of choices.
use Rattle.std.specs.Prelude.{◌≡◌, List, Contains}
use Rattle.poets_value.specs.declared.event.Event.{Event}
use Rattle.poets_expr.specs.Env.{Env}
use Rattle.poets_syntax.specs.Contract.{Contract, Seq}
use Rattle.poets_syntax.specs.Plain.{Book}
use Rattle.poets_calculus.specs.Normal.{alternatives}
use Rattle.poets_norm.specs.code.Grouping.{beside_parts}
use Rattle.poets_way.specs.Way.{Way}
use Rattle.poets_way.specs.Ways.{Ways}

-- the contract is an alternative of the choice
abbrev pub IsAlternative : (choice c : Contract) → Type 0
IsAlternative choice c = Contains (alternatives choice) c

-- a way of the choice is one of an alternative
abbrev pub Chooses : (choice c : Contract) → (from to : Way) → Type 0
Chooses choice c w v = (book : Book) (env : Env) (s : List Event) →
    Ways book env choice s w → IsAlternative choice c × Ways book env c s v

-- a way of an alternative is one of the choice
abbrev pub Embeds : (choice c : Contract) → (from to : Way) → Type 0
Embeds choice c v w = (book : Book) (env : Env) (s : List Event) →
    IsAlternative choice c → Ways book env c s v → Ways book env choice s w

-- no contract with the parts of the second joined to it is the first
abbrev pub HasNoFront : (c second : Contract) → Type 0
HasNoFront c second = (x : Contract) → c ≡ beside_parts x second → ⊥

-- the first is no sequence that ends with the second
abbrev pub HasNoStart : (c second : Contract) → Type 0
HasNoStart c second = (x : Contract) → c ≡ Seq x second → ⊥
