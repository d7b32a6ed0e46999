-- Environments and declared names.
use Rattle.std.specs.Prelude.{◌≡◌, All, Bool, nat_eq, List, [], ◌∷◌, Option, Some, None}
use Rattle.std.specs.Prelude.{if◌then◌else◌}
use Rattle.std.specs.BTreeMap.{get, BTreeMap}
use Rattle.poets_value.specs.declared.value.Name.{Name}
use Rattle.poets_value.specs.Names.{name_cmp}
use Rattle.poets_value.specs.declared.value.Ty.{Ty}
use Rattle.poets_value.specs.declared.value.Ty.TheVariants as T
use Rattle.poets_value.specs.declared.value.Value.{Value}
use Rattle.poets_value.specs.declared.value.Value.TheVariants as V

-- what is declared: of each name whether it is an agent or a kind
abbrev pub Declared : Type 0
Declared = Name → Option Ty

-- pairs of a name and a value or "undefined", the newest first
abbrev pub Env : Type 0
Env = List (Name × Option Value)

-- whether two names are one
abbrev pub same_name : Name → Name → Bool
same_name x y = nat_eq x.id y.id

-- a declared name stands for itself
abbrev pub itself : Name → Option Ty → Option Value
itself x None = None
itself x (Some T.Agent) = Some (V.Agent x)
itself x (Some T.Kind) = Some (V.Kind x)
itself x (Some _) = None

-- the newest pair of a name counts; a declared name without a pair stands for itself
abbrev pub value_in : Declared → Env → Name → Option Value
value_in declared [] x = itself x (declared x)
value_in declared (p ∷ env) x = if same_name p.0 x then p.1 else value_in declared env x

-- no pair has a declared name
abbrev pub PairsAreUndeclared : Declared → Env → Type 0
PairsAreUndeclared declared env = All (λ p. declared p.0 ≡ None) env

-- what a table of declared names says
abbrev pub declared_of : BTreeMap Name Ty → Declared
declared_of names x = get name_cmp names x
