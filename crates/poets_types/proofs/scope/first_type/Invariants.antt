use Rattle.std.proofs.Common.{◌≡◌, None, drop}
use Rattle.poets_syntax.specs.TypeOf.{type_in}
use Rattle.poets_syntax.specs.Typed.{scope_of}
use Rattle.poets_types.proofs.scope.first_type.Given as goal

-- the name is none of those so far
abbrev pub invariant-loop-param : goal.invariant-loop-param
invariant-loop-param l = type_in (λ _. None) (scope_of l.names) l.name ≡ type_in (λ _. None) (scope_of (drop l.param-index l.names)) l.name
