-- Scopes.
use Rattle.std.specs.Prelude.{[], ◌++◌}
use Rattle.poets_syntax.specs.TypeOf as T
use Rattle.poets_syntax.specs.Typed.{scope_of}
use Rattle.poets_types.specs.declared.scope.Scope.{Scope}
use Rattle.poets_types.specs.declared.scope.Scope.TheVariants as S

-- the names in a scope with their types, the innermost first
abbrev pub names_in : Scope → T.Scope
names_in S.Empty = []
names_in (S.Params params) = scope_of params.now.list.now
names_in (S.Inner' params p outer) = scope_of params.now ++ names_in outer
