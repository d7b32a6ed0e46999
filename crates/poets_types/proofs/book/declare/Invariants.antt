use Rattle.std.proofs.Common.{◌≡◌, None, map, take}
use Rattle.std.specs.Option.{option_or}
use Rattle.poets_value.specs.declared.value.Name.{Name}
use Rattle.poets_expr.specs.Env.{declared_of}
use Rattle.poets_syntax.specs.TypeOf.{type_in}
use Rattle.poets_types.proofs.book.declare.Given as goal

-- the names so far are declared
abbrev pub invariant-loop-name : goal.invariant-loop-name
invariant-loop-name l =
    (x : Name) → declared_of l.decls.names x ≡ option_or (declared_of l.initial.decls.names x) (type_in (λ _. None) (map (λ y. (y, l.ty)) (take l.name-index l.names)) x)
