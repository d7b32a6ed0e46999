-- Free names. An expression binds no name, so each name in it is free.
use Rattle.std.specs.Prelude.{not, List, [], ◌∷◌, ◌++◌, filter, fold, if◌then◌else◌}
use Rattle.std.specs.List.{list_any}
use Rattle.poets_value.specs.declared.value.Name.{Name}
use Rattle.poets_expr.specs.Expression.{Expression, Literal, Undefined, Named, Unary, Make, Binary}
use Rattle.poets_expr.specs.Expression.{If}
use Rattle.poets_expr.specs.Env.{same_name}

-- the names in an expression, in order, each as often as it occurs
abbrev pub names_of : Expression → List Name
names_of (Literal v) = []
names_of (Undefined t) = []
names_of (Named x) = x ∷ []
names_of (Unary o a) = names_of a
names_of (Make a b) = names_of a ++ names_of b
names_of (Binary o a b) = names_of a ++ names_of b
names_of (If a b c) = names_of a ++ names_of b ++ names_of c

-- the names without repeats: of equal ones the first is kept
abbrev pub distinct : List Name → List Name
distinct [] = []
distinct (x ∷ xs) = x ∷ filter (λ y. not (same_name x y)) (distinct xs)

-- each free name once, in the order in which they first occur
abbrev pub free_names_of : Expression → List Name
free_names_of e = distinct (names_of e)

-- the names with one more at the end, unless it is there already
abbrev pub with_name : List Name → Name → List Name
with_name names x = if list_any (λ y. same_name y x) names then names else names ++ x ∷ []

-- the names with more at the end, each unless it is there already
abbrev pub with_names : List Name → List Name → List Name
with_names names more = fold with_name names more
