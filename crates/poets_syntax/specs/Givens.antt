-- What names are replaced by: the parts of an event, and the values of arguments.
use Rattle.std.specs.Prelude.{Some, List, [], ◌∷◌, ◌++◌}
use Rattle.poets_value.specs.declared.event.Event.{Event}
use Rattle.poets_value.specs.declared.value.Value.TheVariants as V
use Rattle.poets_value.specs.declared.value.Ty.TheVariants as T
use Rattle.poets_expr.specs.Expression.{Expression}
use Rattle.poets_expr.specs.Env.{Declared}
use Rattle.poets_expr.specs.Val.{val}
use Rattle.poets_expr.specs.Subst.{Givens}
use Rattle.poets_syntax.specs.declared.term.Binders.{Binders}
use Rattle.poets_syntax.specs.declared.term.Param.{Param}

-- the binders of a transmit and the parts of the event that it takes
abbrev pub event_givens : Binders → Event → Givens
event_givens b e =
    (b.day, record { value = Some (V.Day e.day); ty = T.Day }) ∷
    (b.what, record { value = Some (V.Resource e.what); ty = T.Resource }) ∷
    (b.receiver, record { value = Some (V.Agent e.receiver); ty = T.Agent }) ∷
    (b.sender, record { value = Some (V.Agent e.sender); ty = T.Agent }) ∷ []

-- the parameters and the values of the arguments; a later one is the newer pair
abbrev pub argument_givens : Declared → List Param → List Expression → Givens
argument_givens declared (p ∷ params) (a ∷ args) =
    argument_givens declared params args ++ (p.name, record { value = val declared [] a; ty = p.ty }) ∷ []
argument_givens declared _ _ = []
