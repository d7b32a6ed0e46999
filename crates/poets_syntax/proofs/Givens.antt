-- What names are replaced by: the parts of an event, and the values of arguments.
use Rattle.std.proofs.Common.{◌≡◌, List, [], ◌∷◌, ◌++◌, map, refl, ◌∙◌, ap, inl, inr}
use Rattle.std.proofs.lemmas.List.{map-append}
use Rattle.poets_value.specs.declared.event.Event.{Event}
use Rattle.poets_expr.specs.Expression.{Expression}
use Rattle.poets_expr.specs.Env.{Declared}
use Rattle.poets_expr.specs.Val.{val}
use Rattle.poets_expr.specs.Subst.{Givens}
use Rattle.poets_expr.specs.Fold.{HasDeclaredNames}
use Rattle.poets_expr.proofs.FoldClosed.{known-val, IsDeclared-names}
use Rattle.poets_syntax.specs.declared.term.Binders.{Binders}
use Rattle.poets_syntax.specs.declared.term.Param.{Param}
use Rattle.poets_syntax.specs.Book.{parameter_env}
use Rattle.poets_syntax.specs.Replace.{binds, without, env_of, AreDeclared}
use Rattle.poets_syntax.specs.WellFormed.{HaveDeclaredLiterals, IsDeclaredEvent}
use Rattle.poets_syntax.specs.Givens.{event_givens, argument_givens}
use Rattle.poets_syntax.proofs.Replacing.{truth}

-- agents and kinds among the values, also those within resources, are declared as such
abbrev pub HaveDeclaredNames : Declared → Givens → Type 0
HaveDeclaredNames declared [] = Unit {0}
HaveDeclaredNames declared (p ∷ given) = HasDeclaredNames declared p.1.value × HaveDeclaredNames declared given

pub AreDeclared-values : (declared : Declared) (given : Givens) → HaveDeclaredNames declared given → AreDeclared declared given
AreDeclared-values declared [] h = tt
AreDeclared-values declared (p ∷ given) h = (IsDeclared-names declared p.1.value h.0, AreDeclared-values declared given h.1)

declared_append : (declared : Declared) (given more : Givens) → HaveDeclaredNames declared given → HaveDeclaredNames declared more →
    HaveDeclaredNames declared (given ++ more)
declared_append declared [] more h k = k
declared_append declared (p ∷ given) more h k = (h.0, declared_append declared given more h.1 k)

pub HaveDeclaredNames-without : (declared : Declared) (b : Binders) (given : Givens) → HaveDeclaredNames declared given →
    HaveDeclaredNames declared (without b given)
HaveDeclaredNames-without declared b [] h = tt
HaveDeclaredNames-without declared b (p ∷ given) h =
    let rest = HaveDeclaredNames-without declared b given h.1 in
    elim (truth (binds b p.0)) [ inl k ↦ rw k rest | inr k ↦ rw k (h.0, rest) ]

pub HaveDeclaredNames-event : (declared : Declared) (b : Binders) (e : Event) → IsDeclaredEvent declared e →
    HaveDeclaredNames declared (event_givens b e)
HaveDeclaredNames-event declared b e h = (tt, (h.kind, (h.receiver, (h.sender, tt))))

pub HaveDeclaredNames-arguments : (declared : Declared) (params : List Param) (args : List Expression) → HaveDeclaredLiterals declared args →
    HaveDeclaredNames declared (argument_givens declared params args)
HaveDeclaredNames-arguments declared [] [] h = tt
HaveDeclaredNames-arguments declared [] (a ∷ args) h = tt
HaveDeclaredNames-arguments declared (p ∷ params) [] h = tt
HaveDeclaredNames-arguments declared (p ∷ params) (a ∷ args) h =
    declared_append declared (argument_givens declared params args) _ (HaveDeclaredNames-arguments declared params args h.1) (known-val declared a h.0, tt)

-- the values of the arguments make the environment of the parameters
pub env_of-arguments : (declared : Declared) (params : List Param) (args : List Expression) →
    env_of (argument_givens declared params args) ≡ parameter_env params (map (val declared []) args)
env_of-arguments declared [] [] = refl
env_of-arguments declared [] (a ∷ args) = refl
env_of-arguments declared (p ∷ params) [] = refl
env_of-arguments declared (p ∷ params) (a ∷ args) =
    map-append (λ q. (q.0, q.1.value)) (argument_givens declared params args) _
    ∙ ap (λ env. env ++ (p.name, val declared [] a) ∷ []) (env_of-arguments declared params args)
