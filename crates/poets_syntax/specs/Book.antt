-- Books of templates, and the environments that an application and a transmit make.
use Rattle.std.specs.Prelude.{List, [], ◌∷◌, ◌++◌, map, Option, Some, None, if◌then◌else◌}
use Rattle.poets_value.specs.declared.value.Name.{Name}
use Rattle.poets_value.specs.declared.event.Event.{Event}
use Rattle.poets_value.specs.declared.value.Value.{Value}
use Rattle.poets_value.specs.declared.value.Value.TheVariants as V
use Rattle.poets_expr.specs.Env.{Env, declared_of, same_name}
use Rattle.poets_syntax.specs.declared.term.Binders.{Binders}
use Rattle.poets_syntax.specs.declared.term.Param.{Param}
use Rattle.poets_syntax.specs.declared.term.Template.{Template}
use Rattle.poets_syntax.specs.declared.term.Book.{Book}
use Rattle.poets_syntax.specs.Contract.{contract_of}
use Rattle.poets_syntax.specs.Plain as plain

-- a `Template` as plain data
abbrev pub template_of : Template → plain.Template
template_of t = record { name = t.name; params = t.params.items; body = contract_of t.body }

-- a `Book` as plain data
abbrev pub book_of : Book → plain.Book
book_of b = record { declared = declared_of b.decls.names; templates = map template_of b.templates.items }

-- the first template of that name
abbrev pub template_in : List plain.Template → Name → Option plain.Template
template_in [] f = None
template_in (t ∷ ts) f = if same_name t.name f then Some t else template_in ts f

-- the environment of the parameters alone: each has its value, and a later one is the newer pair
abbrev pub parameter_env : List Param → List (Option Value) → Env
parameter_env (p ∷ params) (v ∷ values) = parameter_env params values ++ (p.name, v) ∷ []
parameter_env _ _ = []

-- what the four binders of a transmit stand for
pub record BinderValues : Type 0 where
  pub sender : Option Value
  pub receiver : Option Value
  pub what : Option Value
  pub day : Option Value

-- what the binders stand for where they take an event: its parts
abbrev pub values_of : Event → BinderValues
values_of e = record {
  sender = Some (V.Agent e.sender);
  receiver = Some (V.Agent e.receiver);
  what = Some (V.Resource e.what);
  day = Some (V.Day e.day);
}

-- what the binders stand for in a granted step: each of them is undefined
abbrev pub undefined_values : BinderValues
undefined_values = record { sender = None; receiver = None; what = None; day = None }

-- the environment below a transmit: its four binders are the newest pairs
abbrev pub bound : Binders → BinderValues → Env → Env
bound b v env = (b.day, v.day) ∷ (b.what, v.what) ∷ (b.receiver, v.receiver) ∷ (b.sender, v.sender) ∷ env

-- the environment below a transmit that has taken an event
abbrev pub taken : Binders → Event → Env → Env
taken b e env = bound b (values_of e) env

-- the environment below a transmit that was granted
abbrev pub granted : Binders → Env → Env
granted b env = bound b undefined_values env
