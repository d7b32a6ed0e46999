-- The fold of a report over events.
use Rattle.std.specs.Prelude.{List, ◌∷◌, Option, fold, filter, option_map}
use Rattle.poets_value.specs.declared.value.Name.{Name}
use Rattle.poets_value.specs.declared.event.Event.{Event}
use Rattle.poets_value.specs.declared.value.Value.{Value}
use Rattle.poets_expr.specs.Env.{Declared, Env}
use Rattle.poets_expr.specs.Expression.{Expression, expression_of}
use Rattle.poets_expr.specs.Val.{val}
use Rattle.poets_syntax.specs.Book.{parameter_env, taken}
use Rattle.poets_report.specs.Keys.{Key, same_key}
use Rattle.poets_report.specs.declared.report.Report.{Report}
use Rattle.poets_report.specs.Plain as plain

-- `Report` as plain data, without boxes
abbrev pub report_of : Report → plain.Report
report_of r = record {
  name = r.name;
  params = r.params.items;
  ty = r.ty;
  start = expression_of r.start;
  carry = r.carry;
  binders = r.binders;
  step = expression_of r.step;
  key = option_map expression_of r.key;
}

-- the environment of a report: its parameters with the values of the arguments
abbrev pub given : plain.Report → List (Option Value) → Env
given q args = parameter_env q.params args

-- what is carried to the first event: the start, under the parameters
abbrev pub start : Declared → plain.Report → List (Option Value) → Option Value
start declared q args = val declared (given q args) q.start

-- what is carried past an event: the step, under the parameters, then what was carried, then the
-- parts of the event as the newest
abbrev pub stage : Declared → plain.Report → List (Option Value) → Option Value → Event → Option Value
stage declared q args carried e = val declared (taken q.binders e ((q.carry, carried) ∷ given q args)) q.step

-- the fold over events from left to right
abbrev pub folded : Declared → plain.Report → List (Option Value) → List Event → Option Value
folded declared q args events = fold (stage declared q args) (start declared q args) events

-- the key on an event, under the parameters and the parts of the event
abbrev pub key_on : Declared → plain.Report → List (Option Value) → Expression → Event → Key
key_on declared q args key e = val declared (taken q.binders e (given q args)) key

-- the events with a key
abbrev pub with_key : (Event → Key) → Key → List Event → List Event
with_key key_of k events = filter (λ e. same_key k (key_of e)) events
