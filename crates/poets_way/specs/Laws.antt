-- What ways mean.
use Rattle.std.specs.Prelude.{List}
use Rattle.poets_value.specs.declared.event.Event.{Event}
use Rattle.poets_expr.specs.Env.{Env}
use Rattle.poets_syntax.specs.Contract.{Contract}
use Rattle.poets_syntax.specs.Plain.{Book}
use Rattle.poets_meaning.specs.Perf.{Perf}
use Rattle.poets_way.specs.Way.{Way}
use Rattle.poets_way.specs.Ways.{Ways}

-- where there is a way in which a trace performs a contract (`Ways`), the trace performs the
-- contract (`Perf`)
abbrev pub WaysPerform : Type 0
WaysPerform =
    (book : Book) (env : Env) (c : Contract) (s : List Event) (w : Way) → Ways book env c s w → Perf book env c s

-- where a trace performs a contract (`Perf`), there is a way in which it does (`Ways`)
abbrev pub SomeWay : Type 0
SomeWay =
    (book : Book) (env : Env) (c : Contract) (s : List Event) → Perf book env c s → (w : Way) × Ways book env c s w
