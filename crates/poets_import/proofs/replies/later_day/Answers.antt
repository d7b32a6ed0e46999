use Rattle.serde_json.specs.View.{view}
use Rattle.poets_import.proofs.Told.{day_found}
use Rattle.poets_import.proofs.replies.later_day.Goals as goal

pub returns-clause-only : goal.returns-clause-only
returns-clause-only c =
    day_found c.in_ok-text_at.field-0.now (view c.args.value.now) c.read_day.result c.in_ok-text_at.ensures c.read_day.ensures.found c.read_day.ensures.none
