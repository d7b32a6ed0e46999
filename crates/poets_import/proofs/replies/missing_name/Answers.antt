use Rattle.serde_json.specs.View.{view}
use Rattle.poets_import.proofs.Told.{found_placed, name_found}
use Rattle.poets_import.proofs.replies.missing_name.Goals as goal

pub returns-clause-told : goal.returns-clause-told
returns-clause-told c = found_placed c.args.names.now c.in_ok-text_at.field-0.now c.find.result c.find.ensures

pub returns-clause-only : goal.returns-clause-only
returns-clause-only c =
    name_found c.args.names.now c.in_ok-text_at.field-0.now (view c.args.value.now) c.find.result c.in_ok-text_at.ensures c.find.ensures
