use Rattle.serde_json.specs.View.{view}
use Rattle.poets_import.specs.code.Members.{first_text}
use Rattle.poets_import.proofs.Told.{first_found, found_placed}
use Rattle.poets_import.proofs.answers.first_name.Goals as goal

pub returns-clause-told : goal.returns-clause-told
returns-clause-told c = found_placed c.args.names.now c.in_ok-first_text.field-0.now c.find.result c.find.ensures

pub returns-clause-only : goal.returns-clause-only
returns-clause-only c =
    first_found c.args.names.now c.in_ok-first_text.field-0.now (first_text (view c.args.value.now)) c.find.result c.in_ok-first_text.ensures c.find.ensures
