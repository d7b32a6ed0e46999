use Rattle.poets_session.specs.declared.form.Form.TheVariants as F
use Rattle.poets_stored.proofs.Storing.{sessions_storable}
use Rattle.poets_test_texts.proofs.put.first_text_in.Goals as goal

pub first_text-requires : goal.first_text-requires
first_text-requires c = sessions_storable c.args.text.now F.Clerks c.in-Ok.session c.requires c.in-Ok.ensures.session
