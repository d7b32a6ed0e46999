use Rattle.std.proofs.Common.{◌≡◌, ◌≤◌, length, sym, ◌∙◌, ap, subst}
use Rattle.poets_value.specs.Limits.{longest_text}
use Rattle.poets_command.specs.Calls.{history_of}
use Rattle.poets_demo.specs.Line.{demo_line}
use Rattle.poets_demo.specs.Text.{demo_text}
use Rattle.poets_session.specs.declared.form.Form.TheVariants as F
use Rattle.poets_session.specs.Sessions.{IsSession}
use Rattle.poets_making.proofs.Fewness.{scripts_few-held}
use Rattle.poets_top.proofs.Owning.{IsHistoryOf-read}
use Rattle.poets_making.proofs.Taking.{session_taken, session_whole}
use Rattle.poets_top.proofs.demonstrating.demonstration.Goals as goal

pub read-requires : goal.read-requires
read-requires g c = subst (λ t. length t ≤ longest_text) (sym c.as_bytes.ensures.value) c.in_ok-text.ensures.short

pub make_scripts-requires-clause-whole : goal.make_scripts-requires-clause-whole
make_scripts-requires-clause-whole g c = λ _ _. let found = c.in-Ok.ensures.session in session_whole c.as_bytes.result.now found.0 c.in-Ok.session found.1 found.2

pub make_scripts-requires-clause-taken : goal.make_scripts-requires-clause-taken
make_scripts-requires-clause-taken g c = λ _ _. let found = c.in-Ok.ensures.session in session_taken c.as_bytes.result.now found.0 c.in-Ok.session found.1 found.2

pub make_scripts-requires-clause-few : goal.make_scripts-requires-clause-few
make_scripts-requires-clause-few g c = λ _ _. let found = c.in-Ok.ensures.session in scripts_few-held F.Clerks found.0 c.in-Ok.session.scripts.items found.1.valid.placed found.2.scripts

pub returns : goal.returns
returns g c =
    let found = c.in-Ok.ensures.session in
    let text : c.as_bytes.result.now ≡ demo_text c.args.sales = c.as_bytes.ensures.value ∙ c.in_ok-text.ensures.text in
    record {
      names = c.in-Ok.session.names;
      statements = found.0;
      session = subst (λ t. IsSession t F.Clerks c.in-Ok.session.names found.0) text found.1;
      history = IsHistoryOf-read found.0 c.in-Ok.session (history_of c.in_ok-history.history.items) found.2 c.in_ok-history.ensures.right c.in_ok-history.ensures.scripts;
      line_is = c.in_ok-line.ensures ∙ ap (λ es. demo_line c.args.sales (history_of es)) c.as_slice.ensures;
    }
