use Rattle.std.proofs.Common.{ℕ, List, subst}
use Rattle.serde_json.specs.View.{view}
use Rattle.poets_import.specs.Phrases.{Says, Sentence}
use Rattle.poets_import.proofs.Texts.{text_is}
use Rattle.poets_import.proofs.book.sentence_in.Goals as goal

pub returns-clause-none : goal.returns-clause-none
returns-clause-none c = λ e s after h.
    c.statement_in.ensures.none e s after
    (subst (λ (t : List ℕ). Says c.args.names.now t (Sentence s) after) (text_is c.in-Some.text.now h.0 (view c.args.value.now) c.in-Some.ensures h.1) h.2)
