use Rattle.std.proofs.Common.{List, map, subst}
use Rattle.serde_json.specs.Data.{Data}
use Rattle.serde_json.specs.View.{view}
use Rattle.std.proofs.lemmas.Result.{IfOk-weaker}
use Rattle.poets_command.specs.Statements.{statements_of}
use Rattle.poets_import.specs.code.Spoken.{AreRead, IsBookSaid, IsSentence}
use Rattle.poets_import.proofs.Texts.{array_is, array_items}
use Rattle.poets_import.proofs.book.book_in.Goals as goal

pub returns-clause-said : goal.returns-clause-said
returns-clause-said c =
    let values = c.in-Some.texts.now in
    IfOk-weaker c.statements_in.result
    (λ l. AreRead IsSentence c.args.names.now (map view values) (statements_of l.items) c.statements_in.new.names)
    (λ l. IsBookSaid c.args.names.now (view c.args.value.now) (statements_of l.items) c.statements_in.new.names)
    (λ l read. (map view values, array_is values (view c.args.value.now) c.in-Some.ensures, read))
    c.statements_in.ensures.said

pub returns-clause-none : goal.returns-clause-none
returns-clause-none c = λ e ss after h.
    let values = c.in-Some.texts.now in
    let same = array_items values (view c.args.value.now) h.0 c.in-Some.ensures h.1 in
    c.statements_in.ensures.none e ss after
    (subst (λ (ds : List Data). AreRead IsSentence c.args.names.now ds ss after) same h.2)
