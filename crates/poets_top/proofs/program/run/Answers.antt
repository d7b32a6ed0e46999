use Rattle.std.proofs.Common.{map, refl, ap}
use Rattle.std.specs.Prelude.{string_bytes}
use Rattle.poets_command.specs.Calls.{history_of}
use Rattle.poets_top.specs.Runs.{Ends}
use Rattle.poets_writing.specs.Writing.{stream}
use Rattle.poets_words.specs.declared.mode.Mode.TheVariants as M
use Rattle.poets_words.specs.declared.mode.Task.TheVariants as T
use Rattle.poets_top.proofs.Endings.{asked_of, Ends-asked, Ends-explained, Ends-exported, Ends-nothing, Ends-replayed, Ends-run, Ends-shown, Ends-status}
use Rattle.poets_top.proofs.program.run.Goals as goal

pub returns-in_default-clause-ends : goal.returns-in_default-clause-ends
returns-in_default-clause-ends g c = λ mode asks.
    Ends-nothing _ _ _ _ c.without_history.result.status _ mode refl refl c.without_history.ensures.status (ap history_of c.without_history.ensures.history)

pub returns-in-Read-clause-ends : goal.returns-in-Read-clause-ends
returns-in-Read-clause-ends g c = λ mode asks.
    let words = map string_bytes c.args.words.now in
    let asked = asked_of words c.in-Ok.found c.in-Some.mode (M.Read c.in-Read.task) c.in-Some.is c.in-Read.is c.in-Ok.ensures.some in
    Ends-asked _ _ _ _ _ _ words (M.Read c.in-Read.task) mode asked asks (Ends.OfTask c.read_and_answer.ensures.ends)

pub returns-in-Read-clause-has_run : goal.returns-in-Read-clause-has_run
returns-in-Read-clause-has_run g c = λ asks zero.
    let words = map string_bytes c.args.words.now in
    let asked = asked_of words c.in-Ok.found c.in-Some.mode (M.Read c.in-Read.task) c.in-Some.is c.in-Read.is c.in-Ok.ensures.some in
    Ends-run _ _ _ _ _ _ zero (Ends-asked _ _ _ _ _ _ words (M.Read c.in-Read.task) (M.Read T.Run) asked asks (Ends.OfTask c.read_and_answer.ensures.ends))

pub returns-in-Read-clause-has_replayed : goal.returns-in-Read-clause-has_replayed
returns-in-Read-clause-has_replayed g c = λ asks zero.
    let words = map string_bytes c.args.words.now in
    let asked = asked_of words c.in-Ok.found c.in-Some.mode (M.Read c.in-Read.task) c.in-Some.is c.in-Read.is c.in-Ok.ensures.some in
    Ends-replayed _ _ _ _ _ _ zero (Ends-asked _ _ _ _ _ _ words (M.Read c.in-Read.task) (M.Read T.Replay) asked asks (Ends.OfTask c.read_and_answer.ensures.ends))

pub returns-in-Read-clause-has_explained : goal.returns-in-Read-clause-has_explained
returns-in-Read-clause-has_explained g c = λ name asks zero.
    let words = map string_bytes c.args.words.now in
    let asked = asked_of words c.in-Ok.found c.in-Some.mode (M.Read c.in-Read.task) c.in-Some.is c.in-Read.is c.in-Ok.ensures.some in
    Ends-explained _ _ _ _ _ _ name zero (Ends-asked _ _ _ _ _ _ words (M.Read c.in-Read.task) (M.Read (T.Explain name)) asked asks (Ends.OfTask c.read_and_answer.ensures.ends))

pub returns-in-Read-clause-has_exported : goal.returns-in-Read-clause-has_exported
returns-in-Read-clause-has_exported g c = λ asks zero.
    let words = map string_bytes c.args.words.now in
    let asked = asked_of words c.in-Ok.found c.in-Some.mode (M.Read c.in-Read.task) c.in-Some.is c.in-Read.is c.in-Ok.ensures.some in
    Ends-exported _ _ _ _ _ _ zero (Ends-asked _ _ _ _ _ _ words (M.Read c.in-Read.task) (M.Read T.Export) asked asks (Ends.OfTask c.read_and_answer.ensures.ends))

pub returns-in-Read-clause-status : goal.returns-in-Read-clause-status
returns-in-Read-clause-status g c = λ mode wanted asks deserved faultless.
    let words = map string_bytes c.args.words.now in
    let asked = asked_of words c.in-Ok.found c.in-Some.mode (M.Read c.in-Read.task) c.in-Some.is c.in-Read.is c.in-Ok.ensures.some in
    Ends-status _ _ _ _ _ _ wanted deserved faultless (Ends-asked _ _ _ _ _ _ words (M.Read c.in-Read.task) mode asked asks (Ends.OfTask c.read_and_answer.ensures.ends))

pub returns-in-Demo-clause-ends : goal.returns-in-Demo-clause-ends
returns-in-Demo-clause-ends g c = λ mode asks.
    let words = map string_bytes c.args.words.now in
    let asked = asked_of words c.in-Ok.found c.in-Some.mode (M.Demo c.in-Demo.sales) c.in-Some.is c.in-Demo.is c.in-Ok.ensures.some in
    Ends-asked _ _ _ _ _ _ words (M.Demo c.in-Demo.sales) mode asked asks (Ends.OfDemo refl c.demonstrate.ensures)

pub returns-in-Demo-clause-has_demonstrated : goal.returns-in-Demo-clause-has_demonstrated
returns-in-Demo-clause-has_demonstrated g c = λ sales asks.
    let words = map string_bytes c.args.words.now in
    let asked = asked_of words c.in-Ok.found c.in-Some.mode (M.Demo c.in-Demo.sales) c.in-Some.is c.in-Demo.is c.in-Ok.ensures.some in
    let source = stream (g.S.Source.left c.args.source.now) (g.S.Source.faults c.args.source.now) in
    (refl, λ zero. Ends-shown source source _ _ _ _ zero (Ends-asked source source _ _ _ _ words (M.Demo c.in-Demo.sales) (M.Demo sales) asked asks (Ends.OfDemo refl c.demonstrate.ensures)))

pub returns-in-Demo-clause-status : goal.returns-in-Demo-clause-status
returns-in-Demo-clause-status g c = λ mode wanted asks deserved faultless.
    let words = map string_bytes c.args.words.now in
    let asked = asked_of words c.in-Ok.found c.in-Some.mode (M.Demo c.in-Demo.sales) c.in-Some.is c.in-Demo.is c.in-Ok.ensures.some in
    Ends-status _ _ _ _ _ _ wanted deserved faultless (Ends-asked _ _ _ _ _ _ words (M.Demo c.in-Demo.sales) mode asked asks (Ends.OfDemo refl c.demonstrate.ensures))
