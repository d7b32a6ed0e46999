use Rattle.std.proofs.Common.{◌≡◌, All, false, sym, subst}
use Rattle.std.proofs.lemmas.List.{take_all}
use Rattle.std.proofs.lemmas.List.Elements.{All-nil, All-more}
use Rattle.poets_command.specs.Statements.{statement_of}
use Rattle.poets_command.specs.declared.statement.Statement.{Statement}
use Rattle.poets_session.specs.code.Checking.{declares}
use Rattle.poets_session.proofs.Cycling.{template_at}
use Rattle.poets_session.proofs.checking.number_of.Goals as goal

pub loop-place-init : goal.loop-place-init
loop-place-init c = let P : Statement → Type 0 = λ s. declares c.args.name (statement_of s) ≡ false in All-nil P

pub returns-then-declares-clause-found : goal.returns-then-declares-clause-found
returns-then-declares-clause-found c =
    template_at c.args.statements.now c.loop-place.place c.index-statements-place.result c.args.name c.loop-place-test.true c.index-statements-place.is (sym c.if-declares.ensures)

pub loop-place-preserved : goal.loop-place-preserved
loop-place-preserved c =
    let P : Statement → Type 0 = λ s. declares c.args.name (statement_of s) ≡ false in
    All-more P c.args.statements.now c.loop-place.place c.index-statements-place.result c.loop-place-test.true c.loop-place.invariant (subst P c.index-statements-place.is (sym c.if-declares.ensures))

pub returns-clause-none : goal.returns-clause-none
returns-clause-none c =
    let P : Statement → Type 0 = λ s. declares c.args.name (statement_of s) ≡ false in
    subst (All P) (take_all c.loop-place.place c.args.statements.now c.loop-place-test.false) c.loop-place.invariant
