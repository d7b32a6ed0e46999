use Rattle.std.proofs.Common.{◌≡◌, ◌+◌, [], take, ◌∙◌, sym, subst}
use Rattle.std.specs.BTreeSet.{contains}
use Rattle.std.proofs.Math.Bool.{or_comm}
use Rattle.std.proofs.lemmas.List.Folds.{list_any-append}
use Rattle.poets_value.specs.Names.{name_cmp}
use Rattle.poets_expr.specs.Env.{same_name}
use Rattle.poets_syntax.specs.TypeOf.{Verdict, Passes}
use Rattle.poets_syntax.specs.Typed.{is_among, check_new}
use Rattle.poets_command.specs.Statements.{statement_of, statements_of}
use Rattle.poets_command.specs.Declarations.{names_declared}
use Rattle.poets_types.specs.code.Answers.{IsToldBy}
use Rattle.poets_types.proofs.Twice.{names_before, names_before-more, twice_from-more, check_new-same, first_here}
use Rattle.poets_types.proofs.declared.check_names.Goals as goal

pub returns-in-Err-clause-fault : goal.returns-in-Err-clause-fault
returns-in-Err-clause-fault c =
    let i = c.loop-place.place in
    let s = c.index-statements-place.result in
    let earlier = names_before (statements_of (take i c.args.statements.now)) [] in
    let same = check_new-same (contains name_cmp c.loop-place.seen) (is_among earlier) (names_declared (statement_of s)) c.loop-place.invariant.seen in
    let fault : IsToldBy (check_new (contains name_cmp c.loop-place.seen) [] (names_declared (statement_of s))) c.in-Err.cause = rw c.names_declared.ensures at c.in-Err.ensures.told in
    first_here (check_new (is_among earlier) [] (names_declared (statement_of s))) c.in-Err.cause (i + 1) _ _ (subst (λ (r : Verdict (Unit {0})). IsToldBy r c.in-Err.cause) same fault)
    (c.loop-place.invariant.rest ∙ twice_from-more c.args.statements.now i (i + 1) s earlier c.loop-place-test.true c.index-statements-place.is)

pub loop-place-preserved : goal.loop-place-preserved
loop-place-preserved c =
    let i = c.loop-place.place in
    let s = c.index-statements-place.result in
    let earlier = names_before (statements_of (take i c.args.statements.now)) [] in
    let names = names_declared (statement_of s) in
    let same = check_new-same (contains name_cmp c.loop-place.seen) (is_among earlier) names c.loop-place.invariant.seen in
    let passes : check_new (is_among earlier) [] names ≡ Passes tt = sym same ∙ rw c.names_declared.ensures at c.in_default.ensures.told in
    let before = names_before-more c.args.statements.now i s c.loop-place-test.true c.index-statements-place.is in
    record {
      rest = rw before (c.loop-place.invariant.rest ∙ rw passes at (twice_from-more c.args.statements.now i (i + 1) s earlier c.loop-place-test.true c.index-statements-place.is));
      seen = λ x.
          let kept = c.loop-place.invariant.seen x in
          rw (before, list_any-append (same_name x) names earlier, ← kept) (rw c.names_declared.ensures at (c.in_default.ensures.seen x) ∙ or_comm (contains name_cmp c.loop-place.seen x) (is_among names x));
    }
