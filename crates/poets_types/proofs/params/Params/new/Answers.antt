use Rattle.std.proofs.Common.{◌≡◌, None, true, false, take, get_or, ◌∙◌, arith}
use Rattle.std.specs.Prelude.{◌||◌, is_some}
use Rattle.poets_value.specs.declared.value.Ty.TheVariants as T
use Rattle.poets_syntax.specs.TypeOf.{type_in}
use Rattle.poets_syntax.specs.Typed.{in_use, scope_of}
use Rattle.poets_types.specs.code.Indices.{book_in, reports_in}
use Rattle.poets_types.proofs.Binders.{new_param_more}
use Rattle.poets_types.proofs.Scopes.{type_in_more}
use Rattle.poets_types.proofs.params.Params.new.Goals as goal

pub returns-then-is_used-clause-fault : goal.returns-then-is_used-clause-fault
returns-then-is_used-clause-fault c =
    let used = in_use (book_in c.args.index.now) (reports_in c.args.index.now) in
    let i = c.loop-param.param-index in
    let p = get_or c.args.list.now i (record { name = record { id = 0 }; ty = T.Int }) in
    let taken : (used p.name || is_some (type_in (λ _. None) (scope_of (take i c.args.list.now)) p.name)) ≡ true = grind arith in
    c.loop-param.invariant.rest ∙ rw taken at (new_param_more used c.args.list.now i (record { name = record { id = 0 }; ty = T.Int }) c.loop-param-test.true)

pub returns-then-not-branch-clause-fault : goal.returns-then-not-branch-clause-fault
returns-then-not-branch-clause-fault c =
    let used = in_use (book_in c.args.index.now) (reports_in c.args.index.now) in
    let i = c.loop-param.param-index in
    let p = get_or c.args.list.now i (record { name = record { id = 0 }; ty = T.Int }) in
    let taken : (used p.name || is_some (type_in (λ _. None) (scope_of (take i c.args.list.now)) p.name)) ≡ true = grind (arith, c.loop-param.invariant.types p.name) in
    c.loop-param.invariant.rest ∙ rw taken at (new_param_more used c.args.list.now i (record { name = record { id = 0 }; ty = T.Int }) c.loop-param-test.true)

pub loop-param-preserved : goal.loop-param-preserved
loop-param-preserved c =
    let used = in_use (book_in c.args.index.now) (reports_in c.args.index.now) in
    let i = c.loop-param.param-index in
    let p = get_or c.args.list.now i (record { name = record { id = 0 }; ty = T.Int }) in
    let free : (used p.name || is_some (type_in (λ _. None) (scope_of (take i c.args.list.now)) p.name)) ≡ false = grind (arith, c.loop-param.invariant.types p.name) in
    record {
      rest = c.loop-param.invariant.rest ∙ rw free at (new_param_more used c.args.list.now i (record { name = record { id = 0 }; ty = T.Int }) c.loop-param-test.true);
      types = λ q. let kept = c.loop-param.invariant.types q in let more = type_in_more c.args.list.now i (record { name = record { id = 0 }; ty = T.Int }) q c.loop-param-test.true in rw (more, ← kept) (c.in_ok-enter.ensures.names q);
    }
