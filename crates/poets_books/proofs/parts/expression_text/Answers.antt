use Rattle.std.proofs.Common.{◌++◌, ◌∙◌}
use Rattle.std.specs.Prelude.{codes}
use Rattle.poets_expr.specs.Expression.{expression_of}
use Rattle.poets_syntax.specs.declared.term.Binders.{Binders}
use Rattle.poets_print.specs.Texts.{expression_text}
use Rattle.poets_books.proofs.Within.{split_step, one_behind, one_before}
use Rattle.poets_books.proofs.parts.expression_text.Goals as goal

-- the names of a step that is cut up
abbrev binders : Binders
binders = record { sender = record { id = 0 }; receiver = record { id = 0 }; what = record { id = 0 }; day = record { id = 0 } }

pub behind-rest-requires : goal.behind-rest-requires
behind-rest-requires c =
    let names = c.args.names.now in
    let e = expression_of c.args.expr.now in (
      expression_text names e ++ codes ")",
      split_step names binders e c.as_str.result.now c.as_str-2.result.now
          (c.as_str.ensures.value ∙ c.in_ok-step.ensures) (c.as_str-2.ensures.value ∙ c.in_ok-front.ensures),
    )

pub before-text-requires : goal.before-text-requires
before-text-requires c =
    let names = c.args.names.now in
    let e = expression_of c.args.expr.now in
    let split = split_step names binders e c.as_str.result.now c.as_str-2.result.now
    (c.as_str.ensures.value ∙ c.in_ok-step.ensures) (c.as_str-2.ensures.value ∙ c.in_ok-front.ensures) in (
      expression_text names e,
      one_behind c.as_str-2.result.now c.behind-rest.result.now (expression_text names e ++ codes ")")
          c.as_str.result.now split c.behind-rest.ensures,
    )

pub returns : goal.returns
returns c =
    let names = c.args.names.now in
    let e = expression_of c.args.expr.now in
    let split = split_step names binders e c.as_str.result.now c.as_str-2.result.now
    (c.as_str.ensures.value ∙ c.in_ok-step.ensures) (c.as_str-2.ensures.value ∙ c.in_ok-front.ensures) in
    let rest = one_behind c.as_str-2.result.now c.behind-rest.result.now (expression_text names e ++ codes ")")
    c.as_str.result.now split c.behind-rest.ensures in
    let alone = one_before (codes ")") c.before-text.result.now (expression_text names e) c.behind-rest.result.now rest
    c.before-text.ensures in
    c.in_ok-from_str.ensures.ok ∙ alone
