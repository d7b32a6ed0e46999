use Rattle.std.proofs.Common.{rules, ◌≡◌, [], map, sym, ◌∙◌, ap, subst, inl, inr}
use Rattle.std.specs.Prelude.{IsTrue, OnOk, ◌↔◌}
use Rattle.poets_expr.specs.Expression.{expression_of}
use Rattle.poets_syntax.specs.Applied.{CountsFit}
use Rattle.poets_syntax.specs.Book.{book_of, template_of}
use Rattle.poets_syntax.specs.Contract.{contract_of, Seq, App}
use Rattle.poets_meaning.specs.Perf.{Perf}
use Rattle.poets_meaning.specs.Studied.{marks_of}
use Rattle.poets_open.specs.Next.{step_of}
use Rattle.poets_open.specs.code.Opened.{added_all, opened_in}
use Rattle.poets_open.proofs.Opened.{plus_listed, par_listed, over_listed, going_listed, over_narrower, told, none_listed, body_listed, body_fits, body_narrower}
use Rattle.poets_open.proofs.opening.+add_open.Goals as goal

pub returns-then-not-may_end : goal.returns-then-not-may_end
returns-then-not-may_end g t c =
    let s = c.args.studied.now in
    let book = book_of s.book in
    let old = map step_of c.args.steps.now.items in
    let new = map step_of c.add_open.new.steps.items in
    let a = contract_of c.in-Seq.a.value in
    let whole = ap contract_of c.in-Seq.is in
    let fits = subst (CountsFit book) whole c.requires.fits in
    let over = told book (marks_of s) c.requires.studied a fits.0 c.may_end.result
    (subst (λ x. IsTrue c.may_end.result ↔ Perf book [] (contract_of x) []) c.deref-in-Seq.ensures c.may_end.ensures) in
    going_listed book (marks_of s) (contract_of c.args.term.now) a (contract_of c.in-Seq.b.value) old new whole (over ∙ c.if-not-may_end.true)
    (subst (λ x. new ≡ added_all old (opened_in s (contract_of x))) c.deref.ensures c.in_ok-add_open-in-Seq.ensures)

pub add_open-requires-in-Seq : goal.add_open-requires-in-Seq
add_open-requires-in-Seq g t c κs within =
    let s = c.args.studied.now in
    let book = book_of s.book in
    let a = contract_of c.in-Seq.a.value in
    let b = contract_of c.deref-in-Seq-2.result.now in
    let whole : contract_of c.args.term.now ≡ Seq a b = ap contract_of c.in-Seq.is ∙ ap (λ x. Seq a (contract_of x)) (sym c.deref-in-Seq-2.ensures) in
    let fits = subst (CountsFit book) whole c.requires.fits in
    let over = told book (marks_of s) c.requires.studied a fits.0 c.may_end.result
    (subst (λ x. IsTrue c.may_end.result ↔ Perf book [] (contract_of x) []) c.deref-in-Seq.ensures c.may_end.ensures) in
    let smaller = over_narrower book (marks_of s) (contract_of c.args.term.now) a b whole (over ∙ c.if-not-may_end.false) in
    (search (rules, smaller), (within, (c.requires.studied, fits.1)))

pub returns-in_default : goal.returns-in_default
returns-in_default g t c =
    let s = c.args.studied.now in
    let args = map expression_of c.in-App.args.items in
    none_listed (book_of s.book) (marks_of s) c.requires.studied (contract_of c.args.term.now) c.in-App.name args (ap contract_of c.in-App.is) c.requires.fits
    (sym c.in_default.ensures.template) (map step_of c.args.steps.now.items)

pub add_open-requires-in-App : goal.add_open-requires-in-App
add_open-requires-in-App g t c κs within =
    let s = c.args.studied.now in
    let here = contract_of c.args.term.now in
    let args = map expression_of c.as_slice.result.now in
    let whole : here ≡ App c.in-App.name args = ap contract_of c.in-App.is ∙ ap (λ xs. App c.in-App.name (map expression_of xs)) (sym c.as_slice.ensures) in
    let template = template_of c.in-Some.template.now in
    let found = sym c.in-Some.ensures.template in
    let d = contract_of c.in_ok-body-in-App.body in
    let body = c.in_ok-body-in-App.ensures in
    let fits = body_fits (book_of s.book) (marks_of s) c.requires.studied here c.in-App.name args whole c.requires.fits template found d body in
    let smaller = body_narrower (book_of s.book) (marks_of s) c.requires.studied here c.in-App.name args whole c.requires.fits template found d body in
    (search (rules, smaller), (within, (c.requires.studied, fits)))

pub returns-else-not-may_end : goal.returns-else-not-may_end
returns-else-not-may_end g t c =
    let s = c.args.studied.now in
    let book = book_of s.book in
    let old = map step_of c.args.steps.now.items in
    let mid = map step_of c.add_open.new.steps.items in
    let new = map step_of c.add_open-in-Seq.new.steps.items in
    let a = contract_of c.in-Seq.a.value in
    let b = contract_of c.in-Seq.b.value in
    let whole = ap contract_of c.in-Seq.is in
    let fits = subst (CountsFit book) whole c.requires.fits in
    let over = told book (marks_of s) c.requires.studied a fits.0 c.may_end.result
    (subst (λ x. IsTrue c.may_end.result ↔ Perf book [] (contract_of x) []) c.deref-in-Seq.ensures c.may_end.ensures) in
    over_listed book (marks_of s) c.add_open-in-Seq.result (contract_of c.args.term.now) a b old mid new whole (over ∙ c.if-not-may_end.false)
    (subst (λ x. mid ≡ added_all old (opened_in s (contract_of x))) c.deref.ensures c.in_ok-add_open-in-Seq.ensures)
    (subst (λ x. OnOk c.add_open-in-Seq.result (new ≡ added_all mid (opened_in s (contract_of x)))) c.deref-in-Seq-2.ensures c.add_open-in-Seq.ensures)

pub returns-in_ok-body-in-App : goal.returns-in_ok-body-in-App
returns-in_ok-body-in-App g t c =
    let s = c.args.studied.now in
    let here = contract_of c.args.term.now in
    let args = map expression_of c.as_slice.result.now in
    let whole : here ≡ App c.in-App.name args = ap contract_of c.in-App.is ∙ ap (λ xs. App c.in-App.name (map expression_of xs)) (sym c.as_slice.ensures) in
    let template = template_of c.in-Some.template.now in
    let found = sym c.in-Some.ensures.template in
    body_listed (book_of s.book) (marks_of s) c.requires.studied here c.in-App.name args whole c.requires.fits template found
    (contract_of c.in_ok-body-in-App.body) c.in_ok-body-in-App.ensures
    c.add_open-in-App.result (map step_of c.args.steps.now.items) (map step_of c.add_open-in-App.new.steps.items) c.add_open-in-App.ensures

pub returns-in_ok-add_open-in-Plus : goal.returns-in_ok-add_open-in-Plus
returns-in_ok-add_open-in-Plus g t c =
    let s = c.args.studied.now in
    let old = map step_of c.args.steps.now.items in
    let mid = map step_of c.add_open-in-Plus.new.steps.items in
    let new = map step_of c.add_open-in-Plus-2.new.steps.items in
    let r = c.add_open-in-Plus-2.result in
    let a = contract_of c.in-Plus.a.value in
    let b = contract_of c.in-Plus.b.value in
    let first = subst (λ x. mid ≡ added_all old (opened_in s (contract_of x))) c.deref-in-Plus.ensures c.in_ok-add_open-in-Plus.ensures in
    let second = subst (λ x. OnOk r (new ≡ added_all mid (opened_in s (contract_of x)))) c.deref-in-Plus-2.ensures c.add_open-in-Plus-2.ensures in
    elim c.in-Plus.is [
      | inl is ↦ plus_listed (book_of s.book) (marks_of s) r (contract_of c.args.term.now) a b old mid new (ap contract_of is) first second
      | inr is ↦ par_listed (book_of s.book) (marks_of s) r (contract_of c.args.term.now) a b old mid new (ap contract_of is) first second
    ]
