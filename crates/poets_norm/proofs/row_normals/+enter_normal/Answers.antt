use Rattle.std.proofs.Common.{◌≡◌, ℕ, ◌+◌, ◌≤◌, arith, map, sym, ◌∙◌, ap, ap₂, subst, sum_by}
use Rattle.std.proofs.lemmas.Result.{IfOk-weaker}
use Rattle.poets_expr.specs.Expression.{expression_of}
use Rattle.poets_syntax.specs.Book.{book_of}
use Rattle.poets_syntax.specs.declared.term.Term.{Term}
use Rattle.poets_syntax.specs.Contract.{Contract, Par, contract_of}
use Rattle.poets_meaning.specs.Arguments.{arguments}
use Rattle.poets_meaning.specs.Studied.{StudiedBook, marks_of}
use Rattle.poets_meaning.specs.Width.{size}
use Rattle.poets_calculus.specs.InStudied.{normal_in}
use Rattle.poets_calculus.specs.Normal.{plus, par, normal}
use Rattle.poets_cons.specs.Table.{contract_at, Stands}
use Rattle.poets_cons.proofs.Reaching.{one_ok}
use Rattle.poets_cons.proofs.Standing.{contract_at-later, extends_twice, stands_later}
use Rattle.poets_norm.specs.Asking.{AsksOnce}
use Rattle.poets_norm.specs.Questions.{operated, questions}
use Rattle.poets_norm.specs.Rows.{Enters}
use Rattle.poets_norm.proofs.Asked.{operated_of_all-le, operated_of_all-one, questions-measure}
use Rattle.poets_norm.proofs.Grouped.{par_twice}
use Rattle.poets_norm.proofs.Measures.{plus-le, par-le}
use Rattle.poets_norm.proofs.RowChoices.{normal_distinct}
use Rattle.poets_norm.proofs.row_normals.+enter_normal.Goals as goal

pub enter_normal-merge-requires-clause-first : goal.enter_normal-merge-requires-clause-first
enter_normal-merge-requires-clause-first g t c =
    let studied = c.args.studied.now in
    normal_distinct (book_of studied.book) (marks_of studied) c.enter_both.new.arena c.in_ok-a-in-Plus.a (contract_of c.in-Plus.a.value)
    c.in_ok-a-in-Plus.ensures.first

pub enter_normal-merge-requires-clause-second : goal.enter_normal-merge-requires-clause-second
enter_normal-merge-requires-clause-second g t c =
    let studied = c.args.studied.now in
    normal_distinct (book_of studied.book) (marks_of studied) c.enter_both.new.arena c.in_ok-a-in-Plus.b (contract_of c.in-Plus.b.value)
    c.in_ok-a-in-Plus.ensures.second

pub enter_normal-returns-in_ok-a-in-Plus-clause-questions : goal.enter_normal-returns-in_ok-a-in-Plus-clause-questions
enter_normal-returns-in_ok-a-in-Plus-clause-questions g t c =
    let studied = c.args.studied.now in
    let form = normal (book_of studied.book) (marks_of studied) in
    let a = c.in-Plus.a.value in
    let b = c.in-Plus.b.value in
    let both = c.in_ok-a-in-Plus.ensures.questions in
    let most = plus-le 0 questions questions-measure (form (contract_of a)) (form (contract_of b)) in
    let made = ap (λ t. questions (form (contract_of t))) c.in-Plus.is in
    let whole = ap (λ t. questions (contract_of t)) c.in-Plus.is in
    IfOk-weaker c.merge.result (λ p. Stands c.merge.new.arena p (plus (contract_at c.enter_both.new.arena c.in_ok-a-in-Plus.a) (contract_at c.enter_both.new.arena c.in_ok-a-in-Plus.b)))
    (λ p. c.enter_both.new.asks + questions (form (contract_of c.args.term)) ≤ c.args.asks.now + questions (contract_of c.args.term))
    (λ p s. omega (arith, both, most, made, whole)) c.merge.ensures.stands

-- what is asked for two contracts in turn is not asked again
once_both : (s : StudiedBook) (a b : Contract) (old mid new : ℕ) → AsksOnce s a old mid → AsksOnce s b mid new → AsksOnce s (Par a b) old new
once_both s a b old mid new h k = omega (arith, par-le 0 questions questions-measure (normal_in s a) (normal_in s b), h, k)

-- a contract of two parts that are taken out of it
taken_out : (v w x y : Term) → v ≡ x → w ≡ y → Par (contract_of x) (contract_of y) ≡ Par (contract_of v) (contract_of w)
taken_out v w x y e f = ap₂ (λ a b. Par (contract_of a) (contract_of b)) (sym e) (sym f)

pub enter_normal-returns-in_ok-first-in-Par-clause-questions : goal.enter_normal-returns-in_ok-first-in-Par-clause-questions
enter_normal-returns-in_ok-first-in-Par-clause-questions g t c =
    let s = c.args.studied.now in
    let a = contract_of c.into_inner-in-Par.result in
    let b = contract_of c.into_inner-in-Par-2.result in
    let old = c.args.asks.now in
    let mid = c.enter_normal-in-Par.new.asks in
    let new = c.enter_beside.new.asks in
    let whole : contract_of c.args.term ≡ Par a b = ap contract_of c.in-Par.is
    ∙ taken_out c.into_inner-in-Par.result c.into_inner-in-Par-2.result c.in-Par.a.value c.in-Par.b.value c.into_inner-in-Par.ensures c.into_inner-in-Par-2.ensures in
    one_ok (λ _. AsksOnce s b mid new) (λ _. AsksOnce s (contract_of c.args.term) old new) c.enter_beside.result
    (λ _ k. subst (λ d. AsksOnce s d old new) (sym whole) (once_both s a b old mid new c.in_ok-first-in-Par.ensures.questions k)) c.enter_beside.ensures.questions

pub enter_beside-returns-in_ok-front-in-Par-clause-questions : goal.enter_beside-returns-in_ok-front-in-Par-clause-questions
enter_beside-returns-in_ok-front-in-Par-clause-questions g t c =
    let s = c.args.studied.now in
    let a = contract_of c.into_inner.result in
    let b = contract_of c.into_inner-in-Par.result in
    let old = c.args.asks.now in
    let mid = c.enter_beside.new.asks in
    let new = c.enter_beside-in-Par.new.asks in
    let whole : contract_of c.args.term ≡ Par a b = ap contract_of c.in-Par.is
    ∙ taken_out c.into_inner.result c.into_inner-in-Par.result c.in-Par.a.value c.in-Par.b.value c.into_inner.ensures c.into_inner-in-Par.ensures in
    one_ok (λ _. AsksOnce s b mid new) (λ _. AsksOnce s (contract_of c.args.term) old new) c.enter_beside-in-Par.result
    (λ _ k. subst (λ d. AsksOnce s d old new) (sym whole) (once_both s a b old mid new c.in_ok-front-in-Par.ensures.questions k)) c.enter_beside-in-Par.ensures.questions

-- the second part is joined to what the first was joined to
joined_on : (x first a b : Contract) → x ≡ par first a → par x b ≡ par first (par a b)
joined_on x first a b e = ap (λ y. par y b) e ∙ par_twice first a b

pub enter_beside-returns-in_ok-front-in-Par-clause-stands : goal.enter_beside-returns-in_ok-front-in-Par-clause-stands
enter_beside-returns-in_ok-front-in-Par-clause-stands g t c =
    let s = c.args.studied.now in
    let a = contract_of c.into_inner.result in
    let b = contract_of c.into_inner-in-Par.result in
    let first = contract_at c.args.arena.now c.args.first in
    let whole : contract_of c.args.term ≡ Par a b = ap contract_of c.in-Par.is
    ∙ taken_out c.into_inner.result c.into_inner-in-Par.result c.in-Par.a.value c.in-Par.b.value c.into_inner.ensures c.into_inner-in-Par.ensures in
    subst (Enters c.enter_beside-in-Par.new.arena c.enter_beside-in-Par.result)
    (joined_on (contract_at c.enter_beside.new.arena c.in_ok-front-in-Par.front) first (normal_in s a) (normal_in s b) c.in_ok-front-in-Par.ensures.stands.contract
    ∙ ap (λ d. par first (normal_in s d)) (sym whole)) c.enter_beside-in-Par.ensures.stands

pub enter_beside-returns-in_ok-place-in_default : goal.enter_beside-returns-in_ok-place-in_default
enter_beside-returns-in_ok-place-in_default g t c =
    let s = c.args.studied.now in
    let old = c.args.arena.now in
    let mid = c.enter_normal.new.arena in
    let new = c.par.new.arena in
    let made = c.in_ok-place-in_default.ensures in
    let first = contract_at-later old mid made.grows c.args.first c.requires in
    record {
      grows = extends_twice old mid new made.grows c.par.ensures.grows;
      stands = subst (Enters new c.par.result) (ap₂ par first made.normal.contract) c.par.ensures.stands;
      rises = made.rises;
      asks = made.asks;
      questions = one_ok (λ p. Stands new p (par (contract_at mid c.args.first) (contract_at mid c.in_ok-place-in_default.place)))
          (λ _. AsksOnce s (contract_of c.args.term) c.args.asks.now c.enter_normal.new.asks) c.par.result (λ p h. made.questions) c.par.ensures.stands;
      size = made.size;
      arguments = made.arguments;
    }

pub enter_normal-returns-in_err-args-in-App-clause-size : goal.enter_normal-returns-in_err-args-in-App-clause-size
enter_normal-returns-in_err-args-in-App-clause-size g t c =
    let args = ap (λ xs. sum_by operated (map expression_of xs)) c.as_slice.ensures in
    let whole = ap (λ t. size (contract_of t)) c.in-App.is in
    omega (arith, args, whole, operated_of_all-le (map expression_of c.in-App.args.items))

pub enter_normal-returns-in_err-args-in-App-clause-arguments : goal.enter_normal-returns-in_err-args-in-App-clause-arguments
enter_normal-returns-in_err-args-in-App-clause-arguments g t c =
    let args = ap (λ xs. sum_by operated (map expression_of xs)) c.as_slice.ensures in
    let whole = ap (λ t. arguments (contract_of t)) c.in-App.is in
    omega (arith, args, whole, operated_of_all-one (map expression_of c.in-App.args.items))

pub enter_normal-returns-in_ok-args-in-App-clause-size : goal.enter_normal-returns-in_ok-args-in-App-clause-size
enter_normal-returns-in_ok-args-in-App-clause-size g t c =
    let args = ap (λ xs. sum_by operated (map expression_of xs)) c.as_slice.ensures in
    let whole = ap (λ t. size (contract_of t)) c.in-App.is in
    omega (arith, args, whole, operated_of_all-le (map expression_of c.in-App.args.items))

pub enter_normal-returns-in_ok-args-in-App-clause-arguments : goal.enter_normal-returns-in_ok-args-in-App-clause-arguments
enter_normal-returns-in_ok-args-in-App-clause-arguments g t c =
    let args = ap (λ xs. sum_by operated (map expression_of xs)) c.as_slice.ensures in
    let whole = ap (λ t. arguments (contract_of t)) c.in-App.is in
    omega (arith, args, whole, operated_of_all-one (map expression_of c.in-App.args.items))

pub enter_both-returns-clause-first : goal.enter_both-returns-clause-first
enter_both-returns-clause-first g t c =
    let studied = c.args.studied.now in
    stands_later c.enter_normal.new.arena c.enter_normal-2.new.arena c.enter_normal-2.ensures.grows c.in_ok-first.first
    (normal (book_of studied.book) (marks_of studied) (contract_of c.args.a.value)) (rw c.into_inner.ensures at c.in_ok-first.ensures.normal)
