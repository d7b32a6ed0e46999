use Rattle.std.proofs.Common.{◌≡◌, ◌≤◌, ◌∙◌, length, refl, sym, ap, arith}
use Rattle.std.proofs.lemmas.Result.{IfOk-weaker}
use Rattle.poets_syntax.specs.Book.{book_of}
use Rattle.poets_syntax.specs.Contract.{contract_of, Par, Plus, Seq}
use Rattle.poets_way.specs.Moves as M
use Rattle.poets_way.specs.code.Goals.{Adds, AddsBoth, Follows}
use Rattle.poets_way.specs.Moves.{move_of}
use Rattle.poets_way.specs.declared.goals.Open.{Open}
use Rattle.poets_way.proofs.Opened.{follows-both, follows-left, follows-right, follows-then, follows_by}
use Rattle.poets_way.proofs.verifying.follow.Goals as goal

pub returns-in-Plus-Left : goal.returns-in-Plus-Left
returns-in-Plus-Left c =
    let g = c.args.goal in
    let old = c.args.rest.now in
    let new = c.add.new.self in
    let book = book_of c.args.studied.now.book in
    let first = contract_of c.deref-in-Plus-Left.result.now in
    let second = contract_of c.in-Plus-Left.field-1-0.value in
    let term : contract_of g.term.now ≡ Plus first second = ap contract_of c.in-Plus-Left.is-0 ∙ ap (λ t. Plus (contract_of t) second) (sym c.deref-in-Plus-Left.ensures) in
    let step : move_of c.args.step.now ≡ M.Left = ap move_of c.in-Plus-Left.is-1 in
    IfOk-weaker c.add.result (Adds first g.pairs.items g.count old new) (Follows book (contract_of g.term.now) (move_of c.args.step.now) g old new)
    (λ b h. follows_by book (contract_of g.term.now) (Plus first second) (move_of c.args.step.now) M.Left g old new b term step
    (follows-left book first second g old new b h c.requires)) c.add.ensures

pub returns-in-Plus-Right : goal.returns-in-Plus-Right
returns-in-Plus-Right c =
    let g = c.args.goal in
    let old = c.args.rest.now in
    let new = c.add-in-Plus-Right.new.self in
    let book = book_of c.args.studied.now.book in
    let first = contract_of c.in-Plus-Right.field-0-0.value in
    let second = contract_of c.deref-in-Plus-Right.result.now in
    let term : contract_of g.term.now ≡ Plus first second = ap contract_of c.in-Plus-Right.is-0 ∙ ap (λ t. Plus first (contract_of t)) (sym c.deref-in-Plus-Right.ensures) in
    let step : move_of c.args.step.now ≡ M.Right = ap move_of c.in-Plus-Right.is-1 in
    IfOk-weaker c.add-in-Plus-Right.result (Adds second g.pairs.items g.count old new) (Follows book (contract_of g.term.now) (move_of c.args.step.now) g old new)
    (λ b h. follows_by book (contract_of g.term.now) (Plus first second) (move_of c.args.step.now) M.Right g old new b term step
    (follows-right book second first g old new b h c.requires)) c.add-in-Plus-Right.ensures

pub returns-in_ok-count-in-Par-Both : goal.returns-in_ok-count-in-Par-Both
returns-in_ok-count-in-Par-Both c =
    let g = c.args.goal in
    let old = c.args.rest.now in
    let new = c.add_both.new.self in
    let mid : Open = record { goals = old.goals; events = c.part.new.left } in
    let book = book_of c.args.studied.now.book in
    let first = contract_of c.deref-in-Par-Both.result.now in
    let second = contract_of c.deref-in-Par-Both-2.result.now in
    let sides = c.as_slice-in-Par-Both.result.now in
    let n = c.in_ok-count-in-Par-Both.count in
    let term : contract_of g.term.now ≡ Par first second =
    ap contract_of c.in-Par-Both.is-0 ∙ ap (λ t. Par (contract_of t) (contract_of c.in-Par-Both.b.value)) (sym c.deref-in-Par-Both.ensures)
    ∙ ap (λ t. Par first (contract_of t)) (sym c.deref-in-Par-Both-2.ensures) in
    let step : move_of c.args.step.now ≡ M.Both sides = ap move_of c.in-Par-Both.is-1 ∙ ap M.Both (sym c.as_slice-in-Par-Both.ensures) in
    let as_many : length sides ≡ g.count = omega (arith, c.if-len-goal.true, c.len.ensures, ap length c.as_slice-in-Par-Both.ensures) in
    IfOk-weaker c.add_both.result (AddsBoth g first second n mid new) (Follows book (contract_of g.term.now) (move_of c.args.step.now) g old new)
    (λ b h. follows_by book (contract_of g.term.now) (Par first second) (move_of c.args.step.now) (M.Both sides) g old new b term step
    (follows-both book first second g old c.requires sides n mid new b h refl as_many c.in_ok-count-in-Par-Both.ensures.events c.in_ok-count-in-Par-Both.ensures.count
    c.in_ok-count-in-Par-Both.ensures.all)) c.add_both.ensures

pub returns-in-Seq-Then : goal.returns-in-Seq-Then
returns-in-Seq-Then c =
    let g = c.args.goal in
    let old = c.args.rest.now in
    let new = c.add_both-in-Seq-Then.new.self in
    let book = book_of c.args.studied.now.book in
    let first = contract_of c.deref-in-Seq-Then.result.now in
    let second = contract_of c.deref-in-Seq-Then-2.result.now in
    let n = c.in-Seq-Then.count in
    let term : contract_of g.term.now ≡ Seq first second =
    ap contract_of c.in-Seq-Then.is-0 ∙ ap (λ t. Seq (contract_of t) (contract_of c.in-Seq-Then.b.value)) (sym c.deref-in-Seq-Then.ensures)
    ∙ ap (λ t. Seq first (contract_of t)) (sym c.deref-in-Seq-Then-2.ensures) in
    let step : move_of c.args.step.now ≡ M.Then n = ap move_of c.in-Seq-Then.is-1 in
    let enough : n ≤ g.count = omega (arith, c.if-count-goal.true) in
    IfOk-weaker c.add_both-in-Seq-Then.result (AddsBoth g first second n old new) (Follows book (contract_of g.term.now) (move_of c.args.step.now) g old new)
    (λ b h. follows_by book (contract_of g.term.now) (Seq first second) (move_of c.args.step.now) (M.Then n) g old new b term step
    (follows-then book first second g old c.requires n new b h enough)) c.add_both-in-Seq-Then.ensures
