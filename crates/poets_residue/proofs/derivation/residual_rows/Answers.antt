use Rattle.std.proofs.Common.{◌≡◌, ◌∙◌, ℕ, List, [], arith, ap, sym, subst, length, Some}
use Rattle.std.proofs.lemmas.List.{length-map}
use Rattle.poets_syntax.specs.Applied.{CountsFit}
use Rattle.poets_syntax.specs.Book.{book_of}
use Rattle.poets_meaning.specs.Studied.{marks_of}
use Rattle.poets_meaning.specs.Width.{width}
use Rattle.poets_calculus.specs.Residual.{after}
use Rattle.poets_norm.proofs.Asked.{questions-le}
use Rattle.poets_cons.specs.declared.node.Node.{Node}
use Rattle.poets_cons.specs.Notes.{noted}
use Rattle.poets_cons.specs.Row.{row_of}
use Rattle.poets_cons.specs.Table.{nth, grown, rows_of, contract_at}
use Rattle.poets_residue.specs.Once.{once}
use Rattle.poets_residue.specs.code.Spent.{IsNoted}
use Rattle.poets_residue.proofs.Spending.{spent_once}
use Rattle.poets_residue.proofs.Studies.{IsStudied-book}
use Rattle.poets_residue.proofs.derivation.residual_rows.Goals as goal

-- tables of the same rows have the same contracts
same_contract_at : (old new : List Node) → rows_of new ≡ rows_of old → (i : ℕ) → contract_at new i ≡ contract_at old i
same_contract_at old new q i = ap (λ rows. nth (grown [] rows) i) q

-- and are as long
same_length : (old new : List Node) → rows_of new ≡ rows_of old → length new ≡ length old
same_length old new q = omega (arith, ap length q, length-map old row_of, length-map new row_of)

pub derive-requires-clause-within : goal.derive-requires-clause-within
derive-requires-clause-within g c =
    omega (arith, same_length c.args.rows.now c.in_ok-arena.arena c.in_ok-arena.ensures, c.root-start.ensures.root)

pub derive-requires-clause-ready : goal.derive-requires-clause-ready
derive-requires-clause-ready g c =
    let here = same_contract_at c.args.rows.now c.in_ok-arena.arena c.in_ok-arena.ensures c.root-start.result ∙ c.root-start.ensures.contract in
    record {
      studied = IsStudied-book (book_of c.args.studied.now.book) c.args.studied.now.marks c.recall.ensures;
      fits = subst (CountsFit (book_of c.args.studied.now.book)) (sym here) c.requires;
      notes = λ k v h. (let none : noted [] k ≡ Some v = subst (λ m. noted m k ≡ Some v) c.new-memo.ensures h in absurd cc);
    }

pub returns-in_err-place-clause-asks : goal.returns-in_err-place-clause-asks
returns-in_err-place-clause-asks g c =
    let here = same_contract_at c.args.rows.now c.in_ok-arena.arena c.in_ok-arena.ensures c.root-start.result ∙ c.root-start.ensures.contract in
    let width_here = ap (width (book_of c.args.studied.now.book) (marks_of c.args.studied.now)) here in
    omega (arith, c.in_err-place.ensures.asks, questions-le (contract_at c.in_ok-arena.arena c.root-start.result), width_here)

pub returns-clause-residual : goal.returns-clause-residual
returns-clause-residual g c =
    let book = book_of c.args.studied.now.book in
    let marks = marks_of c.args.studied.now in
    let here = same_contract_at c.args.rows.now c.in_ok-arena.arena c.in_ok-arena.ensures c.root-start.result ∙ c.root-start.ensures.contract in
    rw (c.nodes.ensures.nodes, c.in_ok-place.ensures.found.contract ∙ ap (after book marks c.args.event.now) here) at c.rows_at.ensures

pub returns-clause-asks : goal.returns-clause-asks
returns-clause-asks g c =
    let here = same_contract_at c.args.rows.now c.in_ok-arena.arena c.in_ok-arena.ensures c.root-start.result ∙ c.root-start.ensures.contract in
    let width_here = ap (width (book_of c.args.studied.now.book) (marks_of c.args.studied.now)) here in
    omega (arith, c.in_ok-place.ensures.asks, questions-le (contract_at c.in_ok-arena.arena c.root-start.result), width_here)

pub returns-in_err-place-clause-once : goal.returns-in_err-place-clause-once
returns-in_err-place-clause-once g c =
    let book = book_of c.args.studied.now.book in
    let marks = marks_of c.args.studied.now in
    let arena = c.in_ok-arena.arena in
    let start = c.root-start.result in
    let here = same_contract_at c.args.rows.now arena c.in_ok-arena.ensures start ∙ c.root-start.ensures.contract in
    let all = spent_once book marks (contract_at arena start) (IsNoted arena (noted c.new-memo.result))
    (IsNoted c.derive.new.table.arena (noted c.derive.new.table.memo)) c.args.asks.now c.derive.new.asks c.derive.result c.derive.ensures.once in
    omega (arith, all, ap (once book marks) here)

pub returns-clause-once : goal.returns-clause-once
returns-clause-once g c =
    let book = book_of c.args.studied.now.book in
    let marks = marks_of c.args.studied.now in
    let arena = c.in_ok-arena.arena in
    let start = c.root-start.result in
    let here = same_contract_at c.args.rows.now arena c.in_ok-arena.ensures start ∙ c.root-start.ensures.contract in
    let all = spent_once book marks (contract_at arena start) (IsNoted arena (noted c.new-memo.result))
    (IsNoted c.derive.new.table.arena (noted c.derive.new.table.memo)) c.args.asks.now c.derive.new.asks c.derive.result c.derive.ensures.once in
    omega (arith, all, ap (once book marks) here)
