use Rattle.std.proofs.Common.{◌≡◌, ◌∙◌, ◌+◌, ◌-◌, ◌||◌, ◌<◌, ◌≤◌, ℕ, nat_lt, arith, List, length, ap, sym, subst}
use Rattle.std.specs.Prelude.{Ok, Err, OnErr}
use Rattle.std.proofs.lemmas.List.Elements.{All-nil}
use Rattle.poets_syntax.specs.Book.{book_of}
use Rattle.poets_meaning.specs.Spread.{largest, spread}
use Rattle.poets_meaning.specs.Studied.{marks_of}
use Rattle.poets_meaning.specs.Width.{size, widest}
use Rattle.poets_cons.specs.declared.node.Node.{Node}
use Rattle.poets_cons.specs.Table.{contract_at, contract_of_rows, IsTable, IsRooted}
use Rattle.poets_residue.specs.code.Limits.{rows_count, body_widths_at, AddsExposed}
use Rattle.poets_residue.proofs.Counted.{size_past, size_within, told}
use Rattle.poets_residue.proofs.Exposing.{from_nothing}
use Rattle.poets_residue.proofs.Spreading.{spread_counted}
use Rattle.poets_residue.proofs.limits.past_limit.Goals as goal

-- what is left of one more than the greatest size
size_left : (nodes rows : List Node) (root left : ℕ) → left ≡ 1 + largest - size (contract_at nodes root) → nodes ≡ rows →
    contract_at rows root ≡ contract_of_rows rows → left ≡ 1 + largest - size (contract_of_rows rows)
size_left nodes rows root left e n r = e ∙ ap (λ ns. 1 + largest - size (contract_at ns root)) n ∙ ap (λ d. 1 + largest - size d) r

pub returns-then-less_size-eq0-clause-told : goal.returns-then-less_size-eq0-clause-told
returns-then-less_size-eq0-clause-told c =
    let s = c.args.studied.now in
    let rows = c.args.rows.now in
    let left =
    size_left c.nodes-nodes.result.now rows c.root-root.result c.less_size.result c.less_size.ensures c.nodes-nodes.ensures.nodes c.root-root.ensures.contract in
    let past = size_past (size (contract_of_rows rows)) c.less_size.result left c.if-less_size-eq0.true in
    sym (ap (λ v. v || nat_lt widest (spread (book_of s.book) (marks_of s) (contract_of_rows rows))) past)

pub returns-in_err-expose-clause-small : goal.returns-in_err-expose-clause-small
returns-in_err-expose-clause-small c =
    let rows = c.args.rows.now in
    let left =
    size_left c.nodes-nodes.result.now rows c.root-root.result c.less_size.result c.less_size.ensures c.nodes-nodes.ensures.nodes c.root-root.ensures.contract in
    let small : size (contract_of_rows rows) ≤ largest = omega (arith, left, c.if-less_size-eq0.false) in
    elim (c.from_residual.result) as (λ r. OnErr r (size (contract_of_rows rows) ≤ largest)) [ Ok x ↦ tt | Err e ↦ small ]

pub returns-clause-told : goal.returns-clause-told
returns-clause-told c =
    let nodes = c.nodes-nodes.result.now in
    let rows = c.args.rows.now in
    let s = c.args.studied.now in
    let whole = c.nodes-nodes.ensures.nodes in
    let table : IsTable nodes = subst IsTable (sym whole) c.nodes-nodes.ensures.table in
    let rooted : IsRooted nodes = subst IsRooted (sym whole) c.nodes-nodes.ensures.rooted in
    let last : c.root-root.result ≡ length nodes - 1 = omega (arith, c.root-root.ensures.root, ap length whole) in
    let size_is = size_left nodes rows c.root-root.result c.less_size.result c.less_size.ensures whole c.root-root.ensures.contract in
    let small : size (contract_of_rows rows) ≤ largest = omega (arith, size_is, c.if-less_size-eq0.false) in
    let places = c.expose.new.found.keys in
    let added = from_nothing s nodes (length nodes - 1) c.new-found.result.keys places c.new-found.ensures.len
    (subst (λ k. AddsExposed s nodes k c.new-found.result.keys places) last c.in_ok-expose.ensures.found) in
    let within = added.within (All-nil (λ k. k < length nodes)) in
    let counted = spread_counted nodes table s rooted places within c.as_slice.ensures.unique added in
    let left = c.less_bodies.ensures ∙ ap (λ l. c.less_rows-left.result - body_widths_at s nodes l) c.as_slice.ensures.keys
    ∙ ap (λ k. k - body_widths_at s nodes places) c.less_rows-left.ensures in
    told (size (contract_of_rows rows)) (rows_count nodes) (body_widths_at s nodes places) (spread (book_of s.book) (marks_of s) (contract_of_rows rows)) c.less_bodies.result
    left (sym (ap (λ l. spread (book_of s.book) (marks_of s) (contract_of_rows l)) whole) ∙ counted) (size_within (size (contract_of_rows rows)) small)
