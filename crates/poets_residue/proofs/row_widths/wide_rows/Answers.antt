use Rattle.std.proofs.Common.{◌≡◌, ◌∙◌, ap, arith}
use Rattle.poets_syntax.specs.Book.{book_of, template_in}
use Rattle.poets_meaning.specs.Studied.{marks_of}
use Rattle.poets_meaning.specs.Width.{body_in, wide_by, width}
use Rattle.poets_norm.proofs.StudiedBooks.{width-studied}
use Rattle.poets_cons.specs.Table.{contract_at, contract_of_rows}
use Rattle.poets_residue.proofs.row_widths.wide_rows.Goals as goal

pub returns : goal.returns
returns c =
    let studied = c.args.studied.now in
    let book = book_of studied.book in
    let marks = marks_of studied in
    let here : contract_at c.nodes-nodes.result.now c.root-root.result ≡ contract_of_rows c.args.rows.now =
    ap (λ nodes. contract_at nodes c.root-root.result) c.nodes-nodes.ensures.nodes ∙ c.root-root.ensures.contract in
    let wide = ap (wide_by (λ f. body_in (template_in book.templates f) (width book marks)) marks) here in
    let known = width-studied book studied.marks c.recall.ensures (contract_of_rows c.args.rows.now) c.requires in
    omega (arith, c.measure.ensures.left, wide, known)
