use Rattle.std.proofs.Common.{◌≡◌, ◌∙◌, ℕ, length, ap, refl}
use Rattle.poets_syntax.specs.Book.{book_of}
use Rattle.poets_syntax.specs.Contract.{Contract, Seq}
use Rattle.poets_meaning.specs.Marks.{Marks}
use Rattle.poets_meaning.specs.Studied.{marks_of}
use Rattle.poets_cons.specs.declared.node.Node.{Node}
use Rattle.poets_cons.specs.declared.node.Node.TheVariants as N
use Rattle.poets_cons.specs.Row.{row_of, contract_by}
use Rattle.poets_cons.specs.Table.{contract_at}
use Rattle.poets_residue.proofs.Joined.{IsJoined, distinct-after_at}
use Rattle.poets_residue.proofs.shared.is_joined.Goals as goal

joined_of : (marks : Marks) (part : ℕ → Contract) (n : Node) → ((a b : ℕ) → n ≡ N.Seq a b → ⊥) → IsJoined marks (contract_by part (row_of n))
joined_of marks part (N.Seq a b) h = absurd (h a b refl)
joined_of marks part _ h = tt

pub returns-in-Seq : goal.returns-in-Seq
returns-in-Seq c = λ h e.
    let book = book_of c.args.studied.now.book in
    let nodes = c.args.nodes.now in
    let whole = c.node_at.ensures.contract ∙ ap (λ n. contract_by (contract_at nodes) (row_of n)) c.in-Seq.is in
    rw whole (distinct-after_at book (marks_of c.args.studied.now) e (length book.templates)
    (Seq (contract_at nodes c.in-Seq.a) (contract_at nodes c.in-Seq.field-1)) (rw c.may_end_at.ensures at h))

pub returns-in_default : goal.returns-in_default
returns-in_default c = λ _ e.
    let book = book_of c.args.studied.now.book in
    let nodes = c.args.nodes.now in
    rw c.node_at.ensures.contract (distinct-after_at book (marks_of c.args.studied.now) e (length book.templates)
    (contract_by (contract_at nodes) (row_of c.node_at.result.now)) (joined_of (marks_of c.args.studied.now) (contract_at nodes) c.node_at.result.now (λ a b k. c.in_default.not-Seq a b k)))
