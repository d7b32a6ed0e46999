use Rattle.std.proofs.Common.{◌≡◌, ◌∙◌, ap, ap₂, sym, subst, refl, inl, inr, None, arith}
use Rattle.poets_syntax.specs.Contract as C
use Rattle.poets_cons.specs.Notes.{noted}
use Rattle.poets_cons.specs.Row as R
use Rattle.poets_cons.specs.Row.{row_of, contract_by, AreBelow}
use Rattle.poets_cons.specs.Table.{contract_at}
use Rattle.poets_cons.proofs.Copied.{copy_is_new, known_copied, noted_copied, both_copied, two_parts_copied}
use Rattle.poets_cons.proofs.copying.+copy.Goals as goal

pub copy_both-returns : goal.copy_both-returns
copy_both-returns t c =
    both_copied c.args.from.now c.args.into.now.items c.copy_once.new.into.items c.copy_once-2.new.into.items (noted c.args.copies.now)
    (noted c.copy_once.new.copies) (noted c.copy_once-2.new.copies) c.args.a c.args.b c.in_ok-first.first c.in_ok-second.second
    c.in_ok-first.ensures c.in_ok-second.ensures

pub copy_once-returns-in-Some : goal.copy_once-returns-in-Some
copy_once-returns-in-Some t c =
    known_copied c.args.from.now c.args.into.now.items (noted c.args.copies.now) c.args.place c.in-Some.copy c.requires.copies (sym c.in-Some.ensures)

pub copy_once-append-requires-clause-new : goal.copy_once-append-requires-clause-new
copy_once-append-requires-clause-new t c =
    let parts = c.in_ok-node.ensures in
    let none : noted c.args.copies.now c.args.place ≡ None = sym c.get.ensures ∙ c.in_default.is in
    copy_is_new c.args.from.now c.with_copied_parts.new.into.items (noted c.with_copied_parts.new.copies) c.args.place (row_of c.in_ok-node.node)
    c.requires.table parts.copies c.requires.within (parts.later c.args.place (omega arith) ∙ none) parts.contract

pub copy_once-returns : goal.copy_once-returns
copy_once-returns t c =
    let none : noted c.args.copies.now c.args.place ≡ None = sym c.get.ensures ∙ c.in_default.is in
    noted_copied c.args.from.now c.args.into.now.items c.with_copied_parts.new.into.items c.append.new.into.items (noted c.args.copies.now)
    (noted c.with_copied_parts.new.copies) (noted c.note.new.self) c.args.place c.in_ok-copy.copy (row_of c.in_ok-node.node) c.note.result c.requires.within
    none c.in_ok-node.ensures c.in_ok-copy.ensures c.note.ensures.row c.note.ensures.notes

pub with_copied_parts-returns-in_ok-a-in-Plus : goal.with_copied_parts-returns-in_ok-a-in-Plus
with_copied_parts-returns-in_ok-a-in-Plus t c =
    let from = c.args.from.now in
    let x = c.in_ok-a-in-Plus.ensures in
    let p = c.in_ok-a-in-Plus.a in
    let q = c.in_ok-a-in-Plus.b in
    let a = c.in-Plus.a in
    let b = c.in-Plus.b in
    let whole : contract_at from c.args.place ≡ C.Plus (contract_at from a) (contract_at from b) =
    c.node_at.ensures.contract ∙ ap (λ n. contract_by (contract_at from) (row_of n)) c.in-Plus.is in
    let below : AreBelow c.args.place (R.Plus a b) = subst (λ n. AreBelow c.args.place (row_of n)) c.in-Plus.is c.node_at.ensures.below in
    two_parts_copied from c.args.into.now.items c.copy_both.new.into.items (noted c.args.copies.now) (noted c.copy_both.new.copies) c.args.place a b p q x
    below.0 below.1 (R.Plus p q) (inl refl) (inr refl) (λ l m. (l, m)) (ap₂ C.Plus x.first_stands.contract x.second_stands.contract ∙ sym whole)

pub with_copied_parts-returns-in_ok-a-in-Par : goal.with_copied_parts-returns-in_ok-a-in-Par
with_copied_parts-returns-in_ok-a-in-Par t c =
    let from = c.args.from.now in
    let x = c.in_ok-a-in-Par.ensures in
    let p = c.in_ok-a-in-Par.a in
    let q = c.in_ok-a-in-Par.b in
    let a = c.in-Par.a in
    let b = c.in-Par.b in
    let whole : contract_at from c.args.place ≡ C.Par (contract_at from a) (contract_at from b) =
    c.node_at.ensures.contract ∙ ap (λ n. contract_by (contract_at from) (row_of n)) c.in-Par.is in
    let below : AreBelow c.args.place (R.Par a b) = subst (λ n. AreBelow c.args.place (row_of n)) c.in-Par.is c.node_at.ensures.below in
    two_parts_copied from c.args.into.now.items c.copy_both-in-Par.new.into.items (noted c.args.copies.now) (noted c.copy_both-in-Par.new.copies) c.args.place a b p q x
    below.0 below.1 (R.Par p q) (inl refl) (inr refl) (λ l m. (l, m)) (ap₂ C.Par x.first_stands.contract x.second_stands.contract ∙ sym whole)

pub with_copied_parts-returns-in_ok-a-in-Seq : goal.with_copied_parts-returns-in_ok-a-in-Seq
with_copied_parts-returns-in_ok-a-in-Seq t c =
    let from = c.args.from.now in
    let x = c.in_ok-a-in-Seq.ensures in
    let p = c.in_ok-a-in-Seq.a in
    let q = c.in_ok-a-in-Seq.b in
    let a = c.in-Seq.a in
    let b = c.in-Seq.b in
    let whole : contract_at from c.args.place ≡ C.Seq (contract_at from a) (contract_at from b) =
    c.node_at.ensures.contract ∙ ap (λ n. contract_by (contract_at from) (row_of n)) c.in-Seq.is in
    let below : AreBelow c.args.place (R.Seq a b) = subst (λ n. AreBelow c.args.place (row_of n)) c.in-Seq.is c.node_at.ensures.below in
    two_parts_copied from c.args.into.now.items c.copy_both-in-Seq.new.into.items (noted c.args.copies.now) (noted c.copy_both-in-Seq.new.copies) c.args.place a b p q x
    below.0 below.1 (R.Seq p q) (inl refl) (inr refl) (λ l m. (l, m)) (ap₂ C.Seq x.first_stands.contract x.second_stands.contract ∙ sym whole)
