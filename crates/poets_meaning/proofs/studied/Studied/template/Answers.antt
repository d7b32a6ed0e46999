use Rattle.std.proofs.Common.{arith, ◌≡◌, ◌∙◌, Bool, false, sym, ap, get_or}
use Rattle.std.specs.List.{list_any}
use Rattle.std.specs.Option.{option_map_or}
use Rattle.poets_expr.specs.Env.{same_name}
use Rattle.poets_syntax.specs.Contract.{contract_of}
use Rattle.poets_syntax.specs.Plain.{Template}
use Rattle.poets_syntax.specs.Book.{book_of, template_in}
use Rattle.poets_meaning.specs.declared.studied.Mark.{Mark}
use Rattle.poets_meaning.specs.Studied.{has_mark, marks_in, marks_of, IsRightMark}
use Rattle.poets_meaning.specs.Width.{width, cut}
use Rattle.poets_meaning.proofs.Found.{IsFound, IsFound-place, IsNowhere, IsNowhere-unknown, marks_reach}
use Rattle.poets_meaning.proofs.studied.Studied.template.Goals as goal

abbrev no_mark : Mark
no_mark = record { nullable = false; hopeful = false; wide = 0 }

-- ---- no template has the name

nowhere : (c : goal.After-from_residual) → IsNowhere c.args.name c.self.inside.book.templates.items c.self.inside.marks.items
nowhere c =
    IsNowhere-unknown c.args.name c.self.inside.book.templates.items c.self.inside.marks.items
    (ap (list_any (same_name c.args.name)) (sym c.self.invariant.1) ∙ sym c.in_err-place.ensures.found)

unmarked : (is : Mark → Bool) (c : goal.After-from_residual) → option_map_or (λ p. is p.1.now) c.from_residual.result false ≡
    has_mark is (book_of c.args.self.now.book).templates c.args.self.now.marks c.args.name
unmarked is c = rw c.from_residual.ensures (sym ((nowhere c).mark is) ∙ ap (λ s. has_mark is (book_of s.book).templates s.marks c.args.name) c.self.view_is)

pub returns-in_err-place-clause-template : goal.returns-in_err-place-clause-template
returns-in_err-place-clause-template c =
    rw c.from_residual.ensures (sym (nowhere c).template ∙ ap (λ s. template_in (book_of s.book).templates c.args.name) c.self.view_is)

pub returns-in_err-place-clause-nullable : goal.returns-in_err-place-clause-nullable
returns-in_err-place-clause-nullable c = unmarked (λ m. m.nullable) c

pub returns-in_err-place-clause-hopeful : goal.returns-in_err-place-clause-hopeful
returns-in_err-place-clause-hopeful c = unmarked (λ m. m.hopeful) c

-- ---- a template has it

-- what a mark is for
abbrev right_in : (c : goal.After-index-templates-place) → Template → Mark → Type 0
right_in c = let book = book_of c.self.inside.book in IsRightMark book (marks_in book.templates c.self.inside.marks.items)

pub bounds-marks-place : goal.bounds-marks-place
bounds-marks-place c =
    let inside = c.self.inside in
    let right = c.self.invariant.0 in
    let reach = marks_reach c.args.name (right_in c) inside.names.keys inside.book.templates.items inside.marks.items c.in_ok-place.place
    c.self.invariant.1 right.right (sym c.in_ok-place.ensures.index) in
    rw c.as_slice-marks.ensures (omega (arith, reach))

found : (c : goal.After-index-templates-place) →
    IsFound c.args.name (right_in c) c.self.inside.book.templates.items c.self.inside.marks.items c.index-templates-place.result
    (get_or c.self.inside.marks.items c.in_ok-place.place no_mark)
found c =
    let inside = c.self.inside in
    let right = c.self.invariant.0 in
    IsFound-place c.args.name (right_in c) inside.names.keys inside.book.templates.items inside.marks.items c.in_ok-place.place c.self.invariant.1 right.right
    (sym c.in_ok-place.ensures.index) c.index-templates-place.result no_mark (rw c.as_slice-templates.ensures at c.index-templates-place.is)

marked : (is : Mark → Bool) (c : goal.After-index-templates-place) → is (get_or c.as_slice-marks.result.now c.in_ok-place.place no_mark) ≡
    has_mark is (book_of c.args.self.now.book).templates c.args.self.now.marks c.args.name
marked is c =
    ap (λ ms. is (get_or ms c.in_ok-place.place no_mark)) c.as_slice-marks.ensures ∙ sym ((found c).mark is)
    ∙ ap (λ s. has_mark is (book_of s.book).templates s.marks c.args.name) c.self.view_is

pub returns-clause-template : goal.returns-clause-template
returns-clause-template c = sym (found c).template ∙ ap (λ s. template_in (book_of s.book).templates c.args.name) c.self.view_is

pub returns-clause-nullable : goal.returns-clause-nullable
returns-clause-nullable c = marked (λ m. m.nullable) c

pub returns-clause-hopeful : goal.returns-clause-hopeful
returns-clause-hopeful c = marked (λ m. m.hopeful) c

pub returns-clause-wide : goal.returns-clause-wide
returns-clause-wide c =
    ap (λ ms. (get_or ms c.in_ok-place.place no_mark).wide) c.as_slice-marks.ensures ∙ (found c).right.wide
    ∙ ap (λ s. cut (width (book_of s.book) (marks_of s) (contract_of c.index-templates-place.result.body))) c.self.view_is
