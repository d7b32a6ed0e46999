use Rattle.std.proofs.Common.{◌≡◌, ℕ, List, ◌++◌, ◌∙◌, ap, string_bytes}
use Rattle.poets_books.proofs.BookTexts.{no_names, some_names}
use Rattle.poets_books.proofs.books.add_declaration.Goals as goal

pub returns-then-is_empty : goal.returns-then-is_empty
returns-then-is_empty c =
    no_names c.args.names.now c.args.word.now c.args.texts.now.items c.args.declared.now c.if-is_empty.ensures

pub returns : goal.returns
returns c =
    let line : string_bytes c.in_ok-text.text ≡ c.args.word.now ++ string_bytes c.in_ok-listed.listed =
    c.in_ok-text.ensures.ok in
    some_names c.args.names.now c.args.word.now c.args.texts.now.items c.push.new.list.items c.in_ok-text.text
    c.args.declared.now c.if-is_empty.ensures c.in_ok-push.ensures.items
    (line ∙ ap (λ (t : List ℕ). c.args.word.now ++ t) c.in_ok-listed.ensures)
