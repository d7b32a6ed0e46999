use Rattle.std.proofs.Common.{◌≡◌, [], ◌∷◌, ◌++◌, sym, ◌∙◌, ap, subst, append_assoc}
use Rattle.std.specs.Prelude.{codes, string_bytes}
use Rattle.poets_syntax.specs.Book.{book_of}
use Rattle.poets_syntax.specs.Contract.{contract_of}
use Rattle.poets_route.specs.Explained.{IsExplained}
use Rattle.poets_top.specs.Explaining.{TellsWay, way_line}
use Rattle.poets_top.proofs.explaining.way_line.Goals as goal

pub returns-in_default : goal.returns-in_default
returns-in_default c =
    let found = subst (IsExplained c.args.studied.now (contract_of c.args.account.now.original) c.args.account.now.events.items) c.in_default.is c.in_ok-way.ensures in
    subst (TellsWay (book_of c.args.studied.now.book) (contract_of c.args.account.now.original) c.args.account.now.events.items) (sym c.in_ok-from_str.ensures.ok)
    (TellsWay.NotPerformed found)

pub returns : goal.returns
returns c =
    let found = subst (IsExplained c.args.studied.now (contract_of c.args.account.now.original) c.args.account.now.events.items) c.in-Some.is c.in_ok-way.ensures in
    let text : string_bytes c.in_ok-format.field-0 ≡ codes "way " ++ string_bytes c.in_ok-way-2.way ++ 10 ∷ [] = simp append_assoc c.in_ok-format.ensures.ok in
    let line : string_bytes c.in_ok-format.field-0 ≡ way_line c.in-Some.way = text ∙ ap (λ w. codes "way " ++ w ++ 10 ∷ []) c.in_ok-way-2.ensures in
    subst (TellsWay (book_of c.args.studied.now.book) (contract_of c.args.account.now.original) c.args.account.now.events.items) (sym line)
    (TellsWay.Performed found)
