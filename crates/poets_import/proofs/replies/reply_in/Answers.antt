use Rattle.std.proofs.Common.{◌≡◌, ap, map, sym, ◌∙◌, option_map}
use Rattle.std.proofs.lemmas.Result.{err_from_is_err_and}
use Rattle.serde_json.specs.View.{view}
use Rattle.poets_expr.specs.Env.{declared_of}
use Rattle.poets_syntax.specs.Contract.{contract_of}
use Rattle.poets_command.specs.Calls.{folio_row_of, reply_of}
use Rattle.poets_command.specs.Plain.{Reply}
use Rattle.poets_books.specs.Replies.{kind_text}
use Rattle.poets_json.specs.Document.{reply_data}
use Rattle.poets_import.specs.code.Finding.{Finds, IsToldWith}
use Rattle.poets_import.proofs.Tellings.{if_folio, kind_is, place_of_words, words}
use Rattle.poets_import.proofs.Unsaid.{finds_handed}
use Rattle.poets_import.proofs.replies.reply_in.Goals as goal

pub returns-in_err-folio_in-in-portfolio-clause-only : goal.returns-in_err-folio_in-in-portfolio-clause-only
returns-in_err-folio_in-in-portfolio-clause-only c = λ y is e.
    let told = err_from_is_err_and c.from_residual-in_err-folio_in-in-portfolio.result c.from_residual-in_err-folio_in-in-portfolio.ensures.1 in
    let names = c.args.names.now in
    let declared = declared_of c.args.decls.now.names in
    let owed = option_map contract_of c.args.owed in
    let d = view c.args.value.now in
    let said = kind_is names c.in-Some.kind.now d y c.in-Some.ensures e in
    if_folio
    (λ (r : Reply). IsToldWith names declared owed r → d ≡ reply_data names r →
    Finds reply_of (reply_data names) d c.from_residual-in_err-folio_in-in-portfolio.result)
    (λ rows total so same.
    finds_handed reply_of (reply_data names) d told.1 told.2 (c.in_err-folio_in-in-portfolio.ensures.only (rows, total) so.0 same))
    y (place_of_words (kind_text y)) (words y) (ap place_of_words (sym said ∙ c.in-portfolio.is)) is e

pub returns-in_ok-folio_in-in-portfolio-clause-only : goal.returns-in_ok-folio_in-in-portfolio-clause-only
returns-in_ok-folio_in-in-portfolio-clause-only c = λ y is e.
    let names = c.args.names.now in
    let declared = declared_of c.args.decls.now.names in
    let owed = option_map contract_of c.args.owed in
    let d = view c.args.value.now in
    let folio = c.in_ok-folio_in-in-portfolio.field-0 in
    let said = kind_is names c.in-Some.kind.now d y c.in-Some.ensures e in
    if_folio
    (λ (r : Reply). IsToldWith names declared owed r → d ≡ reply_data names r →
    d ≡ reply_data names (Reply.Folio (map folio_row_of folio.rows.items) folio.total))
    (λ rows total so same. c.in_ok-folio_in-in-portfolio.ensures.only (rows, total) so.0 same)
    y (place_of_words (kind_text y)) (words y) (ap place_of_words (sym said ∙ c.in-portfolio.is)) is e
