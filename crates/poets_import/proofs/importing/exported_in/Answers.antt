use Rattle.std.proofs.Common.{Err, ap, map, sym, ◌∙◌}
use Rattle.std.proofs.lemmas.Result.{err_from_is_err_and}
use Rattle.serde_json.specs.View.{items_view, view}
use Rattle.poets_command.specs.Calls.{history_of}
use Rattle.poets_command.specs.Statements.{statements_of}
use Rattle.poets_import.proofs.Depths.{depth_book, depth_entries}
use Rattle.poets_import.proofs.Founds.{data_values, document_found, none_found, not_both, spoken_depths}
use Rattle.poets_import.proofs.NoDocuments.{no_book, no_entries, no_such_book}
use Rattle.poets_import.proofs.Unsaid.{handed_on}
use Rattle.poets_import.proofs.importing.exported_in.Goals as goal

pub returns-in_err-statements-clause-none : goal.returns-in_err-statements-clause-none
returns-in_err-statements-clause-none c = λ e.
    let told = err_from_is_err_and c.from_residual.result c.from_residual.ensures.1 in
    no_book c.args.names.now (view c.args.value.now) (view c.in-Some.book.now) (map view c.in-Some.entries.now) c.in-Some.ensures.some
    (c.in_err-statements.ensures.none (ap Err (handed_on told.1 told.2 e)))

pub returns-in_err-spoken-clause-none : goal.returns-in_err-spoken-clause-none
returns-in_err-spoken-clause-none c = λ e.
    let told = err_from_is_err_and c.from_residual-in_err-spoken.result c.from_residual-in_err-spoken.ensures.1 in
    no_entries c.args.names.now c.book_in.new.names (view c.args.value.now) (view c.in-Some.book.now) (map view c.in-Some.entries.now)
    (statements_of c.in_ok-statements.statements.items) c.in-Some.ensures.some c.in_ok-statements.ensures.said
    (c.in_err-spoken.ensures.none (ap Err (handed_on told.1 told.2 e)))

pub is_value_of-requires : goal.is_value_of-requires
is_value_of-requires c =
    depth_book (view c.args.value.now) (view c.in-Some.book.now) (items_view c.in-Some.entries.now) c.in-Some.ensures.some c.requires

pub entries_in-requires : goal.entries_in-requires
entries_in-requires c =
    spoken_depths c.in-Some.entries.now c.in_ok-spoken.spoken.items c.in_ok-spoken.ensures.values
    (depth_entries (view c.args.value.now) (view c.in-Some.book.now) c.in-Some.entries.now c.in-Some.ensures.some c.requires)

pub returns-then-not-is_book-clause-none : goal.returns-then-not-is_book-clause-none
returns-then-not-is_book-clause-none c = λ e.
    no_such_book
    (record {
      document = c.in-Some.ensures.some;
      between = c.book_in.new.names;
      book_is = c.in_ok-statements.ensures.said;
      said = c.in_ok-spoken.ensures.said;
      declared = c.in_ok-declared.ensures;
    })
    (λ same. not_both c.in_ok-is_book.is_book (c.in_ok-is_book.ensures.1 same) c.if-not-is_book.true)

pub returns-in_err-history-clause-none : goal.returns-in_err-history-clause-none
returns-in_err-history-clause-none c = λ e.
    let told = err_from_is_err_and c.from_residual-in_err-history.result c.from_residual-in_err-history.ensures.1 in
    none_found
    (record {
      document = c.in-Some.ensures.some;
      between = c.book_in.new.names;
      book_is = c.in_ok-statements.ensures.said;
      said = c.in_ok-spoken.ensures.said;
      declared = c.in_ok-declared.ensures;
    })
    (λ es are same.
    c.in_err-history.ensures.none (ap Err (handed_on told.1 told.2 e)) es are
    (data_values c.in-Some.entries.now c.in_ok-spoken.spoken.items c.in_ok-spoken.ensures.values ∙ same))

pub returns-clause-document : goal.returns-clause-document
returns-clause-document c =
    document_found (history_of c.in_ok-history.history.items)
    (record {
      document = c.in-Some.ensures.some;
      between = c.book_in.new.names;
      book_is = c.in_ok-statements.ensures.said;
      said = c.in_ok-spoken.ensures.said;
      declared = c.in_ok-declared.ensures;
    })
    (c.in_ok-is_book.ensures.0 c.if-not-is_book.false)
    (sym (data_values c.in-Some.entries.now c.in_ok-spoken.spoken.items c.in_ok-spoken.ensures.values) ∙ c.in_ok-history.ensures.values)
    c.in_ok-history.ensures.found
