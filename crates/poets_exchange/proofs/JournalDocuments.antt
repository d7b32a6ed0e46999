-- The document of a journal is read back.
use Rattle.std.proofs.Common.{refl, subst}
use Rattle.poets_syntax.specs.Plain.{Book}
use Rattle.poets_command.specs.Declarations.{declared_by, reports_of}
use Rattle.poets_history.specs.Histories.{IsLegal}
use Rattle.poets_session.proofs.LawsFitting.{read_table}
use Rattle.poets_import.specs.Reading.{Declare}
use Rattle.poets_exchange.specs.Exportable.{exported_from}
use Rattle.poets_exchange.specs.Laws.{JournalsAreReadBack}
use Rattle.poets_exchange.proofs.Journals.{journals_can_be_exported}
use Rattle.poets_exchange.proofs.Listed.{as_listed, in_order}
use Rattle.poets_exchange.proofs.ReadBack.{exported_are_read_back}
use Rattle.poets_exchange.proofs.SessionBooks.{same_book, session_books_can_be_exported}

pub journals_are_read_back : JournalsAreReadBack
journals_are_read_back text form names statements declared h session are legal calls short few =
    let x = exported_from statements declared h in
    let declare : Declare statements x = record {
      names = as_listed (declared_by statements) declared are;
      templates = refl;
      reports = refl;
    } in
    let ours = subst (λ (book : Book). IsLegal book (reports_of statements) h) (same_book statements x declare) legal in
    exported_are_read_back names x (read_table text names statements session.read)
    (record {
      book = session_books_can_be_exported text form names statements x session declare
          (in_order (declared_by statements) declared are);
      history = journals_can_be_exported text form names statements x session declare ours calls;
      short = short;
    })
    few
