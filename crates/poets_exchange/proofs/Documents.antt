-- Documents of what is exported.
use Rattle.std.proofs.Common.{◌<◌, ◌^◌, All, refl}
use Rattle.std.specs.List.{flat_map}
use Rattle.std.proofs.lemmas.List.Elements.{All-weaker}
use Rattle.poets_lex.specs.Table.{Table, IsTable}
use Rattle.poets_command.specs.Plain.{Entry}
use Rattle.poets_command.specs.Taken.{IsTaken}
use Rattle.poets_print.specs.Laws.{CanWriteCommand}
use Rattle.poets_named.specs.Written.{CanWriteReply}
use Rattle.poets_named.proofs.WrittenHistories.{replies_can_be_written}
use Rattle.poets_json.specs.Plain.{Exported}
use Rattle.poets_import.specs.Phrases.{entry_phrases}
use Rattle.poets_import.specs.Reading.{IsReadable, declared_in}
use Rattle.poets_exchange.specs.Exportable.{IsExportable, book_in, statements_in}
use Rattle.poets_exchange.specs.Laws.{ExportedAreDocuments}
use Rattle.poets_exchange.proofs.Lists.{both_hold}
use Rattle.poets_exchange.proofs.Declaring.{books_declare_themselves}
use Rattle.poets_exchange.proofs.Spoken.{IsGood, entries_spoken, phrases_said, replied, statements_spoken}
use Rattle.poets_exchange.proofs.Spoken.{statements_written}

module _ (names : Table) (x : Exported) (table : IsTable names) (can : IsExportable names x) where
  abbrev CanReply : Entry → Type 0
  CanReply e = CanWriteReply names (declared_in x.declared) e.reply

  abbrev IsAsked : Entry → Type 0
  IsAsked e = IsTaken (book_in x) x.reports e.command × CanWriteCommand names e.command

  replies_written : All CanReply x.history
  replies_written =
      replies_can_be_written names (book_in x) x.reports x.history table can.book.book can.book.rules can.history.legal
      can.history.commands

  entries_good : All (IsGood names table (declared_in x.declared)) x.history
  entries_good =
      All-weaker (λ e. IsAsked e × CanReply e) (IsGood names table (declared_in x.declared))
      (λ e h. ((h.0.0.whole, h.0.1), h.1)) x.history
      (both_hold IsAsked CanReply x.history can.history.commands replies_written)

  entries_readable : All (IsReadable names (declared_in x.declared)) x.history
  entries_readable =
      All-weaker (λ e. (e.clerk < 2 ^ 32) × CanReply e) (IsReadable names (declared_in x.declared))
      (λ e h. (h.0, replied names table (declared_in x.declared) e.reply h.1)) x.history
      (both_hold (λ e. e.clerk < 2 ^ 32) CanReply x.history can.history.clerks replies_written)

pub exported_are_documents : ExportedAreDocuments
exported_are_documents names x table can = record {
  document = refl;
  between = names;
  book = record {
    statements = statements_in x;
    read = statements_spoken names table (statements_in x) (statements_written names x can.book) can.short.book;
    declare = books_declare_themselves names x can.book;
    declared = can.book.declared;
  };
  said =
      phrases_said names table (flat_map entry_phrases x.history)
      (entries_spoken names table (declared_in x.declared) x.history (entries_good names x table can)
      can.short.history);
  entries = entries_readable names x table can;
}
