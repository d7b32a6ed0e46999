-- What is exported is read back.
use Rattle.std.proofs.Common.{◌≡◌, ◌^◌, ◌<◌, length, All, Some, sym, subst, ◌∙◌}
use Rattle.std.proofs.lemmas.List.Elements.{All-weaker}
use Rattle.serde_json.specs.Data.{Data}
use Rattle.poets_lex.specs.Table.{Table, IsTable}
use Rattle.poets_command.specs.Taken.{IsTaken}
use Rattle.poets_history.specs.Frame.{frame_of}
use Rattle.poets_print.specs.Laws.{CanWriteCommand, CanWriteNumberOf}
use Rattle.poets_print.proofs.WritingCommands.{number_written}
use Rattle.poets_json.specs.Plain.{Exported}
use Rattle.poets_json.specs.Document.{document}
use Rattle.poets_import.specs.Reading.{IsDocumentOf}
use Rattle.poets_import.proofs.OnlyDocument.{one_document}
use Rattle.poets_exchange.specs.Exportable.{IsExportable, book_in}
use Rattle.poets_exchange.specs.Laws.{ExportedAreReadBack, IsReadAsOnly}
use Rattle.poets_exchange.proofs.Counts.{HasSmall, replies_small}
use Rattle.poets_exchange.proofs.Documents.{exported_are_documents}
use Rattle.poets_exchange.proofs.Json.{compact_utf8, reads_back}
use Rattle.poets_exchange.proofs.Lists.{both_hold}
use Rattle.poets_exchange.proofs.SoundDocuments.{IsSmallEntry, document_sound, document_shallow}

same_value : (d e : Data) → Some d ≡ Some e → d ≡ e
same_value d e h = cc

module _ (names : Table) (x : Exported) (table : IsTable names) (can : IsExportable names x) where
  entries_small : length x.history < 2 ^ 64 → All (IsSmallEntry names table) x.history
  entries_small few =
      both_hold (λ e. e.clerk < 2 ^ 32) (λ e. HasSmall e.reply) x.history can.history.clerks
      (replies_small (frame_of (book_in x) x.reports) can.history.legal
      (All-weaker (λ e. IsTaken (book_in x) x.reports e.command × CanWriteCommand names e.command)
      (λ e. CanWriteNumberOf e.command) (λ e h. number_written names e.command h.1) x.history can.history.commands)
      few)

  -- a value that the document is, is a document of nothing else
  nothing_else :
      (value : Data) → value ≡ document names x → (after : Table) (y : Exported) → IsDocumentOf names value after y →
      (after ≡ names) × (y ≡ x)
  nothing_else value same after y is =
      one_document names (document names x) after names y x table
      (subst (λ (v : Data). IsDocumentOf names v after y) same is) (exported_are_documents names x table can)

pub exported_are_read_back : ExportedAreReadBack
exported_are_read_back names x table can few =
    let sound = document_sound names table x (entries_small names x table can few) in
    let read_it = reads_back (document names x) sound (document_shallow names table x) in
    let only : IsReadAsOnly names x = λ after y is.
    let same = same_value is.1.0 (document names x) (sym is.1.1 ∙ read_it) in
    nothing_else names x table can is.1.0 same after y is.1.2 in
    let document_is = exported_are_documents names x table can in
    ((compact_utf8 (document names x) sound, (document names x, read_it, document_is)), only)
