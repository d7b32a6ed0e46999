use Rattle.std.proofs.Common.{ap, ◌∙◌}
use Rattle.poets_lex.specs.Table.{texts_of}
use Rattle.poets_command.specs.Calls.{history_of}
use Rattle.poets_json.specs.Plain.{exported_with}
use Rattle.poets_json.proofs.Texts.{put_document}
use Rattle.poets_json.proofs.export.document_text.Goals as goal

pub returns : goal.returns
returns c =
    put_document c.args.names.now (exported_with c.args.book.now c.args.reports.now c.args.history.now)
    (texts_of c.as_slice.result.now) (history_of c.as_slice-2.result.now)
    (ap texts_of c.as_slice.ensures ∙ c.in_ok-texts.ensures) (ap history_of c.as_slice-2.ensures)
    c.new-out.result c.new-out.ensures.bytes c.put.new.out c.put_texts.new.out c.put-2.new.out c.put_entries.new.out c.put-3.new.out
    c.in_ok-put.ensures c.in_ok-put_texts.ensures c.in_ok-put-2.ensures
    c.in_ok-put_entries.ensures c.in_ok-put-3.ensures
