use Rattle.std.proofs.Common.{refl, sym, ◌∙◌, ap, subst, arith}
use Rattle.std.proofs.lemmas.List.{length-map}
use Rattle.poets_lex.proofs.Readings.{reading-length}
use Rattle.poets_command.specs.Calls.{history_of}
use Rattle.poets_session.proofs.LawsFitting.{read_written}
use Rattle.poets_making.proofs.Taking.{whole_rules}
use Rattle.poets_journal.specs.Journals.{texts_of}
use Rattle.poets_print.specs.Lines.{history_text}
use Rattle.poets_writing.specs.Writing.{stream}
use Rattle.poets_keeping.specs.Journals.{damaged_line}
use Rattle.poets_keeping.specs.Writing.{EndsWriting}
use Rattle.poets_keeping.proofs.Recovered.{line_told, texts_made, texts_refused, texts_unmade}
use Rattle.poets_keeping.proofs.recovering.recover_texts.Goals as goal

pub recover-requires-clause-few : goal.recover-requires-clause-few
recover-requires-clause-few g c = λ _ _. let short = c.requires.short in let few = reading-length c.requires.holds.1.read.lexed in omega (arith, short, few)

pub recover-requires-clause-whole : goal.recover-requires-clause-whole
recover-requires-clause-whole g c = λ _ _.
    let session = c.requires.holds in
    whole_rules c.args.session.rules c.args.session.names session.0 session.2.book (read_written c.requires.text c.args.session.names session.0 session.1.read)

pub returns-in-Ok-clause-recovers : goal.returns-in-Ok-clause-recovers
returns-in-Ok-clause-recovers g c = (
  c.len-stored.ensures ∙ sym (length-map c.args.texts.now.items (λ text. text.items)),
  λ statements read.
      let made = c.in-Ok.field-0 in
      let sink = stream (g.K.Sink.held c.args.sink.now) (g.K.Sink.faults c.args.sink.now) in
      let after = stream (g.K.Sink.held c.write_entries-status.new.sink) (g.K.Sink.faults c.write_entries-status.new.sink) in
      let status = c.write_entries-status.result in
      texts_made c.args.session statements (texts_of c.args.texts.now) sink after read.holds made.names (history_of made.history.items) status
      c.in-Ok.ensures.calls c.in-Ok.ensures.within c.in-Ok.ensures.right
      (subst (λ es. EndsWriting 0 (history_text made.names (history_of es)) sink after status) c.as_slice.ensures c.write_entries-status.ensures.written),
)

pub returns-in-Err-Text-clause-recovers : goal.returns-in-Err-Text-clause-recovers
returns-in-Err-Text-clause-recovers g c = (
  c.tell.ensures.stored ∙ c.len-stored.ensures ∙ sym (length-map c.args.texts.now.items (λ text. text.items)),
  λ statements read.
      texts_refused c.args.session statements (texts_of c.args.texts.now) _ _ read.holds c.in-Err-Text.number c.tell.result.status _
      (rw c.in-Err-Text.field-0-is at c.in-Err-Text.ensures.refused) (ap history_of c.tell.ensures.history)
      (line_told g.K.Sink.held g.K.Sink.faults c.args.sink.now c.tell.new.sink c.damaged_line-line.result (damaged_line c.in-Err-Text.number) 9 c.tell.result.status c.damaged_line-line.ensures c.tell.ensures.told c.tell.ensures.untold),
)

pub returns-clause-recovers : goal.returns-clause-recovers
returns-clause-recovers g c = (
  c.stopped.ensures.stored ∙ c.len-stored.ensures ∙ sym (length-map c.args.texts.now.items (λ text. text.items)),
  λ statements read. texts_unmade c.args.session statements (texts_of c.args.texts.now) _ _ read.holds c.stopped.result.status _ refl c.stopped.ensures.status (ap history_of c.stopped.ensures.history),
)
