-- What the texts of an entry say, and what they say in the document of an entry.
use Rattle.std.proofs.Common.{◌≡◌, ℕ, List, [], ◌∷◌, map, Option, Some, None, refl, sym, subst, ◌∙◌}
use Rattle.std.specs.Prelude.{All, codes}
use Rattle.std.proofs.lemmas.List.{append-nil}
use Rattle.std.proofs.lemmas.List.Elements.{All-nil, All-cons, All-head, All-tail}
use Rattle.serde_json.specs.Data.{Data, Items}
use Rattle.serde_json.specs.View.{items_of}
use Rattle.poets_value.specs.declared.value.Name.{Name}
use Rattle.poets_value.specs.declared.value.Value.{Value}
use Rattle.poets_expr.specs.Env.{Declared}
use Rattle.poets_syntax.specs.Contract.{Contract}
use Rattle.poets_report.specs.Plain.{Answer}
use Rattle.poets_lex.specs.Table.{Table, Extends}
use Rattle.poets_lex.proofs.Readings.{Extends-reading, Extends-then}
use Rattle.poets_command.specs.Plain.{Reply, Entry}
use Rattle.poets_command.specs.Said.{Command}
use Rattle.poets_json.specs.Document.{entry_data, part_data, reply_data}
use Rattle.poets_literals.specs.Declared.{IsPlaced}
use Rattle.poets_print.specs.Lines.{command_text}
use Rattle.poets_print.specs.Texts.{contract_text, name_text}
use Rattle.poets_import.specs.Phrases.{AreSaid, Nothing, Next, Called, Owed, Phrase, Says, Sentence, entry_phrases, reply_phrases}
use Rattle.poets_import.specs.Reading.{HasReplied, HasValues}
use Rattle.poets_import.specs.code.Finding.{IsPart, IsTold, ShowsOwed, owed_of}
use Rattle.poets_import.specs.code.Members.{items_at, text_at}
use Rattle.poets_import.specs.code.Spoken.{AreRead, NoValues, Value as AValue, EntrySaid, IsCalled, IsRowOf, NameSaid, OwedSaid}
use Rattle.poets_import.specs.code.Spoken.{ReplySaid, RowsSaid, Said, list_in}
use Rattle.poets_import.proofs.Called.{called_placed, own_name}

-- ---- names are added

pub says_extends : {before after : Table} {text : List ℕ} {phrase : Phrase} → Says before text phrase after → Extends before after
says_extends says = Extends-reading says.cut

pub extends_itself : (table : Table) → Extends table table
extends_itself table = ([], sym (append-nil table))

pub rows_extend :
    {before after : Table} {ds : List Data} {xs : List Name} → AreRead IsRowOf before ds xs after → Extends before after
rows_extend {before = before} NoValues = extends_itself before
rows_extend {before = before} {after = after} (AValue {between = between} row more) =
    Extends-then before between after (says_extends row.2.says) (rows_extend more)

pub phrases_extend : {names before after : Table} {phrases : List Phrase} → AreSaid names before phrases after → Extends before after
phrases_extend {before = before} Nothing = extends_itself before
phrases_extend {before = before} {after = after} (Next {between = between} says more) =
    Extends-then before between after (says_extends says) (phrases_extend more)

-- ---- a document of an entry says its phrases

-- a reply without texts that have names says nothing
nothing_said :
    (before : Table) (d : Data) → text_at (codes "name") d ≡ None → items_at (codes "rows") d ≡ None →
    text_at (codes "residual") d ≡ None → ReplySaid before d None before
nothing_said before d name rows residual = record {
  named = before;
  listed = before;
  name = rw name refl;
  rows = rw rows refl;
  residual = rw residual (refl, refl);
}

rows_said :
    (names before after : Table) (rows : List (Name × Answer)) → Extends after names →
    AreSaid names before (map (λ part. Called part.0) rows) after →
    AreRead IsRowOf before (list_in (items_of (map (part_data names) rows))) (map (λ part. part.0) rows) after
rows_said names before after [] more Nothing = NoValues
rows_said names before after (part ∷ rows) more (Next {between = between} says others) =
    let extends = Extends-then between after names (phrases_extend others) more in
    AValue (name_text names part.0, refl, record { is_name = (own_name before between names part.0 extends says).0; says = says })
    (rows_said names between after rows more others)

folio_said :
    (names before after : Table) (rows : List (Name × Answer)) (total : Option (Option Value)) → Extends after names →
    AreSaid names before (map (λ part. Called part.0) rows) after →
    ReplySaid before (reply_data names (Reply.Folio rows total)) None after
folio_said names before after rows None more said = record {
  named = before;
  listed = after;
  name = refl;
  rows = (map (λ part. part.0) rows, rows_said names before after rows more said);
  residual = (refl, refl);
}
folio_said names before after rows (Some total) more said = record {
  named = before;
  listed = after;
  name = refl;
  rows = (map (λ part. part.0) rows, rows_said names before after rows more said);
  residual = (refl, refl);
}

pub reply_said :
    (names before after : Table) (r : Reply) → Extends after names → AreSaid names before (reply_phrases r) after →
    ReplySaid before (reply_data names r) (owed_of r) after
reply_said names before after (Reply.NoContract x) more (Next says Nothing) = record {
  named = after;
  listed = after;
  name = (x, record { is_name = (own_name before after names x more says).0; says = says });
  rows = refl;
  residual = (refl, refl);
}
reply_said names before after (Reply.Shown c n may_end ended) more (Next says Nothing) = record {
  named = before;
  listed = before;
  name = refl;
  rows = refl;
  residual = (c, refl, says);
}
reply_said names before after (Reply.Folio rows total) more said = folio_said names before after rows total more said
reply_said names before after r more Nothing = nothing_said before _ refl refl refl

pub entry_said :
    (names before after : Table) (e : Entry) → Extends after names → AreSaid names before (entry_phrases e) after →
    EntrySaid before (entry_data names e) (e.command, owed_of e.reply) after
entry_said names before after e more (Next {between = between} says others) = record {
  text = command_text names e.command;
  reply = reply_data names e.reply;
  between = between;
  has_text = refl;
  has_reply = refl;
  command = says;
  replied = reply_said names between after e.reply more others;
}

-- ---- what an entry's document says are its phrases

same_text : (t u : List ℕ) → Some t ≡ Some u → t ≡ u
same_text t u e = cc

ends_here : (names before after : Table) → before ≡ after → AreSaid names before [] after
ends_here names before after e = subst (λ (t : Table). AreSaid names before [] t) e Nothing

nothing_more :
    (names before : Table) (d : Data) (owed : Option Contract) (after : Table) → text_at (codes "name") d ≡ None →
    items_at (codes "rows") d ≡ None → text_at (codes "residual") d ≡ None → ReplySaid before d owed after →
    AreSaid names before [] after
nothing_more names before d owed after name rows residual said =
    ends_here names before after
    ((rw name at said.name) ∙ ((rw rows at said.rows) ∙ (rw residual at said.residual).1))

rows_phrases :
    (names before after : Table) (rows : List (Name × Answer)) (xs : List Name) → Extends after names →
    All (λ part. IsPlaced names part.0) rows →
    AreRead IsRowOf before (list_in (items_of (map (part_data names) rows))) xs after →
    AreSaid names before (map (λ part. Called part.0) rows) after
rows_phrases names before after [] xs more low NoValues = Nothing
rows_phrases names before after (part ∷ rows) xs more low (AValue {between = between} {x = y} {xs = ys} row others) =
    let IsLow : Name × Answer → Type 0 = λ part. IsPlaced names part.0 in
    let extends = Extends-then between after names (rows_extend others) more in
    let same = same_text (name_text names part.0) row.0 row.1 in
    let called = subst (λ (t : List ℕ). IsCalled before t y between) (sym same) row.2 in
    let name = called_placed before between names part.0 y extends (All-head IsLow part rows low) called in
    Next (subst (λ (x : Name). Says before (name_text names part.0) (Called x) between) name called.says)
    (rows_phrases names between after rows ys more (All-tail IsLow part rows low) others)

from_rows :
    (names before named listed after : Table) (rows : List (Name × Answer)) (xs : List Name) → before ≡ named →
    Extends after names → All (λ part. IsPlaced names part.0) rows →
    AreRead IsRowOf named (list_in (items_of (map (part_data names) rows))) xs listed → listed ≡ after →
    AreSaid names before (map (λ part. Called part.0) rows) after
from_rows names before named listed after rows xs same more low read end =
    let ds = list_in (items_of (map (part_data names) rows)) in
    rows_phrases names before after rows xs more low
    (subst (λ (t : Table). AreRead IsRowOf t ds xs after) (sym same)
    (subst (λ (t : Table). AreRead IsRowOf named ds xs t) end read))

folio_phrases :
    (names before after : Table) (rows : List (Name × Answer)) (total : Option (Option Value)) (owed : Option Contract) →
    Extends after names → All (λ part. IsPlaced names part.0) rows →
    ReplySaid before (reply_data names (Reply.Folio rows total)) owed after →
    AreSaid names before (map (λ part. Called part.0) rows) after
folio_phrases names before after rows None owed more low said =
    from_rows names before said.named said.listed after rows said.rows.0 said.name more low said.rows.1 said.residual.1
folio_phrases names before after rows (Some total) owed more low said =
    from_rows names before said.named said.listed after rows said.rows.0 said.name more low said.rows.1 said.residual.1

no_contract_phrases :
    (names before named listed after : Table) (x y : Name) → Extends after names → IsPlaced names x →
    IsCalled before (name_text names x) y named → named ≡ listed → listed ≡ after →
    AreSaid names before (Called x ∷ []) after
no_contract_phrases names before named listed after x y more low says rows residual =
    let called = subst (λ (t : Table). IsCalled before (name_text names x) y t) (rows ∙ residual) says in
    let name = called_placed before after names x y more low called in
    Next (subst (λ (z : Name). Says before (name_text names x) (Called z) after) name called.says) Nothing

same_contract : (o : Option Contract) (c d : Contract) → o ≡ Some c → o ≡ Some d → d ≡ c
same_contract o c d e f = cc

module _ (names before named listed after : Table) where
  shown_phrases :
      (c d : Contract) (owed : Option Contract) → owed ≡ Some c →
      before ≡ named → named ≡ listed → owed ≡ Some d → Says listed (contract_text names c) (Owed d) after →
      AreSaid names before (Owed c ∷ []) after
  shown_phrases c d owed shows name rows is says =
      Next
      (subst (λ (t : Table). Says t (contract_text names c) (Owed c) after) (sym (name ∙ rows))
      (subst (λ (e : Contract). Says listed (contract_text names c) (Owed e) after) (same_contract owed c d shows is) says))
      Nothing

pub reply_phrases_said :
    (names before after : Table) (declared : Declared) (r : Reply) (owed : Option Contract) →
    Extends after names → IsTold names declared r → ShowsOwed owed r → ReplySaid before (reply_data names r) owed after →
    AreSaid names before (reply_phrases r) after
reply_phrases_said names before after declared (Reply.NoContract x) owed more told shows said =
    no_contract_phrases names before said.named said.listed after x said.name.0 more told said.name.1 said.rows said.residual.1
reply_phrases_said names before after declared (Reply.Shown c n may_end ended) owed more told shows said =
    shown_phrases names before said.named said.listed after c said.residual.0 owed shows said.name said.rows
    said.residual.1 said.residual.2
reply_phrases_said names before after declared (Reply.Folio rows total) owed more told shows said =
    folio_phrases names before after rows total owed more
    (λ i d low. (told.0 i d low).0) said
reply_phrases_said names before after declared r owed more told shows said =
    nothing_more names before (reply_data names r) owed after refl refl refl said

same_command : (t u : List ℕ) → Some t ≡ Some u → t ≡ u
same_command t u e = cc

same_reply : (d e : Data) → Some d ≡ Some e → d ≡ e
same_reply d e f = cc

pub entry_phrases_said :
    (names before after : Table) (declared : Declared) (e : Entry) (owed : Option Contract) →
    Extends after names → IsTold names declared e.reply → ShowsOwed owed e.reply →
    EntrySaid before (entry_data names e) (e.command, owed) after → AreSaid names before (entry_phrases e) after
entry_phrases_said names before after declared e owed more told shows said =
    Next
    (subst (λ (t : List ℕ). Says before t (Sentence (Command e.command)) said.between)
    (sym (same_command (command_text names e.command) said.text said.has_text)) said.command)
    (reply_phrases_said names said.between after declared e.reply owed more told shows
    (subst (λ (d : Data). ReplySaid said.between d owed after)
    (sym (same_reply (reply_data names e.reply) said.reply said.has_reply)) said.replied))

pub entry_extends : {before after : Table} {d : Data} {x : Said} → EntrySaid before d x after → Extends before after
entry_extends {before} {after} said =
    Extends-then before said.between after (says_extends said.command) (reply_extends said.replied)
  where
    same_extends : (a b : Table) → a ≡ b → Extends a b
    same_extends a b e = subst (λ (t : Table). Extends a t) e (extends_itself a)

    name_extends : (a b : Table) (o : Option (List ℕ)) → NameSaid a o b → Extends a b
    name_extends a b None said = same_extends a b said
    name_extends a b (Some text) said = says_extends said.1.says

    listed_extends : (a b : Table) (o : Option Items) → RowsSaid a o b → Extends a b
    listed_extends a b None said = same_extends a b said
    listed_extends a b (Some rows) said = rows_extend said.1

    owed_extends : (a b : Table) (o : Option (List ℕ)) (c : Option Contract) → OwedSaid a o c b → Extends a b
    owed_extends a b None c said = same_extends a b said.1
    owed_extends a b (Some text) c said = says_extends said.2

    reply_extends : {a b : Table} {d : Data} {c : Option Contract} → ReplySaid a d c b → Extends a b
    reply_extends {a} {b} {d} {c} said =
        Extends-then a said.named b (name_extends a said.named (text_at (codes "name") d) said.name)
        (Extends-then said.named said.listed b (listed_extends said.named said.listed (items_at (codes "rows") d) said.rows)
        (owed_extends said.listed b (text_at (codes "residual") d) c said.residual))

-- ---- names that a reply tells are listed

rows_told :
    (names before after : Table) (declared : Declared) (rows : List (Name × Answer)) → Extends after names →
    All (λ part. HasValues names declared part.1) rows → AreSaid names before (map (λ part. Called part.0) rows) after →
    All (IsPart names declared) rows
rows_told names before after declared [] more values said = All-nil (IsPart names declared)
rows_told names before after declared (part ∷ rows) more values (Next {between = between} says others) =
    let Has : Name × Answer → Type 0 = λ part. HasValues names declared part.1 in
    let extends = Extends-then between after names (phrases_extend others) more in
    All-cons (IsPart names declared) part rows
    ((own_name before between names part.0 extends says).1, All-head Has part rows values)
    (rows_told names between after declared rows more (All-tail Has part rows values) others)

pub told_reply :
    (names before after : Table) (declared : Declared) (r : Reply) → Extends after names → HasReplied names declared r →
    AreSaid names before (reply_phrases r) after → IsTold names declared r
told_reply names before after declared (Reply.NoContract x) more replied (Next {between = between} says others) =
    (own_name before between names x (Extends-then between after names (phrases_extend others) more) says).1
told_reply names before after declared (Reply.Folio rows total) more replied said =
    (rows_told names before after declared rows more replied.0 said, replied.1)
told_reply names before after declared (Reply.Registered n) more replied said = replied
told_reply names before after declared (Reply.NameTaken n) more replied said = replied
told_reply names before after declared Reply.Hopeless more replied said = replied
told_reply names before after declared Reply.TooLarge more replied said = replied
told_reply names before after declared (Reply.Recorded n may_end) more replied said = replied
told_reply names before after declared (Reply.Voided n may_end) more replied said = replied
told_reply names before after declared (Reply.NoEvent k) more replied said = replied
told_reply names before after declared Reply.Ended more replied said = replied
told_reply names before after declared (Reply.Late d) more replied said = replied
told_reply names before after declared Reply.Unmatched more replied said = replied
told_reply names before after declared Reply.EndedNow more replied said = replied
told_reply names before after declared Reply.AlreadyEnded more replied said = replied
told_reply names before after declared Reply.NotPerformed more replied said = replied
told_reply names before after declared (Reply.Shown c n may_end ended) more replied said = replied
told_reply names before after declared (Reply.Answered a) more replied said = replied
told_reply names before after declared (Reply.Watching n) more replied said = replied
told_reply names before after declared (Reply.NoWatch n) more replied said = replied

pub replied_of : (names : Table) (declared : Declared) (r : Reply) → IsTold names declared r → HasReplied names declared r
replied_of names declared (Reply.NoContract x) told = tt
replied_of names declared (Reply.Folio rows total) told = (λ i d low. (told.0 i d low).1, told.1)
replied_of names declared (Reply.Registered n) told = told
replied_of names declared (Reply.NameTaken n) told = told
replied_of names declared Reply.Hopeless told = told
replied_of names declared Reply.TooLarge told = told
replied_of names declared (Reply.Recorded n may_end) told = told
replied_of names declared (Reply.Voided n may_end) told = told
replied_of names declared (Reply.NoEvent k) told = told
replied_of names declared Reply.Ended told = told
replied_of names declared (Reply.Late d) told = told
replied_of names declared Reply.Unmatched told = told
replied_of names declared Reply.EndedNow told = told
replied_of names declared Reply.AlreadyEnded told = told
replied_of names declared Reply.NotPerformed told = told
replied_of names declared (Reply.Shown c n may_end ended) told = told
replied_of names declared (Reply.Answered a) told = told
replied_of names declared (Reply.Watching n) told = told
replied_of names declared (Reply.NoWatch n) told = told
