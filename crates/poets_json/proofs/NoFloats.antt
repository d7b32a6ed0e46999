-- A document has no float.
use Rattle.std.proofs.Common.{◌≡◌, ℕ, List, [], ◌∷◌, map, Option, Some, None, false, refl}
use Rattle.std.proofs.lemmas.Bool.{or_from}
use Rattle.serde_json.specs.Data.{Data, string}
use Rattle.serde_json.specs.View.{items_of}
use Rattle.serde_json.specs.Written.{has_float, items_have_float}
use Rattle.poets_value.specs.declared.value.Name.{Name}
use Rattle.poets_value.specs.declared.value.Value.{Value}
use Rattle.poets_report.specs.Plain.{Answer, Single, Rows, KeyRow}
use Rattle.poets_lex.specs.Table.{Table}
use Rattle.poets_command.specs.Plain.{Reply, Entry}
use Rattle.poets_json.specs.Document.{value_data, row_data, answer_data, part_data, list_data, reply_data, entry_data}

no_float_list :
    {A : Type 0} (data_of : A → Data) → ((x : A) → has_float (data_of x) ≡ false) → (xs : List A) →
    items_have_float (items_of (map data_of xs)) ≡ false
no_float_list data_of each [] = refl
no_float_list data_of each (x ∷ xs) = or_from _ _ (each x) (no_float_list data_of each xs)

-- nor has a list of texts
pub no_float_texts : (texts : List (List ℕ)) → has_float (list_data string texts) ≡ false
no_float_texts texts = no_float_list string (λ _. refl) texts

no_float_value : (names : Table) (v : Option Value) → has_float (value_data names v) ≡ false
no_float_value names None = refl
no_float_value names (Some v) = refl

no_float_row : (names : Table) (row : KeyRow) → has_float (row_data names row) ≡ false
no_float_row names row = or_from _ _ (no_float_value names row.0) (or_from _ _ (no_float_value names row.1) refl)

no_float_answer : (names : Table) (a : Answer) → has_float (answer_data names a) ≡ false
no_float_answer names (Single v) = or_from _ _ (no_float_value names v) refl
no_float_answer names (Rows rows) = or_from _ _ (no_float_list (row_data names) (no_float_row names) rows) refl

no_float_part : (names : Table) (part : Name × Answer) → has_float (part_data names part) ≡ false
no_float_part names part = or_from _ _ (no_float_answer names part.1) refl

no_float_folio :
    (names : Table) (rows : List (Name × Answer)) (total : Option (Option Value)) →
    has_float (reply_data names (Reply.Folio rows total)) ≡ false
no_float_folio names rows None = or_from _ _ (no_float_list (part_data names) (no_float_part names) rows) refl
no_float_folio names rows (Some v) =
    or_from _ _ (no_float_list (part_data names) (no_float_part names) rows)
    (or_from _ _ (no_float_value names v) refl)

no_float_reply : (names : Table) (r : Reply) → has_float (reply_data names r) ≡ false
no_float_reply names (Reply.Answered a) = or_from _ _ (no_float_answer names a) refl
no_float_reply names (Reply.Folio rows total) = no_float_folio names rows total
no_float_reply names r = refl

pub no_float_entry : (names : Table) (e : Entry) → has_float (entry_data names e) ≡ false
no_float_entry names e = or_from _ _ (no_float_reply names e.reply) refl
