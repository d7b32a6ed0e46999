-- How deep a document nests.
use Rattle.std.proofs.Common.{◌≡◌, ℕ, ◌≤◌, List, [], ◌∷◌, map, Option, Some, None, ap, arith}
use Rattle.std.specs.Prelude.{All}
use Rattle.std.proofs.lemmas.List.Elements.{All-nil, All-cons}
use Rattle.serde_json.specs.Data.{Data, Items, depth, items_depth, string}
use Rattle.serde_json.specs.Read.{max_depth}
use Rattle.serde_json.specs.View.{items_of, items_view, view}
use Rattle.serde_json.specs.declared.value.Value.{Value as Json}
use Rattle.poets_value.specs.declared.value.Name.{Name}
use Rattle.poets_value.specs.declared.value.Value.{Value}
use Rattle.poets_report.specs.Plain.{Answer, Single, Rows, KeyRow}
use Rattle.poets_lex.specs.Table.{Table}
use Rattle.poets_command.specs.Plain.{Reply, Entry}
use Rattle.poets_json.specs.Document.{value_data, row_data, answer_data, part_data, list_data, reply_data, entry_data}
use Rattle.poets_import.specs.code.Parts.{document_with}

depth_list :
    {A : Type 0} (data_of : A → Data) (n : ℕ) → ((x : A) → depth (data_of x) ≤ n) → (xs : List A) →
    items_depth (items_of (map data_of xs)) ≤ n
depth_list data_of n each [] = omega arith
depth_list data_of n each (x ∷ xs) = omega (arith, each x, depth_list data_of n each xs)

depth_value : (names : Table) (v : Option Value) → depth (value_data names v) ≤ 0
depth_value names None = omega arith
depth_value names (Some v) = omega arith

depth_row : (names : Table) (row : KeyRow) → depth (row_data names row) ≤ 1
depth_row names row = omega (arith, depth_value names row.0, depth_value names row.1)

depth_answer : (names : Table) (a : Answer) → depth (answer_data names a) ≤ 3
depth_answer names (Single v) = omega (arith, depth_value names v)
depth_answer names (Rows rows) = omega (arith, depth_list (row_data names) 1 (depth_row names) rows)

depth_part : (names : Table) (part : Name × Answer) → depth (part_data names part) ≤ 4
depth_part names part = omega (arith, depth_answer names part.1)

depth_folio :
    (names : Table) (rows : List (Name × Answer)) (total : Option (Option Value)) →
    depth (reply_data names (Reply.Folio rows total)) ≤ 6
depth_folio names rows None = omega (arith, depth_list (part_data names) 4 (depth_part names) rows)
depth_folio names rows (Some v) =
    omega (arith, depth_list (part_data names) 4 (depth_part names) rows, depth_value names v)

depth_reply : (names : Table) (r : Reply) → depth (reply_data names r) ≤ 6
depth_reply names (Reply.Answered a) = omega (arith, depth_answer names a)
depth_reply names (Reply.Folio rows total) = depth_folio names rows total
depth_reply names r = omega arith

pub depth_entry : (names : Table) (e : Entry) → depth (entry_data names e) ≤ max_depth
depth_entry names e = omega (arith, depth_reply names e.reply)

pub depth_texts : (texts : List (List ℕ)) → depth (list_data string texts) ≤ max_depth
depth_texts texts = omega (arith, depth_list string 0 (λ t. omega arith) texts)

-- ---- parts nest no deeper

pub depth_book : (d book : Data) (entries : Items) → d ≡ document_with book entries → depth d ≤ max_depth → depth book ≤ max_depth
depth_book d book entries e deep = omega (arith, ap depth e, deep)

depth_items : (values : List Json) (n : ℕ) → items_depth (items_view values) ≤ n → All (λ v. depth (view v) ≤ n) values
depth_items [] n deep = All-nil (λ v. depth (view v) ≤ n)
depth_items (v ∷ vs) n deep =
    All-cons (λ w. depth (view w) ≤ n) v vs (omega (arith, deep)) (depth_items vs n (omega (arith, deep)))

pub depth_entries :
    (d book : Data) (values : List Json) → d ≡ document_with book (items_view values) → depth d ≤ max_depth →
    All (λ v. depth (view v) ≤ max_depth) values
depth_entries d book values e deep = depth_items values max_depth (omega (arith, ap depth e, deep))
