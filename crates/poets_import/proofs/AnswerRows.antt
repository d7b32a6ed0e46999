-- Rows of answers and portfolios, in their values.
use Rattle.std.proofs.Common.{◌≡◌, List, All, map, Option, Some, None, option_map, refl, sym, ap, ◌∙◌}
use Rattle.std.specs.Prelude.{codes}
use Rattle.serde_json.specs.Data.{Data, Items, array, member, no_members, object}
use Rattle.serde_json.specs.Find.{get}
use Rattle.serde_json.specs.View.{items_of, items_view, view}
use Rattle.serde_json.specs.declared.value.Value.{Value as Json}
use Rattle.poets_value.specs.declared.value.Name.{Name}
use Rattle.poets_value.specs.declared.value.Value.{Value}
use Rattle.poets_expr.specs.Env.{Declared}
use Rattle.poets_report.specs.Plain.{Answer, Single, Rows, KeyRow}
use Rattle.poets_lex.specs.Table.{Table}
use Rattle.poets_command.specs.Plain.{Reply}
use Rattle.poets_books.specs.Replies.{kind_text}
use Rattle.poets_json.specs.Document.{answer_data, folio_members, of_kind, part_data, row_data, total_members, value_data}
use Rattle.poets_import.specs.Reading.{HasValues}
use Rattle.poets_import.specs.code.Finding.{Folio, IsRow, folio_as_data}
use Rattle.poets_import.specs.code.Members.{items_at}
use Rattle.poets_import.proofs.WholeDocuments.{same_arrays}

same_items : (i j : Items) → Some i ≡ Some j → i ≡ j
same_items i j e = cc

no_items_there : (i : Items) → Some i ≡ None → ⊥
no_items_there i e = cc

-- where a value has rows, an answer with it has
pub rows_of :
    (names : Table) (declared : Declared) (P : Type 0) (values : List Json) (d : Data) (y : Answer) →
    Some (items_view values) ≡ items_at (codes "rows") d → HasValues names declared y → d ≡ answer_data names y →
    ((rows : List KeyRow) → All (IsRow names declared) rows → map view values ≡ map (row_data names) rows →
    d ≡ answer_data names (Rows rows) → P) → P
rows_of names declared P values d (Single v) here so e is =
    absurd (no_items_there (items_view values) (here ∙ ap (items_at (codes "rows")) e))
rows_of names declared P values d (Rows rows) here so e is =
    is rows so
    (same_arrays (map view values) (map (row_data names) rows)
    (ap array (same_items (items_view values) (items_of (map (row_data names) rows)) (here ∙ ap (items_at (codes "rows")) e)))) e

-- an answer with other rows of these values
pub other_rows :
    (names : Table) (d : Data) (ds : List Data) (rows others : List KeyRow) → d ≡ answer_data names (Rows rows) →
    ds ≡ map (row_data names) rows → ds ≡ map (row_data names) others → d ≡ answer_data names (Rows others)
other_rows names d ds rows others e f g =
    e ∙ ap (λ (es : List Data). object (member (codes "rows") (array (items_of es)) no_members)) (sym f ∙ g)

-- the parts of a portfolio
pub parts_of_value :
    (names : Table) (values : List Json) (d : Data) (y : Folio) → Some (items_view values) ≡ items_at (codes "rows") d →
    d ≡ folio_as_data names y → map view values ≡ map (part_data names) y.0
parts_of_value names values d y here e =
    same_arrays (map view values) (map (part_data names) y.0)
    (ap array (same_items (items_view values) (items_of (map (part_data names) y.0)) (here ∙ ap (items_at (codes "rows")) e)))

total_is :
    (names : Table) (rows : List (Name × Answer)) (total : Option (Option Value)) →
    get (codes "total") (folio_as_data names (rows, total)) ≡ option_map (value_data names) total
total_is names rows None = refl
total_is names rows (Some total) = refl

-- its total
pub total_of_value :
    (names : Table) (d : Data) (y : Folio) → d ≡ folio_as_data names y → get (codes "total") d ≡ option_map (value_data names) y.1
total_of_value names d y e = ap (get (codes "total")) e ∙ total_is names y.0 y.1

same_some : (a b : Data) → Some a ≡ Some b → a ≡ b
same_some a b e = cc

same_members : (names : Table) (t u : Option (Option Value)) → option_map (value_data names) t ≡ option_map (value_data names) u → total_members names t ≡ total_members names u
same_members names None None e = refl
same_members names None (Some u) e = absurd cc
same_members names (Some t) None e = absurd cc
same_members names (Some t) (Some u) e = ap (λ (d : Data). member (codes "total") d no_members) (same_some (value_data names t) (value_data names u) e)

-- a portfolio with other parts and another total of these values
pub other_folio :
    (names : Table) (d : Data) (ds : List Data) (y z : Folio) → d ≡ folio_as_data names y → ds ≡ map (part_data names) y.0 →
    ds ≡ map (part_data names) z.0 → get (codes "total") d ≡ option_map (value_data names) z.1 → d ≡ folio_as_data names z
other_folio names d ds y z e f g total =
    let parts = sym f ∙ g in
    let members = same_members names y.1 z.1 (sym (total_of_value names d y e) ∙ total) in
    e ∙ (λ i. of_kind (kind_text (Reply.Folio y.0 y.1)) (folio_members (array (items_of (parts i))) (members i)))
