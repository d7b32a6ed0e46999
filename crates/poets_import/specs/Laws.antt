-- The law of documents, as a statement: each has one reading at most.
use Rattle.std.specs.Prelude.{◌≡◌}
use Rattle.serde_json.specs.Data.{Data}
use Rattle.poets_lex.specs.Table.{Table, IsTable}
use Rattle.poets_json.specs.Plain.{Exported}
use Rattle.poets_import.specs.Reading.{IsDocumentOf}

-- a value is the document of one book with its reports and one history at most, and leaves one
-- table
abbrev pub OneDocument : Type 0
OneDocument =
    (before : Table) (value : Data) (after end : Table) (x y : Exported) → IsTable before
    → IsDocumentOf before value after x → IsDocumentOf before value end y → (after ≡ end) × (x ≡ y)
