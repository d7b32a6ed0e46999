-- The compact text of a document.
use Rattle.std.proofs.Common.{◌≡◌, ℕ, List, [], ◌∷◌, ◌++◌, true, false, map, refl, sym, ap, ◌∙◌, append_assoc}
use Rattle.std.specs.Prelude.{String, string_bytes, codes}
use Rattle.std.specs.declared.alloc.Global.{Global}
use Rattle.serde_json.proofs.OnLiterals.{serde_json_on_literals}
use Rattle.serde_json.specs.Data.{Data, string}
use Rattle.serde_json.specs.View.{items_of}
use Rattle.serde_json.specs.Written.{compact_text, items_text}
use Rattle.poets_lex.specs.Table.{Table}
use Rattle.poets_command.specs.Plain.{Entry}
use Rattle.poets_books.specs.Books.{book_texts}
use Rattle.poets_value.specs.code.Texts.{Puts}
use Rattle.poets_json.specs.Plain.{Exported}
use Rattle.poets_json.specs.Document.{document, entry_data, list_data}
use Rattle.poets_json.specs.code.Values.{behind_commas, list_text}

-- the items after the first, with the closing bracket
items_more :
    {A : Type 0} (data_of : A → Data) (xs : List A) →
    items_text true (items_of (map data_of xs)) ≡ behind_commas data_of xs ++ 93 ∷ []
items_more data_of [] = refl
items_more data_of (x ∷ xs) =
    ap (λ (t : List ℕ). 44 ∷ (compact_text (data_of x) ++ t)) (items_more data_of xs)
    ∙ ap (λ (t : List ℕ). 44 ∷ t) (sym (append_assoc (compact_text (data_of x)) (behind_commas data_of xs) (93 ∷ [])))

-- all items, with the closing bracket
items_all :
    {A : Type 0} (data_of : A → Data) (xs : List A) →
    items_text false (items_of (map data_of xs)) ≡ list_text data_of xs ++ 93 ∷ []
items_all data_of [] = refl
items_all data_of (x ∷ xs) =
    ap (λ (t : List ℕ). compact_text (data_of x) ++ t) (items_more data_of xs)
    ∙ sym (append_assoc (compact_text (data_of x)) (behind_commas data_of xs) (93 ∷ []))

-- a book and the text of entries, with what stands around them
abbrev around : (book : List (List ℕ)) (entries : List ℕ) → List ℕ
around book entries =
    codes "{\"book\":" ++ (compact_text (list_data string book)
    ++ (codes ",\"format\":\"poets 1\",\"history\":[" ++ (entries ++ codes "]}")))

-- the pieces of a document
document_text :
    (names : Table) (x : Exported) →
    compact_text (document names x)
    ≡ around (book_texts names x.declared x.templates x.reports) (list_text (entry_data names) x.history)
unfolding serde_json_on_literals
document_text names x =
    ap
    (λ (t : List ℕ). codes "{\"book\":"
    ++ (compact_text (list_data string (book_texts names x.declared x.templates x.reports))
    ++ (codes ",\"format\":\"poets 1\",\"history\":[" ++ t)))
    (ap (λ (t : List ℕ). t ++ 125 ∷ []) (items_all (entry_data names) x.history)
    ∙ append_assoc (list_text (entry_data names) x.history) (93 ∷ []) (125 ∷ []))

-- five pieces, put one after the other
module _ (p q r s t : List ℕ) (none : String Global) (en : string_bytes none ≡ []) where
  five_pieces : (a b c d e : String Global) → Puts none a p → Puts a b q → Puts b c r → Puts c d s → Puts d e t →
      string_bytes e ≡ p ++ (q ++ (r ++ (s ++ t)))
  five_pieces a b c d e ea eb ec ed ee =
      rw ee (rw ed (rw ec (rw eb (rw ea (rw en (simp append_assoc refl))))))

-- what was put is the document
module _ (names : Table) (x : Exported) (book : List (List ℕ)) (history : List Entry)
    (same_book : book ≡ book_texts names x.declared x.templates x.reports) (same_history : history ≡ x.history)
    (none : String Global) (en : string_bytes none ≡ []) where
  pub put_document : (a b c d e : String Global) →
      Puts none a (codes "{\"book\":") → Puts a b (compact_text (list_data string book)) →
      Puts b c (codes ",\"format\":\"poets 1\",\"history\":[") → Puts c d (list_text (entry_data names) history) →
      Puts d e (codes "]}") → string_bytes e ≡ compact_text (document names x)
  put_document a b c d e ea eb ec ed ee =
      five_pieces (codes "{\"book\":") (compact_text (list_data string book))
      (codes ",\"format\":\"poets 1\",\"history\":[") (list_text (entry_data names) history) (codes "]}")
      none en a b c d e ea eb ec ed ee
      ∙ (ap (λ (texts : List (List ℕ)). around texts (list_text (entry_data names) history)) same_book
      ∙ (ap
      (λ (entries : List Entry). around (book_texts names x.declared x.templates x.reports)
      (list_text (entry_data names) entries)) same_history
      ∙ sym (document_text names x)))
