-- Printed lists are short where their items are.
use Rattle.std.proofs.Common.{ℕ, List, [], ◌∷◌, arith, length-append}
use Rattle.std.specs.Prelude.{All}
use Rattle.std.proofs.lemmas.List.Elements.{All-nil, All-cons, All-head, All-tail}
use Rattle.poets_value.specs.declared.value.Name.{Name}
use Rattle.poets_lex.specs.declared.token.Tok.{Tok}
use Rattle.poets_lex.specs.Table.{Table, IsTable}
use Rattle.poets_grammar.specs.Lists.{ReadsList, ReadsName}
use Rattle.poets_print.specs.Texts.{name_text, behind_commas, listed}
use Rattle.poets_printed.proofs.ShortPieces.{IsShort, length_behind, length_name}

module _ {A : Type 0} (Item : List Tok → A → List Tok → Type 0) (text_of : A → List ℕ) (P : A → Type 0)
    (each : (ts : List Tok) (x : A) (rest : List Tok) → Item ts x rest → P x → IsShort (text_of x) ts rest) where
  -- a list of items that meet P
  pub short_list : {ts rest : List Tok} {xs : List A} → ReadsList Item ts xs rest → All P xs → IsShort (listed text_of xs) ts rest
  short_list (ReadsList.One {ts} {rest} {x} r) h =
      let one = each ts x rest r (All-head P x [] h) in
      record { bytes = omega (arith, one.bytes, length-append (text_of x) []) }
  short_list (ReadsList.More {ts} {mid} {rest} {x} {xs} r q) h =
      let one = each ts x _ r (All-head P x xs h) in
      let others = short_list q (All-tail P x xs h) in
      record { bytes = omega (arith, one.bytes, others.bytes, length_behind text_of xs, length-append (text_of x) (behind_commas text_of xs)) }

-- each item meets a condition that asks nothing
everywhere : {A : Type 0} (xs : List A) → All (λ (x : A). Unit {0}) xs
everywhere [] = All-nil (λ x. Unit {0})
everywhere (x ∷ xs) = All-cons (λ y. Unit {0}) x xs tt (everywhere xs)

-- a list of names
pub short_names : (names : Table) → IsTable names → {ts rest : List Tok} {xs : List Name} → ReadsList ReadsName ts xs rest → IsShort (listed (name_text names) xs) ts rest
short_names names all q = short_list ReadsName (name_text names) (λ x. Unit {0}) one q (everywhere _)
  where
    -- a single name
    one : (ts : List Tok) (x : Name) (rest : List Tok) → ReadsName ts x rest → Unit {0} → IsShort (name_text names x) ts rest
    one ts x rest (ReadsName.AName) h = record { bytes = omega (arith, length_name names all x) }
