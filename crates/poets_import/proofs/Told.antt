-- Names and days of replies, found by their texts.
use Rattle.std.proofs.Common.{◌≡◌, ℕ, ℤ, List, Option, Some, None, option_map, sym, ap, subst, ◌∙◌}
use Rattle.std.specs.Prelude.{IfNone, IfSome, codes}
use Rattle.serde_json.specs.Data.{Data, string}
use Rattle.poets_value.specs.declared.value.Name.{Name}
use Rattle.poets_value.specs.Civil.{IsDayNumber}
use Rattle.poets_lex.specs.Table.{Table, place_of}
use Rattle.poets_print.specs.Texts.{name_text}
use Rattle.poets_command.specs.Plain.{Reply}
use Rattle.poets_books.specs.Replies.{kind_text}
use Rattle.poets_json.specs.Document.{of_kind, only}
use Rattle.poets_literals.specs.Declared.{HasDayText, IsPlaced}
use Rattle.poets_import.specs.code.Finding.{FindsSome}
use Rattle.poets_import.specs.code.Members.{text_at}
use Rattle.poets_import.specs.code.Telling.{day_told, name_told}
use Rattle.poets_import.proofs.Called.{named_text}
use Rattle.poets_import.proofs.Texts.{same_found}

no_number : {i : ℕ} → None ≡ Some i → ⊥
no_number e = cc

pub found_placed :
    (names : Table) (text : List ℕ) (found : Option Name) → option_map (λ n. n.id) found ≡ place_of text names →
    IfSome found (IsPlaced names)
found_placed names text None e = tt
found_placed names text (Some x) e = (named_text names text x (sym e)).1

pub name_found :
    (names : Table) (text : List ℕ) (d : Data) (found : Option Name) → Some text ≡ text_at (codes "name") d →
    option_map (λ n. n.id) found ≡ place_of text names → FindsSome (IsPlaced names) (name_told names) d found
name_found names text d None here e y placed is =
    let same : name_text names y ≡ text = same_found here (ap (text_at (codes "name")) is) in
    no_number (e ∙ subst (λ (t : List ℕ). place_of t names ≡ Some y.id) same placed)
name_found names text d (Some x) here e y placed is =
    let same : name_text names y ≡ text = same_found here (ap (text_at (codes "name")) is) in
    is
    ∙ ap (λ (t : List ℕ). of_kind (kind_text (Reply.NoContract x)) (only (codes "name") (string t)))
    (same ∙ sym (named_text names text x (sym e)).0)

pub first_found :
    (names : Table) (text : List ℕ) (here : Option (List ℕ)) (found : Option Name) → Some text ≡ here →
    option_map (λ n. n.id) found ≡ place_of text names → FindsSome (IsPlaced names) (λ x. Some (name_text names x)) here found
first_found names text here None there e y placed is =
    let same : name_text names y ≡ text = same_found there is in
    no_number (e ∙ subst (λ (t : List ℕ). place_of t names ≡ Some y.id) same placed)
first_found names text here (Some x) there e y placed is =
    let same : name_text names y ≡ text = same_found there is in
    is ∙ ap Some (same ∙ sym (named_text names text x (sym e)).0)

pub day_found :
    (text : List ℕ) (d : Data) (found : Option ℤ) → Some text ≡ text_at (codes "day") d → IfSome found (HasDayText text) →
    IfNone found ((day : ℤ) → ¬ (HasDayText text day)) → FindsSome IsDayNumber day_told d found
day_found text d None here some none y range is =
    none y (range, same_found here (ap (text_at (codes "day")) is))
day_found text d (Some day) here some none y range is =
    is
    ∙ ap (λ (t : List ℕ). of_kind (kind_text (Reply.Late day)) (only (codes "day") (string t)))
    (same_found here (ap (text_at (codes "day")) is) ∙ sym some.1)
