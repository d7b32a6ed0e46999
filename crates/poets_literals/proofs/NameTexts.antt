-- Names and their texts.
use Rattle.std.proofs.Common.{◌≡◌, ◌≢◌, ℕ, List, [], sym, ap, subst, ◌∙◌, Some, slice_get}
use Rattle.std.specs.Str.{bytes_eq}
use Rattle.std.proofs.lemmas.Slice.Eq.{bytes_eq-Decides}
use Rattle.std.proofs.lemmas.List.Quantifiers.{position-Some}
use Rattle.std.proofs.lemmas.Option.{slice_get-get_or, unwrap_or-slice_get}
use Rattle.std.specs.Prelude.{get_or}
use Rattle.poets_value.specs.declared.value.Name.{Name}
use Rattle.poets_value.specs.declared.value.Ty.{Ty}
use Rattle.poets_expr.specs.Env.{Declared}
use Rattle.poets_lex.specs.Table.{Table, IsTable, IsName, place_of}
use Rattle.poets_print.specs.Texts.{name_text}
use Rattle.poets_literals.specs.Declared.{IsPlaced}
use Rattle.poets_literals.specs.Laws.{ListedArePlaced}
use Rattle.poets_literals.specs.code.Parts.{HasNameText}

-- what stands first at a place is the text of the name with that place
text_at : (names : Table) (text : List ℕ) (x : Name) → place_of text names ≡ Some x.id → name_text names x ≡ text
text_at names text x e =
    let at = position-Some (bytes_eq text) names x.id [] e in
    unwrap_or-slice_get names x.id [] ∙ sym ((bytes_eq-Decides text (get_or names x.id [])).0 at.1)

pub found_name :
    (names : Table) (declared : Declared) (ty : Ty) (text : List ℕ) (x : Name) →
    place_of text names ≡ Some x.id → declared x ≡ Some ty → HasNameText names declared ty text x
found_name names declared ty text x e d =
    let is = text_at names text x e in
    ((subst (λ (t : List ℕ). place_of t names ≡ Some x.id) (sym is) e, d), is)

-- a name stands where its text is found
pub place_of_name :
    (names : Table) (declared : Declared) (ty : Ty) (text : List ℕ) (x : Name) →
    HasNameText names declared ty text x → place_of text names ≡ Some x.id
place_of_name names declared ty text x h = subst (λ (t : List ℕ). place_of t names ≡ Some x.id) h.1 h.0.0

same_place : (x y : Name) → Some x.id ≡ Some y.id → x ≡ y
same_place x y e = let id : x.id ≡ y.id = cc in ap (λ (n : ℕ). record { id = n }) id

-- names with one text are one
pub one_name :
    (names : Table) (x y : Name) → IsPlaced names x → IsPlaced names y → name_text names x ≡ name_text names y → x ≡ y
one_name names x y h k e =
    same_place x y (sym h ∙ ap (λ (t : List ℕ). place_of t names) e ∙ k)

-- so no name with the text is declared with the type, where the one at its place is not
pub no_other_name :
    (names : Table) (declared : Declared) (ty : Ty) (text : List ℕ) (x y : Name) → place_of text names ≡ Some x.id →
    declared x ≢ Some ty → HasNameText names declared ty text y → ⊥
no_other_name names declared ty text x y at other h =
    let same : y ≡ x = same_place y x (sym (place_of_name names declared ty text y h) ∙ at) in
    other (subst (λ (z : Name). declared z ≡ Some ty) same h.0.1)

-- the text of a name in a table of names
pub is_name : (names : Table) (x : Name) → IsTable names → IsPlaced names x → IsName (name_text names x)
is_name names x all h =
    let at = position-Some (bytes_eq (name_text names x)) names x.id [] h in
    let is : slice_get names x.id ≡ Some (name_text names x) =
    slice_get-get_or names x.id [] at.0 ∙ ap (λ (t : List ℕ). Some t) (sym (unwrap_or-slice_get names x.id [])) in
    (all (name_text names x) x.id is).0

pub listed_are_placed : ListedArePlaced
listed_are_placed names x all listed =
    let is : slice_get names x.id ≡ Some (name_text names x) =
    slice_get-get_or names x.id [] listed ∙ ap (λ (t : List ℕ). Some t) (sym (unwrap_or-slice_get names x.id [])) in
    (all (name_text names x) x.id is).1
