-- Values that are texts.
use Rattle.std.proofs.Common.{◌≡◌, ℕ, List, [], ◌∷◌, map, Option, Some, refl, sym, ap, ◌∙◌}
use Rattle.serde_json.specs.Data.{Data, Items, array, boolean, null, number, object, string}
use Rattle.serde_json.specs.Find.{as_array, as_str}
use Rattle.serde_json.specs.View.{items_of, items_view, view}
use Rattle.serde_json.specs.declared.value.Value.{Value as Json}
use Rattle.poets_import.specs.code.Spoken.{list_in}

same_text : (t u : List ℕ) → Some t ≡ Some u → t ≡ u
same_text t u e = cc

-- the text that a value is
pub text_is : (t u : List ℕ) (d : Data) → Some t ≡ as_str d → d ≡ string u → u ≡ t
text_is t u d e f = sym (same_text t u (e ∙ ap as_str f))

-- what is found in one place
pub same_found : {A : Type 0} {o : Option A} {a b : A} → Some a ≡ o → o ≡ Some b → b ≡ a
same_found e f = cc

-- the items of an array
pub listed_values : (values : List Json) → list_in (items_view values) ≡ map view values
listed_values [] = refl
listed_values (v ∷ vs) = ap (λ (ds : List Data). view v ∷ ds) (listed_values vs)

same_items : (i j : Items) → Some i ≡ Some j → i ≡ j
same_items i j e = cc

-- a value that is seen as an array
pub array_is : (values : List Json) (d : Data) → Some (items_view values) ≡ as_array d → d ≡ array (items_of (map view values))
array_is values (array items) e = ap array (sym (same_items (items_view values) items e))
array_is values null e = absurd cc
array_is values (boolean b) e = absurd cc
array_is values (number n) e = absurd cc
array_is values (string s) e = absurd cc
array_is values (object ms) e = absurd cc

listed_data : (ds : List Data) → list_in (items_of ds) ≡ ds
listed_data [] = refl
listed_data (d ∷ ds) = ap (λ (es : List Data). d ∷ es) (listed_data ds)

pub array_items :
    (values : List Json) (d : Data) (ds : List Data) → Some (items_view values) ≡ as_array d → d ≡ array (items_of ds) →
    ds ≡ map view values
array_items values d ds e f =
    sym (listed_data ds) ∙ ap list_in (sym (same_items (items_view values) (items_of ds) (e ∙ ap as_array f)))
    ∙ listed_values values
