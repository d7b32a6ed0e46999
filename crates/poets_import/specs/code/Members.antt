-- Members of objects.
use Rattle.std.specs.Prelude.{ℕ, ◌^◌, Bool, List, Option, Some, None, codes, if◌then◌else◌, nat_lt}
use Rattle.std.specs.Prelude.{option_and_then}
use Rattle.serde_json.specs.Data.{Data, Items}
use Rattle.serde_json.specs.Find.{at, get, as_str, as_number, as_bool, as_array, as_u64}
use Rattle.serde_json.specs.View.{items_view}
use Rattle.serde_json.specs.declared.value.Value.{Value}

abbrev pub text_at : List ℕ → Data → Option (List ℕ)
text_at key d = option_and_then as_str (get key d)

abbrev pub number_at : List ℕ → Data → Option ℕ
number_at key d = option_and_then (λ e. option_and_then as_u64 (as_number e)) (get key d)

abbrev pub truth_at : List ℕ → Data → Option Bool
truth_at key d = option_and_then as_bool (get key d)

-- the text that the first item of an array is
abbrev pub first_text : Data → Option (List ℕ)
first_text d = option_and_then as_str (at 0 d)

abbrev pub items_at : List ℕ → Data → Option Items
items_at key d = option_and_then as_array (get key d)

abbrev pub items_in : List Value → Items
items_in items = items_view items

-- the number of the clerk, where it is below 2 ^ 32
abbrev pub clerk_at : Data → Option ℕ
clerk_at d = option_and_then (λ n. if nat_lt n (2 ^ 32) then Some n else None) (number_at (codes "clerk") d)
