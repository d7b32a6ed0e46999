-- Cells in the order of their keys, as rows.
use Rattle.std.proofs.Common.{◌≡◌, Bool, true, false, List, [], ◌∷◌, Option, Some, None, refl, sym, ◌∙◌, ap, subst}
use Rattle.std.specs.Prelude.{if◌then◌else◌, is_some}
use Rattle.std.specs.List.{AllByRecursion, list_any}
use Rattle.std.specs.List.Sorted.{IsStrictlySortedBy}
use Rattle.std.specs.Map.{lookup, keys_of}
use Rattle.std.specs.BTreeMap.{is_at}
use Rattle.std.specs.declared.cmp.Ordering.{Ordering}
use Rattle.std.specs.declared.cmp.Ordering.TheVariants.{Less, Equal, Greater}
use Rattle.std.proofs.lemmas.Map.Keys.{sorted_head, sorted_tail}
use Rattle.poets_value.specs.declared.value.Value.{Value}
use Rattle.poets_value.specs.Order.{value_cmp}
use Rattle.poets_report.specs.Keys.{Key, same_key}
use Rattle.poets_report.specs.Plain.{KeyRow}
use Rattle.poets_report.specs.Answers.{Rising}
use Rattle.poets_report.specs.Keyed.{Cell, row_at, row_before, rows_of, HasRoom, Sets}
use Rattle.poets_report.proofs.KeyOrder.{key_less, key_equal, key_same}
use Rattle.poets_report.proofs.RisingRows.{StartsAfter, absent_before, rising_behind, rows_one, same_turned}

abbrev pub Cells : Type 0
Cells = List (Value × Cell)

abbrev pub IsSorted : Cells → Type 0
IsSorted cells = IsStrictlySortedBy value_cmp (keys_of cells)

abbrev pub test_of : Value → Value → Bool
test_of v = is_at (value_cmp v)

abbrev key : Value → Key
key v = Some v

some_value : (v w : Value) → key v ≡ key w → v ≡ w
some_value v w e = cc

-- the test of a look-up is that of keys
pub same_test : (v w : Value) → test_of v w ≡ same_key (Some v) (Some w)
same_test v w = by (value_cmp v w) refl
  where
    other : (b : Bool) → same_key (Some v) (Some w) ≡ b → (key v ≡ key w → ⊥) → same_key (Some v) (Some w) ≡ false
    other false e n = e
    other true e n = absurd (n ((key_same (Some v) (Some w)).0 e))

    apart : (o : Ordering) → value_cmp v w ≡ o → (o ≡ Equal → ⊥) → same_key (Some v) (Some w) ≡ false
    apart o e n = other (same_key (Some v) (Some w)) refl (λ k. n (sym e ∙ (key_equal (Some v) (Some w)).1 k))

    by : (o : Ordering) → value_cmp v w ≡ o → test_of v w ≡ same_key (Some v) (Some w)
    by Less e = rw e (sym (apart Less e (λ k. cc)))
    by Equal e = rw e (sym ((key_same (Some v) (Some w)).1 ((key_equal (Some v) (Some w)).0 e)))
    by Greater e = rw e (sym (apart Greater e (λ k. cc)))

abbrev pub joined : Option Cell → Cell
joined None = None
joined (Some c) = c

-- what a key has
abbrev pub cell_at : Key → Cells → Cell → Cell
cell_at None cells undefined = undefined
cell_at (Some v) cells undefined = joined (lookup (test_of v) cells)

starts_behind : (v : Value) (cells : Cells) (undefined : Cell) → AllByRecursion (λ w. value_cmp v w ≡ Less) (keys_of cells) →
    StartsAfter (Some v) (rows_of cells undefined)
starts_behind v [] None h = tt
starts_behind v [] (Some u) h = tt
starts_behind v ((w, None) ∷ cells) undefined h = starts_behind v cells undefined h.1
starts_behind v ((w, Some u) ∷ cells) undefined h = (key_less (Some v) (Some w)).0 h.0

pub rising_rows : (cells : Cells) (undefined : Cell) → IsSorted cells → Rising (rows_of cells undefined)
rising_rows [] None h = tt
rising_rows [] (Some u) h = tt
rising_rows ((v, None) ∷ cells) undefined h = rising_rows cells undefined (sorted_tail value_cmp v (keys_of cells) h)
rising_rows ((v, Some u) ∷ cells) undefined h =
    rising_behind (Some v, u) (rows_of cells undefined) (starts_behind v cells undefined (sorted_head value_cmp v (keys_of cells) h))
    (rising_rows cells undefined (sorted_tail value_cmp v (keys_of cells) h))

-- the row of a key is what the key has
pub row_of_cell : (k : Key) (cells : Cells) (undefined : Cell) → IsSorted cells → row_at k (rows_of cells undefined) ≡ cell_at k cells undefined
row_of_cell (Some v) [] None h = refl
row_of_cell (Some v) [] (Some u) h = refl
row_of_cell None [] None h = refl
row_of_cell None [] (Some u) h = refl
row_of_cell None ((w, None) ∷ cells) undefined h = row_of_cell None cells undefined (sorted_tail value_cmp w (keys_of cells) h)
row_of_cell None ((w, Some u) ∷ cells) undefined h = row_of_cell None cells undefined (sorted_tail value_cmp w (keys_of cells) h)
row_of_cell (Some v) ((w, c) ∷ cells) undefined h =
    by (same_key (Some v) (Some w)) refl (row_of_cell (Some v) cells undefined (sorted_tail value_cmp w (keys_of cells) h))
  where
    absent : v ≡ w → row_at (Some v) (rows_of cells undefined) ≡ None
    absent e = absent_before (Some v) (rows_of cells undefined)
        (subst (λ x. StartsAfter (Some x) (rows_of cells undefined)) (sym e) (starts_behind w cells undefined (sorted_head value_cmp w (keys_of cells) h)))
        (rising_rows cells undefined (sorted_tail value_cmp w (keys_of cells) h))

    here : (c : Cell) → same_key (Some v) (Some w) ≡ true → row_at (Some v) (row_before (Some w) c (rows_of cells undefined)) ≡ c
    here None e = absent (some_value v w ((key_same (Some v) (Some w)).0 e))
    here (Some u) e = rw e refl

    below : (c : Cell) → same_key (Some v) (Some w) ≡ false → row_at (Some v) (row_before (Some w) c (rows_of cells undefined)) ≡ row_at (Some v) (rows_of cells undefined)
    below None e = refl
    below (Some u) e = rw e refl

    by : (b : Bool) → same_key (Some v) (Some w) ≡ b → row_at (Some v) (rows_of cells undefined) ≡ joined (lookup (test_of v) cells) →
        row_at (Some v) (row_before (Some w) c (rows_of cells undefined)) ≡ joined (lookup (test_of v) ((w, c) ∷ cells))
    by true e rest = let t : test_of v w ≡ true = same_test v w ∙ e in rw t (here c e)
    by false e rest = let t : test_of v w ≡ false = same_test v w ∙ e in rw t (below c e ∙ rest)

-- another cell of a key that is a value
pub sets_value : (v : Value) (cell : Cell) (old new : Cells) (undefined : Cell) → IsSorted old → IsSorted new →
    ((w : Value) → lookup (test_of w) new ≡ (if test_of v w then Some cell else lookup (test_of w) old)) →
    Sets (Some v) cell (rows_of old undefined) (rows_of new undefined)
sets_value v cell old new undefined h h' found = record {
  rising = rising_rows new undefined h';
  each = each;
}
  where
    at_value : (w : Value) → cell_at (Some w) new undefined ≡ (if same_key (Some w) (Some v) then cell else row_at (Some w) (rows_of old undefined))
    at_value w = by (same_key (Some w) (Some v)) refl
      where
        by : (b : Bool) → same_key (Some w) (Some v) ≡ b → cell_at (Some w) new undefined ≡ (if b then cell else row_at (Some w) (rows_of old undefined))
        by b e =
            let t : test_of v w ≡ b = same_test v w ∙ same_turned (Some v) (Some w) ∙ e in
            ap joined (subst (λ x. lookup (test_of w) new ≡ (if x then Some cell else lookup (test_of w) old)) t (found w)) ∙ chosen b
          where
            chosen : (b : Bool) → joined (if b then Some cell else lookup (test_of w) old) ≡ (if b then cell else row_at (Some w) (rows_of old undefined))
            chosen true = refl
            chosen false = sym (row_of_cell (Some w) old undefined h)

    each : (k : Key) → row_at k (rows_of new undefined) ≡ (if same_key k (Some v) then cell else row_at k (rows_of old undefined))
    each (Some w) = row_of_cell (Some w) new undefined h' ∙ at_value w
    each None = row_of_cell None new undefined h' ∙ sym (row_of_cell None old undefined h)

-- another cell of the undefined key
pub sets_undefined : (cell : Cell) (cells : Cells) (undefined : Cell) → IsSorted cells → Sets None cell (rows_of cells undefined) (rows_of cells cell)
sets_undefined cell cells undefined h = record {
  rising = rising_rows cells cell h;
  each = each;
}
  where
    each : (k : Key) → row_at k (rows_of cells cell) ≡ (if same_key k None then cell else row_at k (rows_of cells undefined))
    each (Some v) = row_of_cell (Some v) cells cell h ∙ sym (row_of_cell (Some v) cells undefined h)
    each None = row_of_cell None cells cell h

-- an empty cell changes no row
pub same_rows : (v : Value) (old new : Cells) (undefined : Cell) → IsSorted old → IsSorted new → is_some (lookup (test_of v) old) ≡ false →
    ((w : Value) → lookup (test_of w) new ≡ (if test_of v w then Some None else lookup (test_of w) old)) →
    rows_of new undefined ≡ rows_of old undefined
same_rows v old new undefined h h' none found =
    rows_one (rows_of new undefined) (rows_of old undefined) (rising_rows new undefined h') (rising_rows old undefined h)
    (λ k. (sets_value v None old new undefined h h' found).each k ∙ kept k (same_key k (Some v)) refl)
  where
    empty_cell : (c : Option Cell) → is_some c ≡ false → joined c ≡ None
    empty_cell None e = refl
    empty_cell (Some c) e = absurd cc

    kept : (k : Key) (b : Bool) → same_key k (Some v) ≡ b → (if same_key k (Some v) then None else row_at k (rows_of old undefined)) ≡ row_at k (rows_of old undefined)
    kept k true e =
        let same : k ≡ Some v = (key_same k (Some v)).0 e in
        let empty : row_at (Some v) (rows_of old undefined) ≡ None = row_of_cell (Some v) old undefined h ∙ empty_cell (lookup (test_of v) old) none in
        rw e (sym (ap (λ j. row_at j (rows_of old undefined)) same ∙ empty))
    kept k false e = rw e refl

-- a key with a cell is among the keys
pub any_from_lookup : (v : Value) (cells : Cells) → list_any (test_of v) (keys_of cells) ≡ is_some (lookup (test_of v) cells)
any_from_lookup v [] = refl
any_from_lookup v ((w, c) ∷ cells) = by (test_of v w) refl (any_from_lookup v cells)
  where
    by : (b : Bool) → test_of v w ≡ b → list_any (test_of v) (keys_of cells) ≡ is_some (lookup (test_of v) cells) →
        list_any (test_of v) (w ∷ keys_of cells) ≡ is_some (lookup (test_of v) ((w, c) ∷ cells))
    by true e rest = rw e refl
    by false e rest = rw e rest

-- what is read at a key that is known
pub found_row : (key k : Key) (cells : Cells) (undefined : Cell) (rows : List KeyRow) → IsSorted cells → rows_of cells undefined ≡ rows → key ≡ k →
    cell_at k cells undefined ≡ row_at key rows
found_row key k cells undefined rows h seen same =
    sym (row_of_cell k cells undefined h) ∙ ap (row_at k) seen ∙ ap (λ j. row_at j rows) (sym same)

-- what is put at a key that is known
pub put_row : (key k : Key) (cell : Cell) (old new seen : List KeyRow) → old ≡ seen → key ≡ k → Sets k cell old new → Sets key cell seen new
put_row key k cell old new seen e same h = subst (λ j. Sets j cell seen new) (sym same) (subst (λ r. Sets k cell r new) e h)

-- there is room at a key that is known
pub room_at : (key : Key) (v : Value) (cells : Cells) (keys : List Value) → key ≡ Some v → keys_of cells ≡ keys → is_some (lookup (test_of v) cells) ≡ true → HasRoom key keys
room_at key v cells keys same seen e = subst (λ j. HasRoom j keys) (sym same) (subst (λ ks. HasRoom (Some v) ks) seen (any_from_lookup v cells ∙ e))

-- there is none at a key without a cell
pub no_room_at : (key : Key) (v : Value) (cells : Cells) (keys : List Value) → key ≡ Some v → keys_of cells ≡ keys → lookup (test_of v) cells ≡ None → HasRoom key keys → ⊥
no_room_at key v cells keys same seen e h =
    let some : is_some (lookup (test_of v) cells) ≡ true = sym (any_from_lookup v cells) ∙ subst (λ ks. HasRoom (Some v) ks) (sym seen) (subst (λ j. HasRoom j keys) same h) in
    let no : false ≡ true = sym (ap is_some e) ∙ some in
    absurd cc
