-- Rows whose keys rise, by what they have at a key.
use Rattle.std.proofs.Common.{◌≡◌, Bool, true, false, zero, suc, List, [], ◌∷◌, Option, Some, None, refl, sym, ◌∙◌, ap, ap₂, subst, arith}
use Rattle.std.specs.declared.cmp.Ordering.{Ordering}
use Rattle.std.specs.declared.cmp.Ordering.TheVariants.{Less, Equal, Greater}
use Rattle.std.specs.List.{Contains}
use Rattle.std.proofs.lemmas.Map.Views.{Contains-from_lookup}
use Rattle.poets_value.specs.declared.value.Value.{Value}
use Rattle.poets_report.specs.Keys.{Key, KeyPrecedes, key_cmp, same_key}
use Rattle.poets_report.specs.Plain.{KeyRow}
use Rattle.poets_report.specs.Answers.{Rising}
use Rattle.poets_report.specs.Keyed.{row_at}
use Rattle.poets_report.proofs.KeyOrder.{key_less, key_equal, key_greater, key_same, key_total}

-- the order of two keys
pub by_order : {G : Type 0} (j k : Key) → (KeyPrecedes j k → G) → (j ≡ k → G) → (KeyPrecedes k j → G) → G
by_order {G} j k f g h = by_answer (key_cmp j k) refl
  where
    by_answer : (o : Ordering) → key_cmp j k ≡ o → G
    by_answer Less e = f ((key_less j k).0 e)
    by_answer Equal e = g ((key_equal j k).0 e)
    by_answer Greater e = h ((key_greater j k).0 e)

same_itself : (k : Key) → same_key k k ≡ true
same_itself k = (key_same k k).1 refl

-- keys are compared alike from both sides
pub same_turned : (j k : Key) → same_key j k ≡ same_key k j
same_turned j k = by (same_key j k) (same_key k j) refl refl
  where
    by : (a b : Bool) → same_key j k ≡ a → same_key k j ≡ b → same_key j k ≡ same_key k j
    by true true e f = e ∙ sym f
    by false false e f = e ∙ sym f
    by true false e f = absurd (let z : true ≡ false = sym ((key_same k j).1 (sym ((key_same j k).0 e))) ∙ f in cc)
    by false true e f = absurd (let z : true ≡ false = sym ((key_same j k).1 (sym ((key_same k j).0 f))) ∙ e in cc)

-- a key that stands before another is another
pub before_is_other : (j k : Key) → KeyPrecedes j k → same_key j k ≡ false
before_is_other j k h = other (same_key j k) refl
  where
    other : (b : Bool) → same_key j k ≡ b → same_key j k ≡ false
    other false e = e
    other true e = absurd (
        let same : key_cmp j k ≡ Equal = (key_equal j k).1 ((key_same j k).0 e) in
        let less : key_cmp j k ≡ Less = (key_less j k).1 h in
        let no : Less ≡ Equal = sym less ∙ same in cc)

before_before : (j k l : Key) → KeyPrecedes j k → KeyPrecedes k l → KeyPrecedes j l
before_before j k l p q = (key_less j l).0 (key_total.trans j k l ((key_less j k).1 p) ((key_less k l).1 q))

-- the first row's key is after
abbrev pub StartsAfter : Key → List KeyRow → Type 0
StartsAfter k [] = Unit {0}
StartsAfter k (r ∷ rows) = KeyPrecedes k r.0

pub rising_rest : (r : KeyRow) (rows : List KeyRow) → Rising (r ∷ rows) → StartsAfter r.0 rows × Rising rows
rising_rest r [] h = (tt, tt)
rising_rest r (r' ∷ rows) h = h

pub rising_behind : (r : KeyRow) (rows : List KeyRow) → StartsAfter r.0 rows → Rising rows → Rising (r ∷ rows)
rising_behind r [] a h = tt
rising_behind r (r' ∷ rows) a h = (a, h)

pub starts_after : (j k : Key) (rows : List KeyRow) → KeyPrecedes j k → StartsAfter k rows → StartsAfter j rows
starts_after j k [] p a = tt
starts_after j k (r ∷ rows) p a = before_before j k r.0 p a

-- no row has a key that stands before all rows
pub absent_before : (k : Key) (rows : List KeyRow) → StartsAfter k rows → Rising rows → row_at k rows ≡ None
absent_before k [] a h = refl
absent_before k (r ∷ rows) a h =
    let rest = rising_rest r rows h in
    rw (before_is_other k r.0 a) (absent_before k rows (starts_after k r.0 rows a rest.0) rest.1)

pub head_row : (r : KeyRow) (rows : List KeyRow) → row_at r.0 (r ∷ rows) ≡ Some r.1
head_row r rows = rw (same_itself r.0) refl

-- a key with a row below a row stands behind it
pub behind : (r : KeyRow) (rows : List KeyRow) (j : Key) (v : Option Value) → Rising (r ∷ rows) → row_at j rows ≡ Some v → KeyPrecedes r.0 j
behind r rows j v h found =
    let rest = rising_rest r rows h in
    by_order r.0 j (λ less. less)
    (λ same. absurd (let none : row_at j rows ≡ None = absent_before j rows (subst (λ k. StartsAfter k rows) same rest.0) rest.1 in let no = sym none ∙ found in cc))
    (λ greater. absurd (let none : row_at j rows ≡ None = absent_before j rows (starts_after j r.0 rows greater rest.0) rest.1 in let no = sym none ∙ found in cc))

-- a row is what the rows have at its key
pub found_contained : (rows : List KeyRow) (k : Key) (v : Option Value) → row_at k rows ≡ Some v → Contains rows (k, v)
found_contained rows k v h = Contains-from_lookup (λ x y t. (key_same x y).0 t) k v rows h

pub contained_found : (rows : List KeyRow) (k : Key) (v : Option Value) → Rising rows → Contains rows (k, v) → row_at k rows ≡ Some v
contained_found [] k v h (i, lt, at) = absurd (omega (arith, lt))
contained_found (r ∷ rows) k v h (zero, lt, at) = subst (λ x. row_at x.0 (r ∷ rows) ≡ Some x.1) at (head_row r rows)
contained_found (r ∷ rows) k v h (suc i, lt, at) =
    let found : row_at k rows ≡ Some v = contained_found rows k v (rising_rest r rows h).1 (i, omega (arith, lt), at) in
    let other : same_key k r.0 ≡ false = same_turned k r.0 ∙ before_is_other r.0 k (behind r rows k v h found) in
    rw other found

some_one : {A : Type 0} (x y : A) → Some x ≡ Some y → x ≡ y
some_one x y e = cc

-- rising rows are known by what they have at each key
pub rows_one : (rs rs' : List KeyRow) → Rising rs → Rising rs' → ((k : Key) → row_at k rs ≡ row_at k rs') → rs ≡ rs'
rows_one [] [] h h' e = refl
rows_one [] (r ∷ rs) h h' e = absurd (let k = e r.0 ∙ head_row r rs in cc)
rows_one (r ∷ rs) [] h h' e = absurd (let k = sym (e r.0) ∙ head_row r rs in cc)
rows_one (r ∷ rs) (r' ∷ rs') h h' e =
    by_order r.0 r'.0
    (λ f. absurd (let k = sym (head_row r rs) ∙ e r.0 ∙ absent_before r.0 (r' ∷ rs') f h' in cc))
    (λ key.
    let value : r.1 ≡ r'.1 = some_one r.1 r'.1 (sym (head_row r rs) ∙ e r.0 ∙ ap (λ k. row_at k (r' ∷ rs')) key ∙ head_row r' rs') in
    let first : r ≡ r' = ap₂ (λ a b. (a, b)) key value in
    let t = rising_rest r rs h in
    let t' = rising_rest r' rs' h' in
    ap₂ (λ l ls. l ∷ ls) first (rows_one rs rs' t.1 t'.1 (below r r' rs rs' key t t' e)))
    (λ g. absurd (let k = sym (head_row r' rs') ∙ sym (e r'.0) ∙ absent_before r'.0 (r ∷ rs) g h in cc))
  where
    -- what there is below the first rows, which have one key
    below : (r r' : KeyRow) (rs rs' : List KeyRow) → r.0 ≡ r'.0 → StartsAfter r.0 rs × Rising rs → StartsAfter r'.0 rs' × Rising rs' →
        ((k : Key) → row_at k (r ∷ rs) ≡ row_at k (r' ∷ rs')) → (k : Key) → row_at k rs ≡ row_at k rs'
    below r r' rs rs' key t t' e k = by (same_key k r.0) refl
      where
        by : (b : Bool) → same_key k r.0 ≡ b → row_at k rs ≡ row_at k rs'
        by true z =
            let same : r.0 ≡ k = sym ((key_same k r.0).0 z) in
            absent_before k rs (subst (λ a. StartsAfter a rs) same t.0) t.1
            ∙ sym (absent_before k rs' (subst (λ a. StartsAfter a rs') (sym key ∙ same) t'.0) t'.1)
        by false n =
            let n' : same_key k r'.0 ≡ false = subst (λ z. same_key k z ≡ false) key n in
            let q : row_at k (r ∷ rs) ≡ row_at k rs = rw n refl in
            let q' : row_at k (r' ∷ rs') ≡ row_at k rs' = rw n' refl in
            sym q ∙ e k ∙ q'
