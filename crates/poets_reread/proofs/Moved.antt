-- The names of one table in another that has all its texts.
use Rattle.std.proofs.Common.{◌≡◌, ℕ, zero, suc, ◌+◌, List, [], ◌∷◌, ◌++◌, length, Bool, true, false, Option, Some, None, refl, sym, ap, ◌∙◌, slice_get, get_or, unwrap_or, nat_eq, arith}
use Rattle.std.specs.Str.{bytes_eq}
use Rattle.std.proofs.lemmas.Bool.{eq-eqb, eqb-true}
use Rattle.std.proofs.lemmas.List.{append-nil}
use Rattle.std.proofs.lemmas.List.Quantifiers.{position-Some}
use Rattle.std.proofs.lemmas.Option.{same_Some, slice_get-get_or, slice_get_within}
use Rattle.std.proofs.lemmas.Slice.Eq.{bytes_eq-Decides}
use Rattle.poets_value.specs.declared.value.Name.{Name}
use Rattle.poets_expr.specs.Env.{same_name}
use Rattle.poets_lex.specs.Table.{Table, IsName, IsTable, Extends, place_of, with_text}
use Rattle.poets_lex.proofs.Found.{known, unknown, position-before, IsTable-push}
use Rattle.poets_lex.proofs.Readings.{Extends-then}
use Rattle.poets_print.specs.Texts.{name_text}
use Rattle.poets_print.specs.Laws.{IsListed}
use Rattle.poets_reread.proofs.Relexed.{place_with, extends_with}

-- ---- one table with the texts of another

abbrev pub with_all : Table → Table → Table
with_all [] table = table
with_all (text ∷ texts) table = with_all texts (with_text text table)

pub extends_same : (table : Table) → Extends table table
extends_same table = ([], sym (append-nil table))

pub extends_all : (texts table : Table) → Extends table (with_all texts table)
extends_all [] table = extends_same table
extends_all (text ∷ texts) table =
    Extends-then table (with_text text table) (with_all texts (with_text text table)) (extends_with text table)
    (extends_all texts (with_text text table))

table_push : (text : List ℕ) (table : Table) → IsName text → IsTable table → IsTable (with_text text table)
table_push text table name h = by_place (place_of text table) refl
  where
    by_place : (found : Option ℕ) → place_of text table ≡ found → IsTable (with_text text table)
    by_place (Some i) e = rw (known (bytes_eq text) table i e) h
    by_place None e = rw (unknown (bytes_eq text) table e) (IsTable-push table text h name e)

-- each of the texts is a name
abbrev AreNames : Table → Type 0
AreNames texts = (i : ℕ) (text : List ℕ) → slice_get texts i ≡ Some text → IsName text

all_table : (texts table : Table) → AreNames texts → IsTable table → IsTable (with_all texts table)
all_table [] table names h = h
all_table (text ∷ texts) table names h =
    all_table texts (with_text text table) (λ i other at. names (suc i) other at) (table_push text table (names 0 text refl) h)

pub is_table_all : (texts table : Table) → IsTable texts → IsTable table → IsTable (with_all texts table)
is_table_all texts table all h = all_table texts table (λ i text at. (all text i at).0) h

-- a text keeps its place where more texts follow
place_wide : (text : List ℕ) (old new : Table) (i : ℕ) → Extends old new → place_of text old ≡ Some i → place_of text new ≡ Some i
place_wide text old new i more e = ap (place_of text) more.1 ∙ position-before (bytes_eq text) old more.0 i e

pub place_all : (texts table : Table) (i : ℕ) (text : List ℕ) → slice_get texts i ≡ Some text →
    (j : ℕ) × (place_of text (with_all texts table) ≡ Some j)
place_all [] table i text at = absurd cc
place_all (first ∷ texts) table zero text at =
    let here = place_with first table in
    let e : first ≡ text = same_Some first text at in
    let wide = with_all texts (with_text first table) in (
      here.0,
      ap (λ (s : List ℕ). place_of s wide) (sym e)
          ∙ place_wide first (with_text first table) wide here.0 (extends_all texts (with_text first table)) here.1,
    )
place_all (first ∷ texts) table (suc i) text at = place_all texts (with_text first table) i text at

-- ---- where a name goes

moved_id : Table → ℕ → Option (List ℕ) → ℕ
moved_id wide i (Some text) = unwrap_or (place_of text wide) 0
moved_id wide i None = i + length wide

-- a name goes to the place of its text; one that the table does not have goes past the end
pub moved : (names wide : Table) → Name → Name
moved names wide x = record { id = moved_id wide x.id (slice_get names x.id) }

-- the text at a text's place
place_text : (text : List ℕ) (table : Table) (i : ℕ) → place_of text table ≡ Some i → slice_get table i ≡ Some text
place_text text table i e =
    let found = position-Some (bytes_eq text) table i [] e in
    let same : text ≡ get_or table i [] = (bytes_eq-Decides text (get_or table i [])).0 found.1 in
    slice_get-get_or table i [] found.0 ∙ ap Some (sym same)

front_get : (old more : Table) (i : ℕ) (text : List ℕ) → slice_get old i ≡ Some text → slice_get (old ++ more) i ≡ Some text
front_get [] more i text e = absurd cc
front_get (x ∷ old) more zero text e = e
front_get (x ∷ old) more (suc i) text e = front_get old more i text e

pub get_wide : (old new : Table) (i : ℕ) (text : List ℕ) → Extends old new → slice_get old i ≡ Some text → slice_get new i ≡ Some text
get_wide old new i text more e = ap (λ (t : Table). slice_get t i) more.1 ∙ front_get old more.0 i text e

-- a name has one text in a table and in a longer one
pub text_wide : (old new : Table) → Extends old new → (x : Name) → IsListed old x → name_text new x ≡ name_text old x
text_wide old new more x low =
    let here = slice_get-get_or old x.id [] low in
    ap (λ (o : Option (List ℕ)). unwrap_or o []) (get_wide old new x.id (get_or old x.id []) more here ∙ sym here)

test_same : (a b c d : ℕ) → (a ≡ b → c ≡ d) → (c ≡ d → a ≡ b) → nat_eq a b ≡ nat_eq c d
test_same a b c d to from = by_tests (nat_eq a b) (nat_eq c d) refl refl
  where
    by_tests : (p q : Bool) → nat_eq a b ≡ p → nat_eq c d ≡ q → nat_eq a b ≡ nat_eq c d
    by_tests true true e f = e ∙ sym f
    by_tests false false e f = e ∙ sym f
    by_tests true false e f = absurd (let no : true ≡ false = sym (eq-eqb c d (to (eqb-true a b e))) ∙ f in cc)
    by_tests false true e f = absurd (let no : true ≡ false = sym (eq-eqb a b (from (eqb-true c d f))) ∙ e in cc)

module _ (names wide : Table) (all : IsTable names) (full : IsTable wide)
    (there : (i : ℕ) (text : List ℕ) → slice_get names i ≡ Some text → (j : ℕ) × (place_of text wide ≡ Some j)) where
  id_at : (i : ℕ) (text : List ℕ) → slice_get names i ≡ Some text → slice_get wide (moved_id wide i (Some text)) ≡ Some text
  unfolding moved_id
  id_at i text at =
      let to = there i text at in
      rw to.1 (place_text text wide to.0 to.1)

  one_id : (i j : ℕ) (a b : Option (List ℕ)) → slice_get names i ≡ a → slice_get names j ≡ b → moved_id wide i a ≡ moved_id wide j b → i ≡ j
  unfolding moved_id
  one_id i j (Some a) (Some b) e f same =
      let x = id_at i a e in
      let y = id_at j b f in
      let texts : Some a ≡ Some b = sym x ∙ ap (slice_get wide) same ∙ y in
      let text : a ≡ b = same_Some a b texts in
      let p : Some i ≡ Some j = sym (all a i e).1 ∙ ap (λ (t : List ℕ). place_of t names) text ∙ (all b j f).1 in
      same_Some i j p
  one_id i j (Some a) None e f same =
      let low = slice_get_within wide (moved_id wide i (Some a)) a (id_at i a e) in
      absurd (omega arith)
  one_id i j None (Some b) e f same =
      let low = slice_get_within wide (moved_id wide j (Some b)) b (id_at j b f) in
      absurd (omega arith)
  one_id i j None None e f same = omega arith

  -- two names go to one place where they are one
  pub moved_same : (x y : Name) → same_name (moved names wide x) (moved names wide y) ≡ same_name x y
  unfolding moved
  moved_same x y =
      test_same (moved names wide x).id (moved names wide y).id x.id y.id
      (one_id x.id y.id (slice_get names x.id) (slice_get names y.id) refl refl)
      (λ e. ap (λ (i : ℕ). moved_id wide i (slice_get names i)) e)

  moved_at : (x : Name) (text : List ℕ) → slice_get names x.id ≡ Some text → slice_get wide (moved names wide x).id ≡ Some text
  unfolding moved
  moved_at x text at = rw at (id_at x.id text at)

  pub moved_listed : (x : Name) → IsListed names x → IsListed wide (moved names wide x)
  moved_listed x low =
      let here = slice_get-get_or names x.id [] low in
      slice_get_within wide (moved names wide x).id (get_or names x.id []) (moved_at x (get_or names x.id []) here)

  pub moved_text : (x : Name) → IsListed names x → name_text wide (moved names wide x) ≡ name_text names x
  moved_text x low =
      let here = slice_get-get_or names x.id [] low in
      ap (λ (o : Option (List ℕ)). unwrap_or o []) (moved_at x (get_or names x.id []) here ∙ sym here)

  -- a name that has one place in both tables stays
  pub moved_fixed : (x : Name) (text : List ℕ) → slice_get names x.id ≡ Some text → slice_get wide x.id ≡ Some text → moved names wide x ≡ x
  unfolding moved moved_id
  moved_fixed x text at to =
      let made : ℕ → Name = λ i. record { id = i } in
      let e : (moved names wide x).id ≡ x.id =
      ap (moved_id wide x.id) at ∙ ap (λ (o : Option ℕ). unwrap_or o 0) (full text x.id to).1 in
      ap made e
