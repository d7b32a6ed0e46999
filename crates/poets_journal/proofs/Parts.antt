-- Parts of files.
use Rattle.std.proofs.Common.{◌≡◌, ◌≢◌, ◌⊎◌, ⊎_elim, ℕ, suc, ◌+◌, ◌-◌, ◌<◌, ◌≤◌, nat_lt, Bool, true, false, if◌then◌else◌, List, [], ◌∷◌, ◌++◌, map, length, get_or, take, drop, Option, Some, None, IfSome, Result, Ok, Err, refl, sym, ◌∙◌, ap, subst, arith, take_all, length-append, length-drop, take-append-drop, ltb-false}
use Rattle.std.proofs.Math.Seq.{take-add}
use Rattle.std.proofs.lemmas.List.{length-take-le, map_push}
use Rattle.poets_value.specs.Listed.{Listed}
use Rattle.poets_disk.specs.Disks.{Gives}
use Rattle.poets_journal.specs.Texts.{number_of, BeginsWith, AreRecords, IsClosed, IsDamaged}
use Rattle.poets_journal.specs.code.Opens.{HasRead}
use Rattle.poets_journal.proofs.Held.{records_more}

-- the record behind an open gate, where it is whole and something is behind it
pub whole_record : (bytes : List ℕ) (n : ℕ) (rest tail : List ℕ) → 4 ≤ length bytes → n ≡ number_of (get_or bytes 0 0) (get_or bytes 1 0) (get_or bytes 2 0) (get_or bytes 3 0)
    → rest ≡ take (length bytes - 4) (drop 4 bytes) → n < length rest → tail ≡ take (length rest - n) (drop n rest) → BeginsWith (take n rest) (1 ∷ bytes) tail × (0 < length tail)
whole_record [] n rest tail long is r lt t = absurd (omega arith)
whole_record (a ∷ []) n rest tail long is r lt t = absurd (omega arith)
whole_record (a ∷ b ∷ []) n rest tail long is r lt t = absurd (omega arith)
whole_record (a ∷ b ∷ c ∷ []) n rest tail long is r lt t = absurd (omega arith)
whole_record (a ∷ b ∷ c ∷ d ∷ more) n rest tail long is r lt t =
    let rest_is : rest ≡ more = r ∙ take_all (length (a ∷ b ∷ c ∷ d ∷ more) - 4) more (omega arith) in
    let tail_is : tail ≡ drop n rest = t ∙ take_all (length rest - n) (drop n rest) (omega (arith, length-drop n rest)) in (
      record {
        a = a;
        b = b;
        c = c;
        d = d;
        is = ap (λ (l : List ℕ). 1 ∷ a ∷ b ∷ c ∷ d ∷ l) (sym rest_is ∙ sym (take-append-drop n rest) ∙ ap (λ (l : List ℕ). take n rest ++ l) (sym tail_is));
        size = sym is ∙ sym (length-take-le n rest (omega arith));
      },
      omega (arith, ap length tail_is, length-drop n rest),
    )

-- so many bytes more of a file were read
pub more_read : (bytes : Option (List ℕ)) (old new buf : List ℕ) (count : ℕ) → IfSome bytes (Gives (length old) count buf) → new ≡ old ++ take count buf → count ≤ length buf → 0 < length buf → IfSome bytes (HasRead (nat_lt 0 count) old new)
more_read None old new buf count gives is le room = tt
more_read (Some file) old new buf count gives is le room =
    let long : length new ≡ length old + count = omega (arith, ap length is, length-append old (take count buf), length-take-le count buf le) in
    record {
      front = λ front. is ∙ (λ i. front i ++ gives.same i) ∙ sym (take-add (length old) count file) ∙ ap (λ (n : ℕ). take n file) (sym long);
      done = λ none. ⊎_elim (λ end. omega (arith, end, long)) (λ empty. absurd (omega (arith, empty, room))) (gives.none.0 (ltb_zero count none));
    }
  where
    ltb_zero : (n : ℕ) → nat_lt 0 n ≡ false → n ≡ 0
    ltb_zero n e = let le : n ≤ 0 = ltb-false 0 n e in omega (arith, le)

-- what was read is all of a file
pub all_read : (file list : List ℕ) → list ≡ take (length list) file → length file ≤ length list → list ≡ file
all_read file list is le = is ∙ take_all (length list) file le

pub length_texts : (texts : List (Listed ℕ)) → length (map (λ t. t.items) texts) ≡ length texts
length_texts [] = refl
length_texts (t ∷ ts) = ap suc (length_texts ts)

pub texts_pushed : (old new : List (Listed ℕ)) (own : Listed ℕ) (text : List ℕ) → new ≡ old ++ own ∷ [] → own.items ≡ text → map (λ t. t.items) new ≡ map (λ t. t.items) old ++ text ∷ []
texts_pushed old new own text is same = ap (map (λ t. t.items)) is ∙ map_push (λ t. t.items) old own ∙ ap (λ (t : List ℕ). map (λ t. t.items) old ++ t ∷ []) same

-- a record behind an open gate, by what stands behind the gate
pub gate_begins : (text rest b more : List ℕ) → rest ≡ 1 ∷ drop 1 rest → b ≡ drop 1 rest → BeginsWith text (1 ∷ b) more → BeginsWith text rest more
gate_begins text rest b more opens is begins = subst (λ l. BeginsWith text l more) (ap (λ (l : List ℕ). 1 ∷ l) is ∙ sym opens) begins

pub damaged_at : (bytes : List ℕ) (texts : List (List ℕ)) (rest b : List ℕ) (number : ℕ) → 1 < length bytes → AreRecords bytes texts rest → number ≡ length texts + 1 → rest ≡ 1 ∷ drop 1 rest → b ≡ drop 1 rest
    → ((text more : List ℕ) (next : ℕ) → BeginsWith text (1 ∷ b) (next ∷ more) → ⊥) → IsDamaged bytes number
damaged_at bytes texts rest b number long records count opens is none = record {
  texts = texts;
  rest = rest;
  long = long;
  records = records;
  count = count;
  cut = record {
    rest = drop 1 rest;
    begun = opens;
    short = λ text more next begins. none text more next (subst (λ l. BeginsWith text l (next ∷ more)) (opens ∙ ap (λ (l : List ℕ). 1 ∷ l) (sym is)) begins);
  };
}

-- the first byte and the rest
pub first_is : (bytes : List ℕ) → 0 < length bytes → bytes ≡ get_or bytes 0 0 ∷ drop 1 bytes
first_is [] long = absurd (omega arith)
first_is (x ∷ xs) long = refl

pub first_closed : (bytes : List ℕ) → 0 < length bytes → get_or bytes 0 0 ≢ 1 → IsClosed bytes
first_closed [] long shut = absurd (omega arith)
first_closed (x ∷ xs) long shut = shut

-- the front of a file that was read, and read further
pub read_on : (told now : Option (List ℕ)) (old new : List ℕ) (more : Bool) → now ≡ told → IfSome told (λ file. old ≡ take (length old) file) → IfSome now (HasRead more old new) → IfSome told (λ file. new ≡ take (length new) file)
read_on None now old new more same front read = tt
read_on (Some file) now old new more same front read = let r : HasRead more old new file = subst (λ o. IfSome o (HasRead more old new)) same read in r.front front

pub read_done : (told now : Option (List ℕ)) (old new : List ℕ) (more : Bool) → now ≡ told → IfSome now (HasRead more old new) → more ≡ false → IfSome told (λ file. length file ≤ length new)
read_done None now old new more same read none = tt
read_done (Some file) now old new more same read none = let r : HasRead more old new file = subst (λ o. IfSome o (HasRead more old new)) same read in r.done none

pub read_whole : (told : Option (List ℕ)) (list : List ℕ) → IfSome told (λ file. list ≡ take (length list) file) → IfSome told (λ file. length file ≤ length list) → IfSome told (λ file. list ≡ file)
read_whole None list front done = tt
read_whole (Some file) list front done = all_read file list front done

pub read_none : (told : Option (List ℕ)) (list : List ℕ) → list ≡ [] → IfSome told (λ file. list ≡ take (length list) file)
read_none None list none = tt
read_none (Some file) list none = subst (λ l. l ≡ take (length l) file) (sym none) refl

-- nothing is to be read where all was
pub read_all : (told : Option (List ℕ)) (list : List ℕ) (long : ℕ) → IfSome told (λ file. long ≡ length file) → long ≤ length list → IfSome told (HasRead false list list)
read_all None list long is le = tt
read_all (Some file) list long is le = record { front = λ front. front; done = λ none. omega (arith, is, le) }

pub reading_smaller : (more : Bool) (long old new : ℕ) → (more ≡ true → old < new) → old ≤ long → new ≤ long → (if more then long - new + 1 else 0) < long - old + 1
reading_smaller true long old new grows within le = let g : old < new = grows refl in omega arith
reading_smaller false long old new grows within le = omega arith

-- ---- the record at the front of the rest that is to be read

module _
    (text rest b more : List ℕ) (opens : rest ≡ 1 ∷ drop 1 rest) (is : b ≡ drop 1 rest)
    (begins : BeginsWith text (1 ∷ b) more) where
  begins_rest : BeginsWith text rest more
  begins_rest = gate_begins text rest b more opens is begins

  -- one record more was read
  pub one_more :
      (bytes : List ℕ) (old new : List (Listed ℕ)) (own : Listed ℕ) → AreRecords bytes (map (λ t. t.items) old) rest →
      length old + length rest ≤ length bytes → new ≡ old ++ own ∷ [] → own.items ≡ text →
      AreRecords bytes (map (λ t. t.items) new) more × (length new + length more ≤ length bytes) × (length more < length rest)
  one_more bytes old new own records few added same =
      let long : length rest ≡ 5 + length text + length more =
      ap length begins_rest.is ∙ omega (arith, length-append text more) in (
        subst (λ ts. AreRecords bytes ts more) (sym (texts_pushed old new own text added same))
            (records_more bytes (map (λ t. t.items) old) text rest more records begins_rest),
        omega (arith, few, long, ap length added, length-append old (own ∷ [])),
        omega (arith, long),
      )

  pub begins_shorter : length more < length rest
  begins_shorter = omega (arith, ap length begins_rest.is, length-append text more)

-- ---- answers that are no error

abbrev is_ok : {T E : Type 0} → Result T E → Type 0
is_ok (Ok value) = Unit {0}
is_ok (Err error) = ⊥

pub no_error : {T E : Type 0} (value : T) (error : E) → Ok value ≡ Err error → ⊥
no_error value error is = subst is_ok is tt
