-- Compact texts of values without floats read back.
use Rattle.std.proofs.Common.{◌≡◌, ℕ, zero, suc, max, ◌/◌, ◌%◌, ◌==◌, ◌^◌, ◌<◌, ◌≤◌, List, [], ◌∷◌, ◌++◌, Bool}
use Rattle.std.proofs.Common.{true, false, cond, Option, Some, option_map, option_and_then, decimal, IsUtf8, refl, sym}
use Rattle.std.proofs.Common.{ap, ◌∙◌, arith, append-nil}
use Rattle.std.specs.Fmt.{digits, digits_onto, digit_glyph}
use Rattle.std.proofs.lemmas.Bool.Decides.{nat_tests}
use Rattle.std.proofs.lemmas.Str.{IsUtf8-append, IsUtf8-from_ascii, IsUtf8-nil}
use Rattle.std.proofs.lemmas.Str.Ascii.{IsAscii-cons, IsAscii-nil}
use Rattle.json.specs.Json as json
use Rattle.json.specs.Token.{Token}
use Rattle.json.specs.Tree as tree
use Rattle.json.specs.Tree.{json_tokens, HasNumbers, ItemsHaveNumbers, MembersHaveNumbers}
use Rattle.json.specs.Lex.{tokens}
use Rattle.json.proofs.Printed.Decimals.{IsNumber-decimal}
use Rattle.json.proofs.Printed.Tokens.{tokens-print}
use Rattle.json.proofs.Printed.Trees.{ArePrintable-json_tokens, value-json_tokens}
use Rattle.json.proofs.Printed.Utf8.{IsUtf8-are_ascii, IsUtf8-boolean, IsUtf8-quoted}
use Rattle.serde_json.specs.Data.{Num, unsigned, negative, float, Data, null, boolean, number, string, array, object}
use Rattle.serde_json.specs.Data.{Items, no_items, item, Members, no_members, member, put, depth, items_depth}
use Rattle.serde_json.specs.Data.{members_depth}
use Rattle.serde_json.specs.Read.{read, max_depth, of_json, of_items, of_members}
use Rattle.serde_json.specs.Written.{outline, items_outline, members_outline}
use Rattle.serde_json.specs.Written.{comma_if, compact_text, items_text, members_text}
use Rattle.serde_json.proofs.Numbers.{number_of-decimal}
use Rattle.serde_json.proofs.Texts.{print-outline}

-- ---- values that read back

-- the number is whole, and has 64 bits
abbrev pub IsSmall : Num → Type 0
IsSmall (unsigned n) = n < 2 ^ 64
IsSmall _ = ⊥

-- the members, put one after the other to those that were found
abbrev pub put_all : Members → (found : Members) → Members
put_all no_members found = found
put_all (member k d ms) found = put_all ms (put k d found)

-- its numbers are small, its texts are in UTF-8, and its members stand in their order
abbrev mutual
  pub IsSound : Data → Type 0
  IsSound null = Unit {0}
  IsSound (boolean b) = Unit {0}
  IsSound (number n) = IsSmall n
  IsSound (string s) = IsUtf8 s
  IsSound (array ds) = AreSoundItems ds
  IsSound (object ms) = AreSoundMembers ms × (put_all ms no_members ≡ ms)

  pub AreSoundItems : Items → Type 0
  AreSoundItems no_items = Unit {0}
  AreSoundItems (item d ds) = IsSound d × AreSoundItems ds

  pub AreSoundMembers : Members → Type 0
  AreSoundMembers no_members = Unit {0}
  AreSoundMembers (member k d ms) = IsUtf8 k × IsSound d × AreSoundMembers ms

-- ---- they are read

mutual
  numbers : (d : Data) → IsSound d → HasNumbers (outline d)
  numbers null h = tt
  numbers (boolean b) h = tt
  numbers (number (unsigned n)) h = IsNumber-decimal n h
  numbers (number (negative z)) h = absurd h
  numbers (number (float x)) h = absurd h
  numbers (string s) h = tt
  numbers (array ds) h = items_numbers ds h
  numbers (object ms) h = members_numbers ms h.0

  items_numbers : (ds : Items) → AreSoundItems ds → ItemsHaveNumbers (items_outline ds)
  items_numbers no_items h = tt
  items_numbers (item d ds) h = (numbers d h.0, items_numbers ds h.1)

  members_numbers : (ms : Members) → AreSoundMembers ms → MembersHaveNumbers (members_outline ms)
  members_numbers no_members h = tt
  members_numbers (member k d ms) h = (numbers d h.1, members_numbers ms h.2)

mutual
  same_depth : (d : Data) → tree.depth (outline d) ≡ depth d
  same_depth null = refl
  same_depth (boolean b) = refl
  same_depth (number n) = refl
  same_depth (string s) = refl
  same_depth (array ds) = ap suc (items_same_depth ds)
  same_depth (object ms) = ap suc (members_same_depth ms)

  items_same_depth : (ds : Items) → tree.items_depth (items_outline ds) ≡ items_depth ds
  items_same_depth no_items = refl
  items_same_depth (item d ds) = λ i. max (same_depth d i) (items_same_depth ds i)

  members_same_depth : (ms : Members) → tree.members_depth (members_outline ms) ≡ members_depth ms
  members_same_depth no_members = refl
  members_same_depth (member k d ms) = λ i. max (same_depth d i) (members_same_depth ms i)

mutual
  converted : (d : Data) → IsSound d → of_json (outline d) ≡ Some d
  converted null h = refl
  converted (boolean b) h = refl
  converted (number (unsigned n)) h = ap (option_map number) (number_of-decimal n h)
  converted (number (negative z)) h = absurd h
  converted (number (float x)) h = absurd h
  converted (string s) h = refl
  converted (array ds) h = ap (option_map array) (items_converted ds h)
  converted (object ms) h =
      ap (option_map object) (members_converted ms no_members h.0 ∙ ap (λ (all : Members). Some all) h.1)

  items_converted : (ds : Items) → AreSoundItems ds → of_items (items_outline ds) ≡ Some ds
  items_converted no_items h = refl
  items_converted (item d ds) h =
      λ i. option_and_then (λ e. option_map (item e) (items_converted ds h.1 i)) (converted d h.0 i)

  members_converted :
      (ms found : Members) → AreSoundMembers ms → of_members (members_outline ms) found ≡ Some (put_all ms found)
  members_converted no_members found h = refl
  members_converted (member k d ms) found h =
      ap (option_and_then (λ e. of_members (members_outline ms) (put k e found))) (converted d h.1)
      ∙ members_converted ms (put k d found) h.2

-- what the tree of a text is as a value, where nothing is left
abbrev whole : Option (json.Json × List Token) → Option Data
whole o = option_and_then of_json (option_and_then (λ p. json.if_last p.0 p.1) o)

pub reads_back : (d : Data) → IsSound d → depth d ≤ max_depth → read (compact_text d) ≡ Some d
reads_back d h shallow =
    let same = ap tokens (sym (print-outline d))
    ∙ tokens-print (json_tokens (outline d)) (ArePrintable-json_tokens (outline d) (numbers d h)) in
    ap whole (ap (json.value max_depth) (same ∙ sym (append-nil (json_tokens (outline d))))
    ∙ value-json_tokens (outline d) max_depth [] (omega (arith, shallow, same_depth d)))
    ∙ converted d h

-- ---- they are in UTF-8

-- two texts, one after the other
infixl 10 ◌⊕◌
pub ◌⊕◌ : {a b : List ℕ} → IsUtf8 a → IsUtf8 b → IsUtf8 (a ++ b)
h ⊕ k = IsUtf8-append _ _ h k

-- a byte, and a text behind it
pub ascii_then : (x : ℕ) (xs : List ℕ) → x < 128 → IsUtf8 xs → IsUtf8 (x ∷ xs)
ascii_then x xs small h = IsUtf8-append (x ∷ []) xs (IsUtf8-from_ascii (x ∷ []) (IsAscii-cons x [] small IsAscii-nil)) h

either_utf8 : (b : Bool) (xs ys : List ℕ) → IsUtf8 xs → IsUtf8 ys → IsUtf8 (cond b xs ys)
either_utf8 true xs ys h k = h
either_utf8 false xs ys h k = k

digit_small : (n : ℕ) → digit_glyph false (n % 10) < 128
digit_small n = let low : n % 10 < 10 = omega arith in grind (arith, nat_tests, low)

digits_utf8 : (k n : ℕ) (after : List ℕ) → IsUtf8 after → IsUtf8 (digits_onto k 10 false n after)
digits_utf8 zero n after h = h
digits_utf8 (suc k) n after h =
    let digit = digit_glyph false (n % 10) in
    let here = ascii_then digit after (digit_small n) h in
    either_utf8 (n / 10 == 0) (digit ∷ after) (digits_onto k 10 false (n / 10) (digit ∷ after)) here
    (digits_utf8 k (n / 10) (digit ∷ after) here)

pub decimal_utf8 : (n : ℕ) → IsUtf8 (decimal n)
unfolding digits
decimal_utf8 n = digits_utf8 64 n [] IsUtf8-nil

comma_utf8 : (later : Bool) → IsUtf8 (comma_if later)
comma_utf8 later = either_utf8 later (44 ∷ []) [] (IsUtf8-are_ascii (44 ∷ []) refl) IsUtf8-nil

mutual
  pub compact_utf8 : (d : Data) → IsSound d → IsUtf8 (compact_text d)
  compact_utf8 null h = IsUtf8-are_ascii (compact_text null) refl
  compact_utf8 (boolean b) h = IsUtf8-boolean b
  compact_utf8 (number (unsigned n)) h = decimal_utf8 n
  compact_utf8 (number (negative z)) h = absurd h
  compact_utf8 (number (float x)) h = absurd h
  compact_utf8 (string s) h = IsUtf8-quoted s h
  compact_utf8 (array ds) h = ascii_then 91 (items_text false ds) (omega arith) (items_utf8 false ds h)
  compact_utf8 (object ms) h = ascii_then 123 (members_text false ms) (omega arith) (members_utf8 false ms h.0)

  items_utf8 : (later : Bool) (ds : Items) → AreSoundItems ds → IsUtf8 (items_text later ds)
  items_utf8 later no_items h = IsUtf8-are_ascii (93 ∷ []) refl
  items_utf8 later (item d ds) h =
      IsUtf8-append (comma_if later) (compact_text d ++ items_text true ds) (comma_utf8 later)
      (IsUtf8-append (compact_text d) (items_text true ds) (compact_utf8 d h.0) (items_utf8 true ds h.1))

  members_utf8 : (later : Bool) (ms : Members) → AreSoundMembers ms → IsUtf8 (members_text later ms)
  members_utf8 later no_members h = IsUtf8-are_ascii (125 ∷ []) refl
  members_utf8 later (member k d ms) h =
      let behind = compact_text d ++ members_text true ms in
      let value = IsUtf8-append (compact_text d) (members_text true ms) (compact_utf8 d h.1) (members_utf8 true ms h.2)
      in
      comma_utf8 later ⊕ (IsUtf8-quoted k h.0 ⊕ ascii_then 58 behind (omega arith) value)
