-- A text is of one value, or of none.
use Rattle.std.proofs.Common.{◌≡◌, ◌≢◌, ℕ, ◌<◌, Bool, true, false, cond, ◌==◌, nat_lt, List, [], ◌∷◌, length, refl, sym, ap, ap₂, subst, ◌∙◌, arith, inl, inr, Option, Some, ℤ}
use Rattle.std.specs.Prelude.{drop, slice_index}
use Rattle.std.specs.Bool.{IsTrue}
use Rattle.std.specs.Fmt.{signed_decimal}
use Rattle.std.specs.Str.Parse.{true_text, false_text}
use Rattle.std.proofs.lemmas.Bool.Decides.{nat_tests}
use Rattle.poets_value.specs.declared.value.Name.{Name}
use Rattle.poets_value.specs.declared.value.Ty.{Ty}
use Rattle.poets_value.specs.declared.value.Ty.TheVariants as T
use Rattle.poets_value.specs.declared.value.Resource.{Resource}
use Rattle.poets_value.specs.declared.value.Value.{Value}
use Rattle.poets_value.specs.declared.value.Value.TheVariants as V
use Rattle.poets_value.specs.Civil.{IsDayNumber, IsDayText, day_text}
use Rattle.poets_value.proofs.Days.{day_of_text_is}
use Rattle.poets_value.proofs.EachDay.{IsDayText-day_text}
use Rattle.poets_expr.specs.Env.{Declared}
use Rattle.poets_lex.specs.declared.token.Word.TheVariants as W
use Rattle.poets_lex.specs.Bytes.{begins_name}
use Rattle.poets_lex.specs.Table.{Table, IsTable, IsName, HasNameShape}
use Rattle.poets_print.specs.Texts.{name_text, truth_text, value_text}
use Rattle.poets_literals.specs.Declared.{IsNumber, IsAsDeclared, HasValueText}
use Rattle.poets_literals.specs.Laws.{OneValue}
use Rattle.poets_literals.specs.code.Parts.{BeginsPlainly, HasNameText, HasResourceText}
use Rattle.poets_literals.proofs.NumberTexts.{one_number, begins_plainly, number_without_space}
use Rattle.poets_literals.proofs.NameTexts.{one_name, is_name}
use Rattle.poets_literals.proofs.TextsInBrackets.{one_split}

-- a text of which no form of value is has no value
pub no_value :
    (names : Table) (declared : Declared) (text : List ℕ) → ((z : ℤ) → IsNumber z → signed_decimal z ≢ text) →
    ((b : Bool) → truth_text b ≢ text) → ((x : Name) → HasNameText names declared T.Agent text x → ⊥) →
    ((x : Name) → HasNameText names declared T.Kind text x → ⊥) →
    ((r : Resource) → HasResourceText names declared text r → ⊥) →
    ((day : ℤ) → IsDayNumber day → 64 ∷ day_text day ≢ text) → (v : Value) → HasValueText names declared text v → ⊥
no_value names declared text number truth agent kind resource day (V.Int z) h = number z h.0 h.1
no_value names declared text number truth agent kind resource day (V.Bool b) h = truth b h.1
no_value names declared text number truth agent kind resource day (V.Agent x) h = agent x h
no_value names declared text number truth agent kind resource day (V.Kind x) h = kind x h
no_value names declared text number truth agent kind resource day (V.Resource r) h = resource r h
no_value names declared text number truth agent kind resource day (V.Day d) h = day d h.0 h.1

pub no_truth_read : (text : List ℕ) → (text ≢ true_text) × (text ≢ false_text) → (b : Bool) → truth_text b ≢ text
no_truth_read text h true e = h.0 (sym e)
no_truth_read text h false e = h.1 (sym e)

-- the first byte of a text: 0 of a number, 1 of a word or a name, 2 of a resource, 3 of a day
abbrev sort_of_byte : ℕ → ℕ
sort_of_byte byte = cond (nat_lt byte 58) 0 (cond (byte == 91) 2 (cond (byte == 64) 3 1))

abbrev sort_of : Value → ℕ
sort_of (V.Int z) = 0
sort_of (V.Bool b) = 1
sort_of (V.Agent x) = 1
sort_of (V.Kind x) = 1
sort_of (V.Resource r) = 2
sort_of (V.Day d) = 3

low_byte : (byte : ℕ) → byte < 58 → sort_of_byte byte ≡ 0
low_byte byte h = grind (arith, nat_tests)

letter : (byte : ℕ) → IsTrue (begins_name byte) → sort_of_byte byte ≡ 1
letter byte h = grind (arith, nat_tests)

begins_low : (text : List ℕ) → BeginsPlainly text → slice_index text 0 < 58
begins_low text (inl e) = omega (arith, ap (λ (t : List ℕ). slice_index t 0) e)
begins_low text (inr (inl first)) = omega (arith, first)
begins_low text (inr (inr minus)) = omega (arith, minus.0)

name_sort : (text : List ℕ) → HasNameShape text → sort_of_byte (slice_index text 0) ≡ 1
name_sort [] h = absurd h
name_sort (byte ∷ text) h = letter byte h.0

text_sort :
    (names : Table) (declared : Declared) (v : Value) → IsTable names → IsAsDeclared names declared v →
    sort_of_byte (slice_index (value_text names v) 0) ≡ sort_of v
text_sort names declared (V.Int z) all h = low_byte _ (begins_low (signed_decimal z) (begins_plainly z h))
text_sort names declared (V.Bool true) all h = refl
text_sort names declared (V.Bool false) all h = refl
text_sort names declared (V.Agent x) all h = name_sort (name_text names x) (is_name names x all h.0).shape
text_sort names declared (V.Kind x) all h = name_sort (name_text names x) (is_name names x all h.0).shape
text_sort names declared (V.Resource r) all h = refl
text_sort names declared (V.Day d) all h = refl

no_truth : (b : Bool) (text : List ℕ) → IsName text → truth_text b ≢ text
no_truth true text name e = name.not_reserved W.True (sym e)
no_truth false text name e = name.not_reserved W.False (sym e)

one_truth : (a b : Bool) → truth_text a ≡ truth_text b → a ≡ b
one_truth true true e = refl
one_truth true false e = absurd (omega (arith, ap length e))
one_truth false true e = absurd (omega (arith, ap length e))
one_truth false false e = refl

one_day : (d f : ℤ) → IsDayNumber d → IsDayNumber f → day_text d ≡ day_text f → d ≡ f
one_day d f h k e =
    let other = subst (λ (t : List ℕ). IsDayText t f) (sym e) (IsDayText-day_text f k) in
    day_of_text_is (day_text d) d f (IsDayText-day_text d h) other

agent_or_kind : (o : Option Ty) → o ≡ Some T.Agent → o ≡ Some T.Kind → ⊥
agent_or_kind o h k = cc

-- values of one sort with one text are one
same_value :
    (names : Table) (declared : Declared) (v w : Value) → IsTable names → sort_of v ≡ sort_of w →
    IsAsDeclared names declared v → IsAsDeclared names declared w → value_text names v ≡ value_text names w → v ≡ w
same_value names declared (V.Int y) (V.Int z) all s h k e = ap V.Int (one_number y z h k e)
same_value names declared (V.Bool a) (V.Bool b) all s h k e = ap V.Bool (one_truth a b e)
same_value names declared (V.Bool b) (V.Agent x) all s h k e = absurd (no_truth b _ (is_name names x all k.0) e)
same_value names declared (V.Bool b) (V.Kind x) all s h k e = absurd (no_truth b _ (is_name names x all k.0) e)
same_value names declared (V.Agent x) (V.Bool b) all s h k e = absurd (no_truth b _ (is_name names x all h.0) (sym e))
same_value names declared (V.Kind x) (V.Bool b) all s h k e = absurd (no_truth b _ (is_name names x all h.0) (sym e))
same_value names declared (V.Agent x) (V.Agent y) all s h k e = ap V.Agent (one_name names x y h.0 k.0 e)
same_value names declared (V.Kind x) (V.Kind y) all s h k e = ap V.Kind (one_name names x y h.0 k.0 e)
same_value names declared (V.Agent x) (V.Kind y) all s h k e =
    absurd (agent_or_kind (declared y) (ap declared (sym (one_name names x y h.0 k.0 e)) ∙ h.1) k.1)
same_value names declared (V.Kind x) (V.Agent y) all s h k e =
    absurd (agent_or_kind (declared y) k.1 (ap declared (sym (one_name names x y h.0 k.0 e)) ∙ h.1))
same_value names declared (V.Resource q) (V.Resource r) all s h k e =
    let parts =
    one_split (signed_decimal q.amount) (signed_decimal r.amount) (name_text names q.kind) (name_text names r.kind)
    (number_without_space q.amount h.0) (number_without_space r.amount k.0) e in
    ap₂ (λ (amount : ℤ) (kind : Name). V.Resource (record { kind = kind; amount = amount }))
    (one_number q.amount r.amount h.0 k.0 parts.0) (one_name names q.kind r.kind h.1.0 k.1.0 parts.1)
same_value names declared (V.Day d) (V.Day f) all s h k e = ap V.Day (one_day d f h k (ap (drop 1) e))
same_value names declared v w all s h k e = absurd (omega (arith, s))

pub one_value : OneValue
one_value names declared text v w all h k =
    let same = h.1 ∙ sym k.1 in
    let sort : sort_of v ≡ sort_of w =
    sym (text_sort names declared v all h.0) ∙ ap (λ (t : List ℕ). sort_of_byte (slice_index t 0)) same
    ∙ text_sort names declared w all k.0 in
    same_value names declared v w all sort h.0 k.0 same
