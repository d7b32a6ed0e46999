-- The words for what the program may be asked to do.
use Rattle.std.proofs.Common.{◌≡◌, ◌≢◌, ℕ, ◌≤◌, ◌∙◌, List, [], ◌∷◌, length, get_or, refl, sym, ap, arith, Bool, true, false, not, IsTrue, ◌↔◌}
use Rattle.std.specs.Fmt.{decimal}
use Rattle.std.specs.List.{list_any}
use Rattle.std.specs.Str.Parse.{starts_with_minus}
use Rattle.std.proofs.lemmas.Fmt.{decimal_injective, first_decimal}
use Rattle.std.proofs.lemmas.Bool.{or_from}
use Rattle.std.proofs.lemmas.Bool.Decides.{nat_tests}
use Rattle.poets_value.specs.Limits.{most_sales}
use Rattle.poets_lex.specs.Table.{HasNameShape}
use Rattle.poets_words.specs.Words.{AskFor, IsCommandForm, IsMode, words_of, words_of_task}
use Rattle.poets_words.specs.code.Reading.{IsPlain}
use Rattle.poets_words.specs.declared.mode.Mode.{Mode}
use Rattle.poets_words.specs.declared.mode.Mode.TheVariants as M
use Rattle.poets_words.specs.declared.mode.Task.{Task}
use Rattle.poets_words.specs.declared.mode.Task.TheVariants as T

-- the decimal of a number that is not 0 has no sign
no_sign : (n : ℕ) → 1 ≤ n → n ≤ most_sales → starts_with_minus (decimal n) ≡ false
no_sign n low high = let first = first_decimal n low (omega arith) in grind (arith, nat_tests)

-- nor has a name
name_unsigned : (name : List ℕ) → HasNameShape name → starts_with_minus name ≡ false
name_unsigned [] h = refl
name_unsigned (byte ∷ bytes) h = let letter = h.0 in grind (arith, nat_tests)

-- such words are plain
plain_words : (mode : Mode) → IsMode mode → IsPlain (words_of mode)
plain_words (M.Read T.Check) h = (omega arith, omega arith, refl)
plain_words (M.Read T.Run) h = (omega arith, omega arith, refl)
plain_words (M.Read T.Replay) h = (omega arith, omega arith, refl)
plain_words (M.Read (T.Explain name)) h = (omega arith, omega arith, or_from _ _ (name_unsigned name h.shape) refl)
plain_words (M.Read T.Export) h = (omega arith, omega arith, refl)
plain_words (M.Demo n) h = (omega arith, omega arith, or_from _ _ (no_sign n h.0 h.1) refl)

-- a command form is plain
pub plain_form : (words : List (List ℕ)) → IsCommandForm words → IsPlain words
plain_form words form = rw form.1.0 (plain_words form.0 form.1.1)

-- no words for a task are those for a demonstration
no_demo : (task : Task) (n : ℕ) → words_of_task task ≢ words_of (M.Demo n)
no_demo T.Check n e = absurd cc
no_demo T.Run n e = absurd cc
no_demo T.Replay n e = absurd cc
no_demo (T.Explain name) n e = absurd cc
no_demo T.Export n e = absurd cc

-- the first byte of the first word
abbrev first_byte : List (List ℕ) → ℕ
first_byte words = get_or (get_or words 0 []) 0 0

-- words are those for one task
task_once : (a b : Task) → words_of_task a ≡ words_of_task b → a ≡ b
task_once T.Check T.Check e = refl
task_once T.Run T.Run e = refl
task_once T.Replay T.Replay e = refl
task_once (T.Explain name) (T.Explain other) e = cc
task_once T.Export T.Export e = refl
task_once T.Replay T.Export e = let first : 114 ≡ 101 = ap first_byte e in absurd (omega (arith, first))
task_once T.Export T.Replay e = let first : 101 ≡ 114 = ap first_byte e in absurd (omega (arith, first))
task_once a b e = absurd cc

-- words ask for one thing
pub asked_once : (words : List (List ℕ)) (a b : Mode) → AskFor words a → AskFor words b → a ≡ b
asked_once words (M.Demo m) (M.Demo n) h k = ap M.Demo (decimal_injective m n (omega (arith, h.1)) (omega (arith, k.1)) (let e : words_of (M.Demo m) ≡ words_of (M.Demo n) = sym h.0 ∙ k.0 in cc))
asked_once words (M.Read a) (M.Read b) h k = ap M.Read (task_once a b (sym h.0 ∙ k.0))
asked_once words (M.Read task) (M.Demo n) h k = absurd (no_demo task n (sym h.0 ∙ k.0))
asked_once words (M.Demo n) (M.Read task) h k = absurd (no_demo task n (sym k.0 ∙ h.0))

-- one or two words are plain where none begins with `-`
pub plain_where_none : (words : List (List ℕ)) (any : Bool) → any ≡ list_any starts_with_minus words → (1 ≤ length words) × (length words ≤ 2) → IsTrue (not any) ↔ IsPlain words
plain_where_none words true e h = (λ t. absurd cc, λ plain. absurd cc)
plain_where_none words false e h = (λ t. (h.0, h.1, sym e), λ plain. refl)
