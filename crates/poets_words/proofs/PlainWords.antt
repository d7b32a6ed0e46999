-- What `clap` makes of one or two words, none of which begins with `-`.
use Rattle.std.proofs.Common.{◌≡◌, ℕ, List, [], ◌∷◌, Option, Some, None, true, false, refl, codes, cond, arith, map, ap, ap₂, ◌∙◌}
use Rattle.std.specs.Prelude.{option_and_then, option_map, slice_get, find}
use Rattle.std.specs.Borrow.{Bor}
use Rattle.std.specs.Str.{bytes_eq}
use Rattle.std.specs.Str.Parse.{starts_with_minus}
use Rattle.std.proofs.lemmas.Bool.{or_parts}
use Rattle.clap.specs.Words.{App, Rule, Shape, first_of, matches_of, new_app, new_rule, takes, with_rule}
use Rattle.clap.specs.Lexer.{short_of}
use Rattle.clap.specs.Simple.{built, on_top}
use Rattle.clap.specs.Walk.{Held, Walk, arg_by_index, idle, nothing_held, row_of, rows_of, to_positional, value, walked, word_met}
use Rattle.clap.specs.Takes.{step_passes, turn_passes, walk_passes, word_passes}
use Rattle.clap.specs.Matches.{first_value}
use Rattle.clap.specs.Facts.{Entry}
use Rattle.clap.specs.declared.builder.ArgAction.TheVariants.{Set}
use Rattle.clap.specs.declared.parser.matches.Found.{Found}
use Rattle.poets_words.specs.code.Reading.{FindsPlainWords, IsPlain, words_found}

-- ---- the command

-- the first word
abbrev pub first : Rule
first = record (new_rule (codes "first")) { required = true; action = Some Set }

-- the word after it
abbrev pub second : Rule
second = record (new_rule (codes "second")) { action = Some Set }

abbrev pub poets : App
poets = with_rule (with_rule (on_top (λ s. record s { no_binary_name = true }) (new_app (codes "poets"))) first) second

abbrev rules : List Rule
rules = (built poets).top.rules

-- ---- a plain word goes to the next positional argument

short_plain : (x : ℕ) (xs : List ℕ) → starts_with_minus (x ∷ xs) ≡ false → short_of (x ∷ xs) ≡ None
short_plain x xs e = rw e refl

word_plain : (c : List Rule) (position : ℕ) (w : List ℕ) (h : Held) → starts_with_minus w ≡ false → word_met c [] false idle position w h ≡ (h, value)
word_plain c position [] h e = refl
word_plain c position (x ∷ xs) h e = rw (e, short_plain x xs e) refl

passes_plain : (s : Shape) (w : List ℕ) (h : Held) → starts_with_minus w ≡ false → word_passes s [] false idle w h ≡ true
passes_plain s [] h e = refl
passes_plain s (x ∷ xs) h e = rw (e, short_plain x xs e) refl

-- where the walk stands before a word that goes to the positional argument at `position`
abbrev at : Held → ℕ → Walk
at h position = record { held = h; waiting = idle; position = position; is_trailing = false; stopped = None }

walked_plain : (c : List Rule) (h : Held) (position : ℕ) (w : List ℕ) → starts_with_minus w ≡ false → walked c [] (at h position) w ≡ to_positional c (arg_by_index c position) w (at h position) h
unfolding walked
walked_plain c h position w e = rw (word_plain c position w h e) refl

turn_plain : (s : Shape) (h : Held) (position : ℕ) (w : List ℕ) → starts_with_minus w ≡ false → turn_passes s [] (at h position) w ≡ step_passes s position h value
turn_plain s h position w e = rw (word_plain s.rules position w h e, passes_plain s w h e) refl

-- ---- plain words

-- the command takes the words, and finds each of them
abbrev Finds : List (List ℕ) → Type 0
Finds words = (takes poets words ≡ true) × (words_found (first_of (codes "first") (matches_of poets words)) (first_of (codes "second") (matches_of poets words)) ≡ words)

-- what is held after the first of two words
abbrev after_first : List ℕ → Held
after_first w = record nothing_held { pending = Some (codes "first", w ∷ []) }

finds_one : (w : List ℕ) → starts_with_minus w ≡ false → Finds (w ∷ [])
unfolding walk_passes
finds_one w h = rw (walked_plain rules nothing_held 1 w h, turn_plain (built poets).top nothing_held 1 w h) (refl, refl)

finds_two : (w n : List ℕ) → starts_with_minus w ≡ false → starts_with_minus n ≡ false → Finds (w ∷ n ∷ [])
unfolding walk_passes
finds_two w n h k =
    rw (walked_plain rules nothing_held 1 w h, turn_plain (built poets).top nothing_held 1 w h, walked_plain rules (after_first w) 2 n k, turn_plain (built poets).top (after_first w) 2 n k)
    (refl, refl)

finds : (words : List (List ℕ)) → IsPlain words → Finds words
finds [] h = absurd (omega (arith, h.0))
finds (w ∷ []) h = finds_one w (or_parts _ _ h.2).0
finds (w ∷ n ∷ []) h = let e = or_parts (starts_with_minus w) _ h.2 in finds_two w n e.0 (or_parts _ _ e.1).0
finds (w ∷ n ∷ more ∷ rest) h = absurd (omega (arith, h.1))

pub finds_plain_words : (app : App) → app ≡ poets → FindsPlainWords app
finds_plain_words app e = rw e (record { simple = refl; taken = λ words h. (finds words h).0; found = λ words h. (finds words h).1 })

-- ---- the first value of an argument, read of its row

first_now : (vs : List (Bor (List ℕ))) → option_map (λ s. s.now) (slice_get vs 0) ≡ slice_get (map (λ s. s.now) vs) 0
first_now [] = refl
first_now (v ∷ vs) = refl

rows_first : (id : List ℕ) (es : List Entry) → option_and_then (λ a. option_map (λ s. s.now) (slice_get a.vals.items 0)) (option_map (λ e. e.1) (find (λ e. bytes_eq e.0.now id) es)) ≡ first_of id (map row_of es)
rows_first id [] = refl
rows_first id (e ∷ es) = elim (bytes_eq e.0.now id) as (λ b. option_and_then (λ a. option_map (λ s. s.now) (slice_get a.vals.items 0)) (option_map (λ x. x.1) (cond b (Some e) (find (λ x. bytes_eq x.0.now id) es))) ≡ option_and_then (λ r. slice_get r.values 0) (cond b (Some (row_of e)) (find (λ r. bytes_eq r.id id) (map row_of es)))) [ true ↦ first_now e.1.vals.items | false ↦ rows_first id es ]

value_of_rows : (f : Found) (id : List ℕ) → first_value f id ≡ first_of id (rows_of f)
value_of_rows f id = rows_first id f.entries.items

-- what was found are the words
pub words_are_found : (f : Found) (app : App) (words : List (List ℕ)) (w n : Option (List ℕ)) → FindsPlainWords app → IsPlain words → rows_of f ≡ matches_of app words →
    w ≡ first_value f (codes "first") → n ≡ first_value f (codes "second") → words_found w n ≡ words
words_are_found f app words w n finds plain rows d e =
    ap₂ words_found (d ∙ value_of_rows f (codes "first") ∙ ap (first_of (codes "first")) rows) (e ∙ value_of_rows f (codes "second") ∙ ap (first_of (codes "second")) rows) ∙ finds.found words plain
