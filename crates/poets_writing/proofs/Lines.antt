-- The lines of a history, as they are written one by one.
use Rattle.std.proofs.Common.{◌≡◌, ◌≢◌, ℕ, suc, ◌+◌, ◌<◌, List, [], ◌∷◌, ◌++◌, length, take, drop, get_or, Option, Result, Ok, Err, OnErr, refl, sym, ◌∙◌, ap, subst, arith, append_assoc, append-nil, length-append}
use Rattle.std.proofs.Math.Seq.{take-append-add}
use Rattle.std.proofs.lemmas.List.{take_more, take-append-drop, take-append-le, map-append, length-map, length-take-le}
use Rattle.std.specs.Io.KnownBytes.{Appends}
use Rattle.std.proofs.KnownBytes.{Appends-trans, Appends-nil}
use Rattle.poets_io.specs.Streams.{AppendsPart}
use Rattle.poets_lex.specs.Table.{Table}
use Rattle.poets_command.specs.declared.call.Entry.{Entry}
use Rattle.poets_command.specs.Calls.{entry_of, history_of}
use Rattle.poets_command.specs.Plain as plain
use Rattle.poets_print.specs.Lines.{line_text, lines_from, history_text}
use Rattle.poets_writing.specs.Outcomes.{lines_after}

lines_from-append : (names : Table) (n : ℕ) (a b : List plain.Entry) → lines_from names n (a ++ b) ≡ lines_from names n a ++ lines_from names (n + length a) b
lines_from-append names n [] b = ap (λ m. lines_from names m b) (let e : n ≡ n + 0 = omega arith in e)
lines_from-append names n (x ∷ a) b =
    let e : n + 1 + length a ≡ n + suc (length a) = omega arith in
    ap (λ l. line_text names n x ++ l) (lines_from-append names (n + 1) a b ∙ ap (λ m. lines_from names (n + 1) a ++ lines_from names m b) e)
    ∙ sym (append_assoc (line_text names n x) (lines_from names (n + 1) a) (lines_from names (n + suc (length a)) b))

last_some : (xs : List ℕ) (x : ℕ) → 0 < length (xs ++ x ∷ [])
last_some xs x = omega (arith, length-append xs (x ∷ []))

-- a line ends with LF
line_text-some : (names : Table) (n : ℕ) (e : plain.Entry) → 0 < length (line_text names n e)
line_text-some names n e = last_some _ 10

-- the lines of the first entries, numbered on from so many earlier ones
abbrev pub front_lines : Table → ℕ → ℕ → List Entry → List ℕ
front_lines names earlier i entries = lines_after names earlier (take i entries)

-- one line more
front_lines-more : (names : Table) (earlier i : ℕ) (entries : List Entry) (e : Entry) → i < length entries → e ≡ get_or entries i e →
    front_lines names earlier (i + 1) entries ≡ front_lines names earlier i entries ++ line_text names (earlier + i + 1) (entry_of e)
front_lines-more names earlier i entries e lt at =
    let front = history_of (take i entries) in
    let many : length front ≡ i = length-map (take i entries) entry_of ∙ length-take-le i entries (omega (arith, lt)) in
    let place : earlier + 1 + length front ≡ earlier + i + 1 = omega (arith, many) in
    ap (lines_after names earlier) (take_more entries i e lt ∙ ap (λ x. take i entries ++ x ∷ []) (sym at))
    ∙ ap (lines_from names (earlier + 1)) (map-append entry_of (take i entries) (e ∷ []))
    ∙ lines_from-append names (earlier + 1) front (entry_of e ∷ [])
    ∙ ap (λ l. lines_from names (earlier + 1) front ++ l)
    (append-nil (line_text names (earlier + 1 + length front) (entry_of e)) ∙ ap (λ n. line_text names n (entry_of e)) place)

-- the first lines, and those after them
front_lines-rest : (names : Table) (earlier i : ℕ) (entries : List Entry) →
    lines_after names earlier entries ≡ front_lines names earlier i entries ++ lines_from names (earlier + 1 + length (history_of (take i entries))) (history_of (drop i entries))
front_lines-rest names earlier i entries =
    ap (lines_after names earlier) (sym (take-append-drop i entries))
    ∙ ap (lines_from names (earlier + 1)) (map-append entry_of (take i entries) (drop i entries))
    ∙ lines_from-append names (earlier + 1) (history_of (take i entries)) (history_of (drop i entries))

-- a front was written, and then a part of what stands after it
AppendsPart-behind : (a b c : Option (List ℕ)) (front line rest whole : List ℕ) → whole ≡ (front ++ line) ++ rest → Appends a b front → AppendsPart b c line → AppendsPart a c whole
AppendsPart-behind a b c front line rest whole e p q = record {
  taken = length front + q.taken;
  short = let n = ap length e ∙ length-append (front ++ line) rest in omega (arith, n, length-append front line, q.short);
  bytes =
      let within : take q.taken (line ++ rest) ≡ take q.taken line = take-append-le q.taken line rest (omega (arith, q.short)) in
      let split : take (length front + q.taken) whole ≡ front ++ take q.taken line =
      ap (take (length front + q.taken)) (e ∙ append_assoc front line rest) ∙ take-append-add front (line ++ rest) q.taken ∙ ap (λ l. front ++ l) within in
      subst (Appends a c) (sym split) (Appends-trans a b c front (take q.taken line) p q.bytes);
}

module _ (names : Table) (earlier i : ℕ) (entries : List Entry) (e : Entry) (a b : Option (List ℕ)) (lt : i < length entries) (at : e ≡ get_or entries i e)
    (p : Appends a b (front_lines names earlier i entries)) where
  -- the next line was written
  pub Appends-line : (c : Option (List ℕ)) (line : List ℕ) → line ≡ line_text names (earlier + i + 1) (entry_of e) → Appends b c line → Appends a c (front_lines names earlier (i + 1) entries)
  Appends-line c line is q =
      subst (Appends a c) (ap (λ l. front_lines names earlier i entries ++ l) is ∙ sym (front_lines-more names earlier i entries e lt at))
      (Appends-trans a b c (front_lines names earlier i entries) line p q)

  -- a part of the next line was written
  pub AppendsPart-line : (c : Option (List ℕ)) (line : List ℕ) → line ≡ line_text names (earlier + i + 1) (entry_of e) → AppendsPart b c line → AppendsPart a c (lines_after names earlier entries)
  AppendsPart-line c line is q =
      let rest = lines_from names (earlier + 1 + length (history_of (take (i + 1) entries))) (history_of (drop (i + 1) entries)) in
      AppendsPart-behind a b c (front_lines names earlier i entries) line rest (lines_after names earlier entries)
      (front_lines-rest names earlier (i + 1) entries ∙ ap (λ l. l ++ rest) (front_lines-more names earlier i entries e lt at ∙ ap (λ l. front_lines names earlier i entries ++ l) (sym is))) p q

  -- nothing of it was
  pub AppendsPart-lines : AppendsPart a b (lines_after names earlier entries)
  AppendsPart-lines =
      AppendsPart-line b (line_text names (earlier + i + 1) (entry_of e)) refl
      (record { taken = 0; short = line_text-some names (earlier + i + 1) (entry_of e); bytes = Appends-nil b })

-- a history whose lines were not all written has entries
pub AppendsPart-some : (names : Table) (h : List plain.Entry) (a b : Option (List ℕ)) → AppendsPart a b (history_text names h) → h ≢ []
AppendsPart-some names [] a b p = absurd (omega (arith, p.short))
AppendsPart-some names (x ∷ h) a b p = λ e. absurd cc

-- what holds anyway
pub OnErr-anyway : {T E : Type 0} (r : Result T E) (P : Type 0) → P → OnErr r P
OnErr-anyway (Ok x) P p = tt
OnErr-anyway (Err e) P p = p
