-- A printed command is never too deep for the stored form.
use Rattle.std.proofs.Common.{◌≡◌, ℕ, zero, suc, ◌-◌, ◌≤◌, List, [], ◌∷◌, refl, sym, subst, arith, inl, inr, take, fold}
use Rattle.std.proofs.lemmas.Bool.{cases_lt}
use Rattle.std.proofs.lemmas.List.{append-nil}
use Rattle.poets_command.specs.Plain.{Command}
use Rattle.poets_lex.specs.declared.token.Sign.TheVariants as S
use Rattle.poets_lex.specs.declared.token.Tok.{Tok}
use Rattle.poets_lex.specs.declared.token.Tok.TheVariants as K
use Rattle.poets_grammar.specs.TooDeep.{open_behind, open_at_end, operators, most_open, most_open_stored}
use Rattle.poets_grammar.specs.TooDeep.{most_operators, IsDeeper, IsTooDeep, IsTooDeepStored}
use Rattle.poets_grammar.specs.Statements.{IsCommand}
use Rattle.poets_printed.specs.Depths.{NeverTooDeepStored}
use Rattle.poets_printed.proofs.Measures.{Fits, one_less, opened, marked}
use Rattle.poets_printed.proofs.Operators.{marked_is}
use Rattle.poets_printed.proofs.WrittenCommands.{written_command, fits_command, count_command}
use Rattle.poets_printed.proofs.WrittenCommandTexts.{cut_command}

-- ---- what fits, as the limits say it

one_less_is : (n : ℕ) → n - 1 ≡ one_less n
one_less_is zero = omega arith
one_less_is (suc n) = omega arith

opened_is : (n : ℕ) (t : Tok) → open_behind n t ≡ opened n t
opened_is n (K.Sign S.LeftParen) = refl
opened_is n (K.Sign S.RightParen) = one_less_is n
opened_is n (K.Sign s) = refl
opened_is n t = refl

fits_of :
    (ts : List Tok) (most n : ℕ) → ((count : ℕ) → fold open_behind n (take count ts) ≤ most) → Fits most n ts
fits_of [] most n h = h 0
fits_of (t ∷ ts) most n h =
    let behind = fits_of ts most (open_behind n t) (λ k. h (suc k)) in
    (h 0, subst (λ (i : ℕ). Fits most i ts) (opened_is n t) behind)

fits_at : (ts : List Tok) (most n : ℕ) → Fits most n ts → (count : ℕ) → fold open_behind n (take count ts) ≤ most
fits_at [] most n h zero = h
fits_at [] most n h (suc k) = h
fits_at (t ∷ ts) most n h zero = h.0
fits_at (t ∷ ts) most n h (suc k) =
    fits_at ts most (open_behind n t) (subst (λ (i : ℕ). Fits most i ts) (sym (opened_is n t)) h.1) k

shallow : (ts : List Tok) → ¬ (IsTooDeep ts) → Fits most_open 0 ts
shallow ts fine = fits_of ts most_open 0 (λ count. elim (cases_lt most_open (open_at_end (take count ts))) [
  | inl b ↦ absurd (fine (IsDeeper.Nested count b))
  | inr b ↦ b
])

short : (ts : List Tok) → ¬ (IsTooDeep ts) → operators ts ≤ most_operators
short ts fine = elim (cases_lt most_operators (operators ts)) [
  | inl b ↦ absurd (fine (IsDeeper.Long b))
  | inr b ↦ b
]

-- ---- the printed command

-- the limit of the stored form is one bracket more
one_more_stored : suc most_open ≡ most_open_stored
one_more_stored = refl

pub printed_fits :
    (read : List Tok) (command : Command) → IsCommand read command → ¬ (IsTooDeep read) →
    Fits most_open_stored 0 (written_command command)
printed_fits read command r fine =
    subst (λ (most : ℕ). Fits most 0 (written_command command)) one_more_stored
    (fits_command most_open r (shallow read fine))

pub printed_short :
    (read : List Tok) (command : Command) → IsCommand read command → ¬ (IsTooDeep read) →
    marked (written_command command) ≤ most_operators
printed_short read command r fine = omega (arith, count_command r, short read fine, marked_is read)

pub not_deeper : (ts : List Tok) → Fits most_open_stored 0 ts → marked ts ≤ most_operators → ¬ (IsTooDeepStored ts)
not_deeper ts low few (IsDeeper.Nested count b) = omega (arith, b, fits_at ts most_open_stored 0 low count)
not_deeper ts low few (IsDeeper.Long b) = omega (arith, b, few, marked_is ts)

pub never_too_deep_stored : NeverTooDeepStored
never_too_deep_stored names command read all whole can r fine =
    let cut = (rw append-nil at (cut_command names all command whole can)).at 0 in
    let low = printed_fits read command r fine in
    let few = printed_short read command r fine in
    (cut.0, cut.1, rw cut.2 (not_deeper (written_command command) low few))
