-- The brackets that are open at each place of a statement.
use Rattle.std.proofs.Common.{◌≡◌, ℕ, ◌+◌, ◌<◌, ◌≤◌, inl, inr, List, take, length, get_or, max, sym, ap, ◌∙◌, arith}
use Rattle.std.proofs.lemmas.Bool.{cases_lt}
use Rattle.std.proofs.lemmas.List.{take_all, length-map, get_or-map}
use Rattle.std.proofs.lemmas.List.Sums.{fold_more}
use Rattle.poets_lex.specs.declared.token.Sign.TheVariants as S
use Rattle.poets_lex.specs.declared.token.Tok.{Tok}
use Rattle.poets_lex.specs.declared.token.Tok.TheVariants as K
use Rattle.poets_lex.specs.declared.token.Token.{Token}
use Rattle.poets_grammar.specs.Tokens.{toks}
use Rattle.poets_grammar.specs.TooDeep.{open_behind, open_at_end, most_operators, operators, IsDeeper}

-- of the tokens before a place: how many brackets are open after them, and the most that are open anywhere
pub record Measured (ts : List Tok) (place open_here deepest : ℕ) : Type 0 where
  pub here : open_here ≡ open_at_end (take place ts)
  pub few : open_here ≤ place
  pub most : (count : ℕ) → count ≤ place → open_at_end (take count ts) ≤ deepest
  pub reached : (count : ℕ) × (open_at_end (take count ts) ≡ deepest)

few_behind : (n : ℕ) (t : Tok) → open_behind n t ≤ n + 1
few_behind n (K.Sign S.LeftParen) = omega arith
few_behind n (K.Sign S.RightParen) = omega arith
few_behind n _ = omega arith

behind : (tokens : List Token) (place n : ℕ) (t : Token) → place < length tokens → t ≡ get_or tokens place t →
    n ≡ open_at_end (take place (toks tokens)) → open_at_end (take (place + 1) (toks tokens)) ≡ open_behind n t.what
behind tokens place n t l e h =
    let f : Token → Tok = λ x. x.what in
    fold_more open_behind 0 (toks tokens) place t.what (omega (arith, length-map tokens f))
    ∙ ap (λ (x : Tok). open_behind (open_at_end (take place (toks tokens))) x) (get_or-map f tokens place t t.what l ∙ ap f (sym e))
    ∙ ap (λ (x : ℕ). open_behind x t.what) (sym h)

-- one more token
pub measured_more : (tokens : List Token) (place here deepest next deeper : ℕ) (t : Token) → place < length tokens → t ≡ get_or tokens place t →
    next ≡ open_behind here t.what → deeper ≡ max next deepest → Measured (toks tokens) place here deepest → Measured (toks tokens) (place + 1) next deeper
measured_more tokens place here deepest next deeper t l e o x m =
    let more : open_at_end (take (place + 1) (toks tokens)) ≡ next = behind tokens place here t l e m.here ∙ sym o in
    record {
      here = sym more;
      few = omega (arith, few_behind here t.what, m.few);
      most = λ count h. elim (cases_lt place count) [
        | inl b ↦ let q : count ≡ place + 1 = omega arith in rw q (omega (arith, more))
        | inr b ↦ omega (arith, m.most count b)
      ];
      reached = elim (cases_lt next deepest) [
        | inl b ↦ (m.reached.0, omega (arith, m.reached.1))
        | inr b ↦ (place + 1, omega (arith, more))
      ];
    }

-- nothing is missed at the end
pub all_measured : (tokens : List Token) (place here deepest : ℕ) → length tokens ≤ place → Measured (toks tokens) place here deepest → (count : ℕ) →
    open_at_end (take count (toks tokens)) ≤ deepest
all_measured tokens place here deepest l m count =
    let n : length (toks tokens) ≡ length tokens = length-map tokens (λ x. x.what) in
    elim (cases_lt place count) [
      | inl b ↦ let whole : take count (toks tokens) ≡ take place (toks tokens) = take_all count (toks tokens) (omega arith) ∙ sym (take_all place (toks tokens) (omega arith)) in
          rw whole (m.most place (omega arith))
      | inr b ↦ m.most count b
    ]

pub deep : (most : ℕ) (ts : List Tok) (deepest : ℕ) → (count : ℕ) × (open_at_end (take count ts) ≡ deepest) → most < deepest → IsDeeper most ts
deep most ts deepest r l = IsDeeper.Nested r.0 (omega (arith, r.1))

pub only_deep : (most : ℕ) (ts : List Tok) (deepest : ℕ) → ((count : ℕ) → open_at_end (take count ts) ≤ deepest) → deepest ≤ most → IsDeeper most ts → most_operators < operators ts
only_deep most ts deepest h l (IsDeeper.Nested count n) = absurd (omega (arith, h count))
only_deep most ts deepest h l (IsDeeper.Long n) = n
